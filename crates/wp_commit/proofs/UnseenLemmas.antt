-- A state among those of kept nodes, by what a look-up answers.
use Rattle.std.proofs.Common.{cond, [], ◌∷◌, ◌≡◌, ◌≢◌, ◌==◌, ◌||◌, ℕ, Bool, true, false, List, ◌++◌, map, Option, Some, None, IfSome, IfNone, is_some, refl, sym, ap, ◌∙◌}
use Rattle.std.specs.Bool.{beq}
use Rattle.std.specs.Cmp.{booleans_Decides}
use Rattle.std.specs.Cmp.Lexicographic.{pointwise}
use Rattle.std.specs.List.{All, Contains, list_any}
use Rattle.std.proofs.lemmas.Bool.{cond-true}
use Rattle.std.proofs.lemmas.List.Elements.{All-weaker}
use Rattle.std.proofs.lemmas.List.Folds.{list_any-append, list_any_none, list_any_at}
use Rattle.std.proofs.lemmas.Slice.Eq.{slice_eq-Decides}
use Rattle.wp_nodes.specs.declared.kept.Kept.{Kept}
use Rattle.wp_nodes.specs.KeptNodes.{HasState, has_state}
use Rattle.wp_nodes.proofs.NumberLemmas.{find-gives}
use Rattle.wp_nodes.proofs.StateLemmas.{other_state}
use Rattle.wp_plain.proofs.ListLemmas.{list_any-map}
use Rattle.indexmap.specs.IndexSet.{insert_key}
use Rattle.wp_commit.specs.declared.unseen.Reached.{Reached}
use Rattle.wp_commit.specs.Expansions.{states_of}

is_kept_state : (kept : List Kept) (state : List Bool) (number : ℕ) → HasState kept state number → list_any (pointwise beq state) (states_of kept) ≡ true
is_kept_state kept state number (k, found, same) =
    let there : Contains kept k = (find-gives (λ (x : Kept). x.number == number) kept k found).0 in
    let here : has_state state k ≡ true = (slice_eq-Decides booleans_Decides state k.state (has_state state k) refl).1 (sym same) in
    list_any-map (pointwise beq state) (λ (x : Kept). x.state) kept
    ∙ list_any_at (has_state state) kept there.0 k there.1 (ap (has_state state) there.2 ∙ here)

no_kept_state : (kept : List Kept) (state : List Bool) → All (λ k. k.state ≢ state) kept → list_any (pointwise beq state) (states_of kept) ≡ false
no_kept_state kept state none =
    list_any-map (pointwise beq state) (λ (x : Kept). x.state) kept
    ∙ list_any_none (has_state state) kept (All-weaker (λ k. k.state ≢ state) (λ k. has_state state k ≡ false) (λ k h. other_state state k h) kept none)

-- where a node with the state was found, the state is among the states
pub found-repeat : (kept : List Kept) (seen : List (List Bool)) (state : List Bool) (found : Option ℕ) → IfSome found (HasState kept state) → is_some found ≡ true →
    list_any (pointwise beq state) (states_of kept ++ seen) ≡ true
found-repeat kept seen state None has some = absurd (cc)
found-repeat kept seen state (Some number) has some =
    list_any-append (pointwise beq state) (states_of kept) seen
    ∙ ap (λ (b : Bool). b || list_any (pointwise beq state) seen) (is_kept_state kept state number has)

-- and where none was found, it is where it was seen
pub unfound-repeat : (kept : List Kept) (seen : List (List Bool)) (state : List Bool) (found : Option ℕ) → IfNone found (All (λ k. k.state ≢ state) kept) → is_some found ≡ false →
    list_any (pointwise beq state) (states_of kept ++ seen) ≡ list_any (pointwise beq state) seen
unfound-repeat kept seen state None none is =
    list_any-append (pointwise beq state) (states_of kept) seen
    ∙ ap (λ (b : Bool). b || list_any (pointwise beq state) seen) (no_kept_state kept state none)
unfound-repeat kept seen state (Some number) none is = absurd (cc)

-- what becomes of the states so far with one more, where it is that of a kept node, and where it is not
abbrev pub with_unseen : {T : Type 0} → List Kept → List (Reached T) → Reached T → List (Reached T)
with_unseen kept before x =
    cond (list_any (pointwise beq x.state) (states_of kept ++ map (λ y. y.state) before)) before (before ++ x ∷ [])

pub unseen-kept : {T : Type 0} (kept : List Kept) (before : List (Reached T)) (x : Reached T) (found : Option ℕ) →
    IfSome found (HasState kept x.state) → is_some found ≡ true → before ≡ with_unseen kept before x
unseen-kept kept before x found has some =
    sym (cond-true (list_any (pointwise beq x.state) (states_of kept ++ map (λ y. y.state) before)) before (before ++ x ∷ [])
    (found-repeat kept (map (λ y. y.state) before) x.state found has some))

pub unseen-inserted : {T : Type 0} (kept : List Kept) (before : List (Reached T)) (x : Reached T) (found : Option ℕ) →
    IfNone found (All (λ k. k.state ≢ x.state) kept) → is_some found ≡ false →
    insert_key (λ (a b : Reached T). pointwise beq a.state b.state) before x ≡ with_unseen kept before x
unseen-inserted {T = T} kept before x found none is =
    ap (λ b. cond b before (before ++ x ∷ []))
    (sym (unfound-repeat kept (map (λ y. y.state) before) x.state found none is
    ∙ list_any-map (pointwise beq x.state) (λ (y : Reached T). y.state) before))
