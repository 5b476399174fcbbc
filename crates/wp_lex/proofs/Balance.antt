-- The brackets of a text without a fault match: by induction on the places that are left, the items from a place on close
-- the lists that stand open there.
use Rattle.std.proofs.Common.{◌≡◌, ℕ, zero, suc, ◌+◌, ◌-◌, ◌≤◌, ◌<◌, Bool, true, false, cond, not, ◌&&◌, eqb, List, [], ◌∷◌, Option, None, Some, length, drop, refl, sym, ap, subst, ◌∙◌, arith, zero-add, ne_eqb, eq-eqb}
use Rattle.std.specs.Prelude.{filter_map}
use Rattle.std.specs.List.{range_with_len, cons_option}
use Rattle.wp_lex.specs.declared.error.LexError.{LexError}
use Rattle.wp_lex.specs.declared.error.LexError.TheVariants.{Unclosed, Empty}
use Rattle.wp_lex.specs.declared.item.Item.{Item}
use Rattle.wp_lex.specs.declared.item.Item.TheVariants.{Word, Open, Close}
use Rattle.wp_lex.specs.declared.place.Source.{Source}
use Rattle.wp_lex.specs.declared.place.Source.TheVariants.{Pddl, Plan}
use Rattle.wp_lex.specs.declared.place.Class.{Class}
use Rattle.wp_lex.specs.declared.place.Class.TheVariants.{Letter, Opens, Closes, Blank, Bad}
use Rattle.wp_lex.specs.declared.place.Place.{Place}
use Rattle.wp_lex.specs.Words.{class_at, word_of}
use Rattle.wp_lex.specs.Places.{place_at, place_behind, depth_of}
use Rattle.wp_lex.specs.Faults.{is_skipped, is_missing, outside_fault, fault_by, fault_at, fault_from, first_of, fault_of, plan_fault_of}
use Rattle.wp_lex.specs.Items.{item_by, item_at, items_of, plan_items_of}
use Rattle.wp_lex.specs.Trees.{Leaf, Branch, Trees, End, Then}
use Rattle.wp_lex.specs.Lists.{spelled, IsOneList, AreLists}
use Rattle.wp_lex.proofs.Steps.{place_at-more, faults_from, fault_behind, fault_from-step, fault_from-behind}

-- the items close `depth` lists, and what stands behind the outermost is nothing, or lists in a plan file
abbrev Completes : Source → ℕ → List Item → Type 0
Completes Pddl zero items = items ≡ []
Completes Plan zero items = AreLists items
Completes source (suc depth) items =
    (trees : Trees) × (behind : List Item) × (items ≡ spelled trees (Close ∷ behind)) × Completes source depth behind

-- the same from a place on, where a PDDL text still has to have its list if none was opened
abbrev Follows : Source → ℕ → ℕ → List Item → Type 0
Follows Pddl zero depth items = IsOneList items
Follows Pddl (suc opened) depth items = Completes Pddl depth items
Follows Plan opened depth items = Completes Plan depth items

completes-word : (source : Source) (depth : ℕ) (text : List ℕ) (at : ℕ) (items : List Item)
    → Completes source (suc depth) items → Completes source (suc depth) (Word text at ∷ items)
completes-word Pddl depth text at items (trees, behind, e, rest) =
    (Then (Leaf text at) trees, behind, ap (λ items. Word text at ∷ items) e, rest)
completes-word Plan depth text at items (trees, behind, e, rest) =
    (Then (Leaf text at) trees, behind, ap (λ items. Word text at ∷ items) e, rest)

completes-close : (source : Source) (depth : ℕ) (items : List Item)
    → Completes source depth items → Completes source (suc depth) (Close ∷ items)
completes-close Pddl depth items rest = (End, items, refl, rest)
completes-close Plan depth items rest = (End, items, refl, rest)

-- a list in front of what closes another
joined : (at : ℕ) (inner trees : Trees) (items behind behind' : List Item)
    → items ≡ spelled inner (Close ∷ behind) → behind ≡ spelled trees behind'
    → Open at ∷ items ≡ spelled (Then (Branch at inner) trees) behind'
joined at inner trees items behind behind' e f = ap (λ items. Open at ∷ items) (e ∙ ap (λ items. spelled inner (Close ∷ items)) f)

completes-open : (source : Source) (depth at : ℕ) (items : List Item)
    → Completes source (suc (suc depth)) items → Completes source (suc depth) (Open at ∷ items)
completes-open Pddl depth at items (inner, behind, e, (trees, last, f, rest)) =
    (Then (Branch at inner) trees, last, joined at inner trees items behind (Close ∷ last) e f, rest)
completes-open Plan depth at items (inner, behind, e, (trees, last, f, rest)) =
    (Then (Branch at inner) trees, last, joined at inner trees items behind (Close ∷ last) e f, rest)

one_list : (at : ℕ) (items : List Item) → Completes Pddl 1 items → IsOneList (Open at ∷ items)
one_list at items (inner, behind, e, none) =
    (at, inner, ap (λ items. Open at ∷ items) (e ∙ ap (λ items. spelled inner (Close ∷ items)) none))

first_list : (at : ℕ) (items : List Item) → Completes Plan 1 items → AreLists (Open at ∷ items)
first_list at items (inner, behind, e, (trees, all, f)) =
    (Then (Branch at inner) trees, all, joined at inner trees items behind [] e f)

-- a letter
follows-letter : (source : Source) (opened depth : ℕ) (continues skipped : Bool) (fault : LexError) (text : List ℕ) (at : ℕ)
    (items : List Item) → depth ≤ opened
    → cond continues None (cond (eqb depth 0 && not skipped) (Some fault) None) ≡ None
    → Follows source opened depth items
    → Follows source opened depth (cons_option (cond continues None (cond skipped None (Some (Word text at)))) items)
follows-letter source opened depth true skipped fault text at items h none rest = rest
follows-letter source opened depth false true fault text at items h none rest = rest
follows-letter source opened zero false false fault text at items h none rest = cc
follows-letter Pddl zero (suc depth) false false fault text at items h none rest = absurd (omega arith)
follows-letter Pddl (suc opened) (suc depth) false false fault text at items h none rest = completes-word Pddl depth text at items rest
follows-letter Plan opened (suc depth) false false fault text at items h none rest = completes-word Plan depth text at items rest

-- an opening bracket
opens-pddl : (opened depth at : ℕ) (fault : LexError) (other : Option LexError) (items : List Item) → depth ≤ opened
    → cond (eqb depth 0 && not (eqb opened 0)) (Some fault) other ≡ None
    → Completes Pddl (suc depth) items → Follows Pddl opened depth (Open at ∷ items)
opens-pddl zero zero at fault other items h none rest = one_list at items rest
opens-pddl zero (suc depth) at fault other items h none rest = absurd (omega arith)
opens-pddl (suc opened) zero at fault other items h none rest =
    let apart : eqb (suc opened) 0 ≡ false = ne_eqb (suc opened) 0 (λ e. omega arith) in cc
opens-pddl (suc opened) (suc depth) at fault other items h none rest = completes-open Pddl depth at items rest

opens-plan : (depth at : ℕ) (items : List Item) → Completes Plan (suc depth) items → Completes Plan depth (Open at ∷ items)
opens-plan zero at items rest = first_list at items rest
opens-plan (suc depth) at items rest = completes-open Plan depth at items rest

-- a closing bracket
follows-closes : (source : Source) (opened depth next : ℕ) (fault : LexError) (items : List Item) → depth ≤ opened
    → cond (eqb depth 0) (Some fault) None ≡ None → next ≡ depth - 1
    → Follows source opened next items → Follows source opened depth (Close ∷ items)
follows-closes source opened zero next fault items h none e rest = cc
follows-closes Pddl zero (suc depth) next fault items h none e rest = absurd (omega arith)
follows-closes Pddl (suc opened) (suc depth) next fault items h none e rest =
    let same : next ≡ depth = omega arith in
    completes-close Pddl depth items (subst (λ n. Completes Pddl n items) same rest)
follows-closes Plan opened (suc depth) next fault items h none e rest =
    let same : next ≡ depth = omega arith in
    completes-close Plan depth items (subst (λ n. Completes Plan n items) same rest)

-- the end
ends : (source : Source) (opened depth : ℕ) (missing : Bool) → depth ≤ opened → (source ≡ Pddl → opened ≡ 0 → missing ≡ true)
    → cond (not (eqb depth 0)) (Some Unclosed) (cond missing (Some Empty) None) ≡ None → Follows source opened depth []
ends Pddl zero zero missing h is none = let yes' : missing ≡ true = is refl refl in cc
ends Pddl zero (suc depth) missing h is none = absurd (omega arith)
ends Pddl (suc opened) zero missing h is none = refl
ends Pddl (suc opened) (suc depth) missing h is none =
    let apart : eqb (suc depth) 0 ≡ false = ne_eqb (suc depth) 0 (λ e. omega arith) in cc
ends Plan opened zero missing h is none = (End, tt, refl)
ends Plan opened (suc depth) missing h is none =
    let apart : eqb (suc depth) 0 ≡ false = ne_eqb (suc depth) 0 (λ e. omega arith) in cc

moved : (source : Source) (place : Place) (opened depth : ℕ) (items : List Item) → place.opened ≡ opened
    → depth_of place ≡ depth → Follows source place.opened (depth_of place) items → Follows source opened depth items
moved source place opened depth items e f rest =
    subst (λ n. Follows source opened n items) f (subst (λ n. Follows source n (depth_of place) items) e rest)

-- one place
step : (source : Source) (class : Class) (place : Place) (rest : List ℕ) (items : List Item) → place.closed ≤ place.opened
    → fault_by source class place rest ≡ None
    → Follows source (place_behind class place).opened (depth_of (place_behind class place)) items
    → Follows source place.opened (depth_of place) (cons_option (item_by source class place rest) items)
step source Letter place rest items h none follows =
    follows-letter source place.opened (depth_of place) place.continues (is_skipped source place (word_of rest))
    (outside_fault source place) (word_of rest) place.at items (omega arith) none
    (moved source (place_behind Letter place) place.opened (depth_of place) items (omega arith) (omega arith) follows)
step Pddl Opens place rest items h none follows =
    opens-pddl place.opened (depth_of place) place.at _ _ items (omega arith) none
    (moved Pddl (place_behind Opens place) (suc place.opened) (suc (depth_of place)) items (omega arith) (omega arith) follows)
step Plan Opens place rest items h none follows =
    opens-plan (depth_of place) place.at items
    (moved Plan (place_behind Opens place) (suc place.opened) (suc (depth_of place)) items (omega arith) (omega arith) follows)
step source Closes place rest items h none follows =
    follows-closes source place.opened (depth_of place) (depth_of place - 1) (outside_fault source place) items (omega arith) none refl
    (moved source (place_behind Closes place) place.opened (depth_of place - 1) items (omega arith) (omega arith) follows)
step source Blank place rest items h none follows =
    moved source (place_behind Blank place) place.opened (depth_of place) items (omega arith) (omega arith) follows
step source Bad place rest items h none follows = cc

closing_is_inside : (depth : ℕ) (fault : LexError) → cond (eqb depth 0) (Some fault) None ≡ None → 0 < depth
closing_is_inside zero fault none = cc
closing_is_inside (suc depth) fault none = omega arith

kept : (source : Source) (class : Class) (place : Place) (rest : List ℕ) → place.closed ≤ place.opened
    → fault_by source class place rest ≡ None → (place_behind class place).closed ≤ (place_behind class place).opened
kept source Letter place rest h none = omega arith
kept source Opens place rest h none = omega arith
kept source Closes place rest h none =
    let inside : 0 < depth_of place = closing_is_inside (depth_of place) (outside_fault source place) none in omega arith
kept source Blank place rest h none = omega arith
kept source Bad place rest h none = omega arith

first_of-None : (fault last : Option LexError) (faults : List (Option LexError)) → first_of (fault ∷ faults) last ≡ None
    → (fault ≡ None) × (first_of faults last ≡ None)
first_of-None None last faults none = (refl, none)
first_of-None (Some fault) last faults none = (cc, cc)

missing_if_none : (source : Source) (place : Place) → source ≡ Pddl → place.opened ≡ 0 → is_missing source place ≡ true
missing_if_none Pddl place e zero_opened = eq-eqb place.opened 0 zero_opened
missing_if_none Plan place e zero_opened = cc

-- from a place on
follows : (n : ℕ) (source : Source) (text : List ℕ) (i : ℕ) → length text ≡ i + n
    → (place_at text i).closed ≤ (place_at text i).opened → fault_from source text i ≡ None
    → Follows source (place_at text i).opened (depth_of (place_at text i)) (filter_map (item_at source text) (range_with_len i n))
follows zero source text i e h none =
    let behind : i ≡ length text = omega arith in
    let place = place_at text i in
    ends source place.opened (depth_of place) (is_missing source place) (omega arith) (missing_if_none source place)
    (fault_from-behind source text i place behind refl ∙ none)
follows (suc n) source text i e h none =
    let inside : i < length text = omega arith in
    let after : length text ≡ (i + 1) + n = omega arith in
    let parts = first_of-None (fault_at source text i) (fault_behind source text) (faults_from source text (i + 1))
    (sym (fault_from-step source text i inside) ∙ none) in
    let place = place_at text i in
    let class = class_at text i in
    let more = place_at-more text i in
    let P : Place → Type 0 = λ p. Follows source p.opened (depth_of p) (filter_map (item_at source text) (range_with_len (i + 1) n)) in
    let Q : Place → Type 0 = λ p. p.closed ≤ p.opened in
    step source class place (drop i text) (filter_map (item_at source text) (range_with_len (i + 1) n)) h parts.0
    (subst P more
    (follows n source text (i + 1) after (subst Q (sym more) (kept source class place (drop i text) h parts.0)) parts.1))

pub texts_are_lists : (text : List ℕ) → fault_of text ≡ None → IsOneList (items_of text)
texts_are_lists text none = follows (length text) Pddl text 0 (sym (zero-add (length text))) (omega arith) none

pub plans_are_lists : (text : List ℕ) → plan_fault_of text ≡ None → AreLists (plan_items_of text)
plans_are_lists text none = follows (length text) Plan text 0 (sym (zero-add (length text))) (omega arith) none
