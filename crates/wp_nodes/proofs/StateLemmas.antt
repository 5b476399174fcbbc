-- What the test of a state tells, of one node and of a list.
use Rattle.std.proofs.Common.{◌≡◌, ◌≢◌, Bool, true, false, cond, List, [], ◌∷◌, ◌++◌, refl, sym, ap}
use Rattle.std.specs.Cmp.{booleans_Decides}
use Rattle.std.specs.List.{All}
use Rattle.std.proofs.lemmas.Bool.{both_ways, false_from_ne_true}
use Rattle.std.proofs.lemmas.List.Elements.{All-weaker}
use Rattle.std.proofs.lemmas.List.Folds.{list_any_none}
use Rattle.std.proofs.lemmas.Slice.Eq.{slice_eq-Decides}
use Rattle.indexmap.specs.IndexSet.{insert_key}
use Rattle.wp_nodes.specs.declared.kept.Kept.{Kept}
use Rattle.wp_nodes.specs.KeptNodes.{has_state}

pub same_state : (state : List Bool) (k : Kept) → has_state state k ≡ true → k.state ≡ state
same_state state k h = sym ((slice_eq-Decides booleans_Decides state k.state (has_state state k) refl).0 h)

pub no_state : (state : List Bool) (k : Kept) → has_state state k ≡ false → k.state ≢ state
no_state state k h same = both_ways (has_state state k) h ((slice_eq-Decides booleans_Decides state k.state (has_state state k) refl).1 (sym same))

pub other_state : (state : List Bool) (k : Kept) → k.state ≢ state → has_state state k ≡ false
other_state state k h = false_from_ne_true (has_state state k) (λ e. h (same_state state k e))

-- a node with a new state goes last
pub keys_after : (kept : List Kept) (node : Kept) → All (λ k. k.state ≢ node.state) kept →
    insert_key (λ a b. has_state a.state b) kept node ≡ kept ++ node ∷ []
keys_after kept node new = ap (λ b. cond b kept (kept ++ node ∷ []))
    (list_any_none (has_state node.state) kept (All-weaker (λ k. k.state ≢ node.state) (λ k. has_state node.state k ≡ false) (λ k h. other_state node.state k h) kept new))
