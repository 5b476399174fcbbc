-- Nodes stay linked when one more is kept.
use Rattle.std.proofs.Common.{◌≡◌, ◌≢◌, ◌<◌, ℕ, List, [], ◌∷◌, ◌++◌, length, Option, Some, None, IfSome, subst}
use Rattle.std.specs.List.{All}
use Rattle.std.proofs.lemmas.List.Elements.{All-push, All-weaker, All-contains}
use Rattle.std.proofs.lemmas.List.Quantifiers.{all_pairs_push}
use Rattle.wp_nodes.specs.declared.kept.Back.{Back}
use Rattle.wp_nodes.specs.declared.kept.Kept.{Kept}
use Rattle.wp_nodes.specs.KeptNodes.{Keeping, IsKept, HasParent, AreLinked}
use Rattle.wp_nodes.proofs.NumberLemmas.{kept_node, kept_more}

has_parent_more : (kept more : List Kept) (k : Kept) → HasParent kept k → HasParent (kept ++ more) k
has_parent_more kept more k h = by k.back h
  where
    by : (back : Option Back) → IfSome back (λ b. (b.parent < k.number) × IsKept kept b.parent) → IfSome back (λ b. (b.parent < k.number) × IsKept (kept ++ more) b.parent)
    by None there = tt
    by (Some b) there = (there.0, kept_more kept more b.parent there.1)

has_parent_new : (kept : List Kept) (node : Kept) → All (λ k. k.number < node.number) kept → IfSome node.back (λ back. IsKept kept back.parent) → HasParent (kept ++ node ∷ []) node
has_parent_new kept node later h = by node.back h
  where
    by : (back : Option Back) → IfSome back (λ b. IsKept kept b.parent) → IfSome back (λ b. (b.parent < node.number) × IsKept (kept ++ node ∷ []) b.parent)
    by None there = tt
    by (Some b) there =
        let parent : (k : Kept) × _ × (k.number ≡ b.parent) = kept_node kept b.parent there in
        let less : parent.0.number < node.number = All-contains (λ (k : Kept). k.number < node.number) kept parent.0 later parent.1 in
        let lower : b.parent < node.number = subst (λ (n : ℕ). n < node.number) parent.2 less in
        (lower, kept_more kept (node ∷ []) b.parent there)

pub linked_more : (nodes : Keeping) (node : Kept) → AreLinked nodes →
    All (λ k. k.number < node.number) nodes.kept → All (λ k. k.state ≢ node.state) nodes.kept →
    IfSome node.back (λ back. IsKept nodes.kept back.parent) → node.mark.track < length nodes.tracks →
    AreLinked (record { kept = nodes.kept ++ node ∷ []; tracks = nodes.tracks })
linked_more nodes node linked later new parent track = record {
  rising = all_pairs_push (λ (x y : Kept). x.number < y.number) nodes.kept node linked.rising later;
  apart = all_pairs_push (λ (x y : Kept). x.state ≢ y.state) nodes.kept node linked.apart new;
  parents = All-push (HasParent (nodes.kept ++ node ∷ [])) nodes.kept node
      (All-weaker (HasParent nodes.kept) (HasParent (nodes.kept ++ node ∷ [])) (λ k h. has_parent_more nodes.kept (node ∷ []) k h) nodes.kept linked.parents)
      (has_parent_new nodes.kept node later parent);
  tracked = All-push (λ (k : Kept). k.mark.track < length nodes.tracks) nodes.kept node linked.tracked track;
}
