-- The actions of a path, by the links back to the root.
use Rattle.std.proofs.Common.{◌≡◌, ℕ, ◌<◌, List, [], ◌∷◌, ◌++◌, Option, Some, None, length, reverse, refl, sym, ap, ◌∙◌, subst, append_assoc}
use Rattle.std.specs.Prelude.{IfSome}
use Rattle.std.proofs.lemmas.List.{reverse-append}
use Rattle.wp_task.specs.Task.{PlanningTask}
use Rattle.wp_plain.specs.declared.explored.Link.{Link}
use Rattle.wp_plain.specs.Nodes.{Path, path_at}
use Rattle.wp_plain.specs.Explored.{node_at, way_at, path_over, Lists, AreReached}

module _ (task : PlanningTask) (paths : List Path) (lists : Lists) (at : ℕ) (reached : AreReached task paths lists) (within : at < length lists.nodes) where
  pub parent-before : (link : Link) → (way_at lists.ways at).back ≡ Some link → link.parent < at
  parent-before link is = subst (λ back. IfSome back (λ l. l.parent < at)) is (reached.each at within).parent

  -- one link further back, and its action before those that were found
  pub acts-back : (link : Link) (acts : List ℕ) → (way_at lists.ways at).back ≡ Some link →
      (path_at paths link.parent).acts ++ reverse (acts ++ link.act ∷ []) ≡ (path_at paths at).acts ++ reverse acts
  acts-back link acts is =
      let state = (node_at lists.nodes at).generated.state in
      ap (λ l. (path_at paths link.parent).acts ++ l) (reverse-append acts (link.act ∷ []))
      ∙ (sym (append_assoc (path_at paths link.parent).acts (link.act ∷ []) (reverse acts))
      ∙ ap (λ p. p.acts ++ reverse acts) (sym ((reached.each at within).path ∙ ap (path_over paths state) is)))

  -- without a link there is no action
  pub acts-root : ((link : Link) → (way_at lists.ways at).back ≡ Some link → ⊥) → (path_at paths at).acts ≡ []
  acts-root none = ap (λ p. p.acts) (reached.each at within).path ∙ by (way_at lists.ways at).back none where
    by : (back : Option Link) → ((link : Link) → back ≡ Some link → ⊥) → (path_over paths (node_at lists.nodes at).generated.state back).acts ≡ []
    by None other = refl
    by (Some link) other = absurd (other link refl)
