use Rattle.std.proofs.Common.{◌≡◌, ◌≤◌, not, ℕ, List, length, sym, ap, ◌∙◌, subst, arith}
use Rattle.std.specs.List.{count_by}
use Rattle.std.proofs.lemmas.List.Sums.{count_by-le-length}
use Rattle.wp_task.specs.Set.{has}
use Rattle.wp_task.specs.Many.{IsSetOf}
use Rattle.wp_task.proofs.SetLemmas.{few_atoms}
use Rattle.wp_task.proofs.task.Task.unmet_goals.Goals as goal

pub count_missing-requires : goal.count_missing-requires
count_missing-requires c = subst (IsSetOf c.self.inside.goal_set) (sym c.as_slice.ensures) c.self.invariant.goal_set

pub overflow_cast-result : goal.overflow_cast-result
overflow_cast-result c =
    let few : length c.self.inside.goals ≤ c.self.inside.atoms = few_atoms c.self.inside.atoms c.self.inside.goals c.self.invariant.fits.goal_atoms in
    let is : c.count_missing.result ≡ count_by (λ p. not (has c.args.s.now p)) c.self.inside.goals =
    c.count_missing.ensures ∙ ap (λ (l : List ℕ). count_by (λ p. not (has c.args.s.now p)) l) c.as_slice.ensures in
    omega (arith, is, few, count_by-le-length (λ p. not (has c.args.s.now p)) c.self.inside.goals, c.self.invariant.fits.few_atoms)
