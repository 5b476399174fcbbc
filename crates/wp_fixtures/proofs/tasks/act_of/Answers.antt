use Rattle.std.proofs.Common.{ℕ, List, ap, sym, ◌∙◌}
use Rattle.wp_task.specs.Set.{lists}
use Rattle.wp_fixtures.proofs.tasks.act_of.Goals as goal

pub returns-clause-fits : goal.returns-clause-fits
returns-clause-fits c = record {
  needs = c.in_ok-pre.ensures.fits;
  adds = c.in_ok-add.ensures.fits;
  deletes = c.in_ok-del.ensures.fits;
  apart = λ p added.
      ap (λ (l : List ℕ). lists l p) (sym c.as_slice-2.ensures)
      ∙ c.in_ok-check_apart.ensures p (ap (λ (l : List ℕ). lists l p) c.as_slice.ensures ∙ added);
}
