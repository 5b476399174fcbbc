use Rattle.std.proofs.Common.{◌≡◌, ◌-◌, ◌≤◌, not}
use Rattle.std.specs.List.{filter, range_with_len}
use Rattle.wp_task.specs.Set.{has}
use Rattle.wp_novel.specs.Births.{is_new}
use Rattle.wp_novel.proofs.birth.parts_of.Given as goal

abbrev pub invariant-loop-p : goal.invariant-loop-p
invariant-loop-p l = record {
  within : l.from ≤ l.size;
  new_listed : l.parts.new_atoms.items ≡ filter (is_new l.fresh) (filter (has l.state) (range_with_len 0 l.from));
  old_listed : l.parts.old_atoms.items ≡ filter (λ p. not (is_new l.fresh p)) (filter (has l.state) (range_with_len 0 l.from));
}

abbrev pub decreases-loop-p : goal.decreases-loop-p
decreases-loop-p l = l.size - l.from
