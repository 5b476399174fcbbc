use Rattle.std.proofs.Common.{ℕ, List, length, ap, ◌∙◌}
use Rattle.std.proofs.lemmas.List.FromFn.{length-map-range_with_len}
use Rattle.wp_task.specs.Set.{lists, set_of}
use Rattle.wp_fixtures.proofs.tasks.state_of.Goals as goal

pub returns-clause-size : goal.returns-clause-size
returns-clause-size c = ap length c.in_ok-state.ensures ∙ length-map-range_with_len (lists c.in_ok-atoms.atoms) 0 c.args.size

pub returns-clause-value : goal.returns-clause-value
returns-clause-value c = c.in_ok-state.ensures ∙ ap (λ (l : List ℕ). set_of l c.args.size) c.in_ok-atoms.ensures.value
