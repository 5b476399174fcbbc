use Rattle.std.proofs.Common.{◌≡◌, [], false, replicate, List, ℕ, ap, sym, ◌∙◌}
use Rattle.std.proofs.lemmas.List.{length-replicate}
use Rattle.wp_task.specs.Set.{lists, set_of}
use Rattle.wp_task.proofs.SetLemmas.{has-replicate, set_by_flags}
use Rattle.wp_count.proofs.counters.no_atoms.Goals as goal

empty_set : (n : ℕ) → set_of [] n ≡ replicate n false
empty_set n = sym (set_by_flags (lists []) (replicate n false) n (length-replicate n false) (has-replicate n))

pub returns : goal.returns
returns c = c.in_ok-state.ensures ∙ (ap (λ (l : List ℕ). set_of l c.args.size) (c.of_vec.ensures ∙ c.new.ensures.items) ∙ empty_set c.args.size)
