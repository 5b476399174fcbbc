use Rattle.std.proofs.Common.{◌≤◌, ◌∙◌, List, length, sym, subst}
use Rattle.std.specs.List.{All}
use Rattle.wp_nodes.specs.KeptNodes.{IsKept}
use Rattle.wp_ahead.specs.Jobs.{Job}
use Rattle.wp_ahead.proofs.FrontLemmas.{front_kept, front_few}
use Rattle.wp_ahead.proofs.broods.Broods.jobs.Goals as goal

pub jobs_for-requires : goal.jobs_for-requires
jobs_for-requires c =
    subst (All (IsKept c.args.nodes.now.kept)) (sym (c.as_slice-2.ensures ∙ c.in_ok-numbers.ensures.numbers))
    (front_kept c.args.nodes.now.kept c.args.queue.now c.args.ahead c.requires)

pub returns-clause-few : goal.returns-clause-few
returns-clause-few c =
    subst (λ (l : List Job). length l ≤ c.args.ahead) (sym c.of_vec.ensures)
    (front_few c.args.queue.now c.args.ahead c.keep_only.new.kept.entries c.as_slice-2.result.now c.in_ok-jobs.jobs.items
    (c.as_slice-2.ensures ∙ c.in_ok-numbers.ensures.numbers) c.in_ok-jobs.ensures.numbers)
