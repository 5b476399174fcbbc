use Rattle.std.proofs.Common.{[], take}
use Rattle.wp_ahead.specs.KeptBroods.{AddsJobs}
use Rattle.wp_ahead.proofs.front.jobs_for.Given as goal

abbrev pub invariant-loop-number : goal.invariant-loop-number
invariant-loop-number l = AddsJobs l.kept.entries l.nodes (take l.number-index l.numbers) [] l.jobs.items
