use Rattle.std.proofs.Common.{◌≡◌, ◌≢◌, ◌++◌, List}
use Rattle.std.specs.List.{All}
use Rattle.std.specs.Vec.Iter.{into_iter_items}
use Rattle.wp_ahead.specs.declared.job.Outcome.TheVariants.{NotWorked, Refused}
use Rattle.wp_ahead.specs.Jobs.{Job}
use Rattle.wp_ahead.specs.KeptBroods.{Adds}
use Rattle.wp_ahead.proofs.made.keep_all.Given as goal

-- the jobs so far have added their broods, and with the rest they are all; where all are refused, so are those that are left
abbrev pub invariant-loop-job : goal.invariant-loop-job
invariant-loop-job l = record {
  done : List Job;
  all : l.fn.jobs.items ≡ done ++ into_iter_items l.job-iterator;
  added : Adds done l.fn.kept.entries l.kept.entries;
  worked : All (λ j. j.outcome ≢ NotWorked) (into_iter_items l.job-iterator);
  left : All (λ j. j.outcome ≡ Refused) l.fn.jobs.items → All (λ j. j.outcome ≡ Refused) (into_iter_items l.job-iterator);
}
