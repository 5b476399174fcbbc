use Rattle.std.proofs.Common.{rules, get_or, subst}
use Rattle.wp_ahead.specs.Jobs.{Job, IsWorked}
use Rattle.wp_commit.proofs.marking.run_aheads.Goals as goal

pub returns : goal.returns
returns g c = record {
  count = search rules;
  each = λ i d within.
      let at = (c.for_each_mut.ensures i d within).1 in
      let task = c.args.run.now.task in
      let worked = get_or c.for_each_mut.new.s i d in
      subst (λ (j : Job). IsWorked task j worked) at.argument_is (subst (λ (j : Job). IsWorked task at.argument.now j) at.left at.call);
}
