use Rattle.std.proofs.Common.{◌≡◌, ◌<◌, length, sym, ◌∙◌, subst, arith}
use Rattle.std.specs.List.{All}
use Rattle.wp_task.specs.Task.{needers_of}
use Rattle.wp_task.proofs.TaskLemmas.{needers_at, length-needers, needers_below}
use Rattle.wp_task.proofs.task.Task.needers.Goals as goal

pub at-requires : goal.at-requires
at-requires c =
    let within : c.args.p < c.self.inside.atoms = rw (← c.self.view_is) at c.requires in
    omega (arith, length-needers c.self.inside.acts c.self.inside.atoms c.self.inside.needers c.self.invariant.needers)

pub returns-clause-value : goal.returns-clause-value
returns-clause-value c =
    let within : c.args.p < c.self.inside.atoms = rw (← c.self.view_is) at c.requires in
    rw (← c.self.view_is)
    (c.at.ensures ∙ needers_at c.self.inside.acts c.self.inside.atoms c.self.inside.needers c.self.invariant.needers c.args.p within)

pub returns-clause-numbers : goal.returns-clause-numbers
returns-clause-numbers c =
    let within : c.args.p < c.self.inside.atoms = rw (← c.self.view_is) at c.requires in
    let is : c.at.result.now ≡ needers_of c.self.inside.acts c.args.p =
    c.at.ensures ∙ needers_at c.self.inside.acts c.self.inside.atoms c.self.inside.needers c.self.invariant.needers c.args.p within in
    rw (← c.self.view_is)
    (subst (All (λ a. a < length c.self.inside.acts)) (sym is) (needers_below c.self.inside.acts c.args.p))
