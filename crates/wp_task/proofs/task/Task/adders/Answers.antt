use Rattle.std.proofs.Common.{◌≡◌, ◌<◌, length, sym, ◌∙◌, subst, arith, rules}
use Rattle.std.specs.List.{All}
use Rattle.wp_task.specs.Task.{adders_of}
use Rattle.wp_task.proofs.TaskLemmas.{adders_at, length-adders, adders_below}
use Rattle.wp_task.proofs.task.Task.adders.Goals as goal

pub index-requires : goal.index-requires
index-requires c =
    let within : c.args.p < c.self.inside.atoms = rw (← c.self.view_is) at c.requires in
    let len : length c.self.inside.adders.items ≡ c.self.inside.atoms =
    length-adders c.self.inside.acts c.self.inside.atoms c.self.inside.adders.items c.self.invariant.lists in
    let there : c.args.p < length c.self.inside.adders.items = omega arith in
    search rules

pub returns-clause-value : goal.returns-clause-value
returns-clause-value c =
    let within : c.args.p < c.self.inside.atoms = rw (← c.self.view_is) at c.requires in
    rw (← c.self.view_is)
    (c.index.ensures ∙ adders_at c.self.inside.acts c.self.inside.atoms c.self.inside.adders.items c.self.invariant.lists c.args.p c.index.result.now within)

pub returns-clause-numbers : goal.returns-clause-numbers
returns-clause-numbers c =
    let within : c.args.p < c.self.inside.atoms = rw (← c.self.view_is) at c.requires in
    let is : c.index.result.now ≡ adders_of c.self.inside.acts c.args.p =
    c.index.ensures ∙ adders_at c.self.inside.acts c.self.inside.atoms c.self.inside.adders.items c.self.invariant.lists c.args.p c.index.result.now within in
    rw (← c.self.view_is)
    (subst (All (λ a. a < length c.self.inside.acts)) (sym is) (adders_below c.self.inside.acts c.args.p))
