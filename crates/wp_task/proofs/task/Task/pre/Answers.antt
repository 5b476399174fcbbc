use Rattle.std.proofs.Common.{◌≡◌, ◌<◌, [], List, ℕ, length, get_or, sym, ap, ◌∙◌, subst, arith}
use Rattle.std.proofs.lemmas.List.{get_or-map, length-map}
use Rattle.wp_task.specs.declared.acts.Act.{Act}
use Rattle.wp_task.specs.Set.{AreAtoms}
use Rattle.wp_task.specs.Task.{act_at}
use Rattle.wp_task.proofs.task.Task.pre.Goals as goal

pub at-requires : goal.at-requires
at-requires c =
    let within : c.args.a < length c.self.inside.acts = rw (← c.self.view_is) at c.requires in
    omega (arith, ap length c.self.invariant.pre, length-map c.self.inside.acts (λ (act : Act). act.pre))

pub returns-clause-value : goal.returns-clause-value
returns-clause-value c =
    let acts = c.self.inside.acts in
    let within : c.args.a < length acts = rw (← c.self.view_is) at c.requires in
    rw (← c.self.view_is)
    (c.at.ensures
    ∙ (ap (λ (l : List (List ℕ)). get_or l c.args.a []) c.self.invariant.pre
    ∙ get_or-map (λ (act : Act). act.pre) acts c.args.a (act_at [] 0) [] within))

pub returns-clause-fits : goal.returns-clause-fits
returns-clause-fits c =
    let acts = c.self.inside.acts in
    let within : c.args.a < length acts = rw (← c.self.view_is) at c.requires in
    let is : c.at.result.now ≡ (act_at acts c.args.a).pre =
    c.at.ensures
    ∙ (ap (λ (l : List (List ℕ)). get_or l c.args.a []) c.self.invariant.pre
    ∙ get_or-map (λ (act : Act). act.pre) acts c.args.a (act_at [] 0) [] within) in
    rw (← c.self.view_is)
    (subst (AreAtoms c.self.inside.atoms) (sym is) (c.self.invariant.fits.act_atoms c.args.a (act_at [] 0) within).needs)
