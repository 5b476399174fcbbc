use Rattle.std.proofs.Common.{◌≡◌, ◌<◌, None, length, get_or, sym, ap, ◌∙◌, subst, arith}
use Rattle.std.proofs.lemmas.List.{get_or_read}
use Rattle.wp_task.specs.Many.{IsSetOf}
use Rattle.wp_task.specs.Task.{PlanningTask, act_at}
use Rattle.wp_task.proofs.task.Task.applies.Goals as goal

pub has_all-requires : goal.has_all-requires
has_all-requires c =
    let acts = c.self.inside.acts in
    let sets = c.self.inside.need_sets.items in
    let a = c.args.a in
    let within : a < length acts = rw (← c.self.view_is) at c.requires in
    let kept = c.self.invariant.need_sets in
    let read : c.index.result.now ≡ get_or sets a None =
    get_or_read sets a c.index.result.now (omega (arith, kept.each)) c.index.ensures None in
    let is : c.pre.result.now ≡ (act_at acts a).pre =
    c.pre.ensures.value ∙ ap (λ (task : PlanningTask). (act_at task.acts a).pre) (sym c.self.view_is) in
    subst (λ set. IsSetOf set c.pre.result.now) (sym read)
    (subst (IsSetOf (get_or sets a None)) (sym is) (kept.are a within))
