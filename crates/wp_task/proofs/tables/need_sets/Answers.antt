use Rattle.std.proofs.Common.{◌≡◌, ◌<◌, List, length, get_or, sym, ap, ◌∙◌, subst, arith}
use Rattle.wp_task.specs.declared.acts.Act.{Act}
use Rattle.wp_task.specs.Task.{IsAct}
use Rattle.wp_task.proofs.tables.need_sets.Goals as goal

pub set_of_many-requires : goal.set_of_many-requires
set_of_many-requires c =
    let acts = c.args.acts.now in
    let i = c.loop-act.act-index in
    let act = c.act-item.result in
    let same = c.as_slice-act-items.ensures in
    let within : i < length acts = omega (arith, c.loop-act-test.true, ap length same) in
    let is : act ≡ get_or acts i act = c.act-item.is ∙ ap (λ (l : List Act). get_or l i act) same in
    (subst (IsAct c.args.atoms) (sym is) (c.requires i act within)).needs
