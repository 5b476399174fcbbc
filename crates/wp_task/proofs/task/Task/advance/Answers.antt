use Rattle.std.proofs.Common.{◌&&◌, ◌||◌, not, ◌∙◌}
use Rattle.wp_task.specs.Set.{has, lists}
use Rattle.wp_task.specs.Task.{act_at}
use Rattle.wp_task.proofs.SetLemmas.{result_of-flags}
use Rattle.wp_task.proofs.task.Task.advance.Goals as goal

pub returns : goal.returns
returns c =
    let act = act_at c.args.self.now.acts c.args.a in
    let is_act = c.act-act.ensures.value in
    result_of-flags act c.args.s.now c.insert_all.new.self
    (c.insert_all.ensures.size ∙ c.remove_all.ensures.size)
    (λ q. c.insert_all.ensures.set q
    ∙ ((λ j. c.remove_all.ensures.set q j || lists (is_act j).add q)
    ∙ (λ j. (has c.args.s.now q && not (lists (is_act j).del q)) || lists act.add q)))
