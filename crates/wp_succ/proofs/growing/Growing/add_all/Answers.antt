use Rattle.std.proofs.Common.{◌≡◌, ◌+◌, ℕ, Bool, List, [], ◌∷◌, cond, map, get_or, ap, ◌∙◌, arith}
use Rattle.std.specs.List.{list_all}
use Rattle.wp_task.specs.Set.{has}
use Rattle.wp_succ.specs.Tree.{times}
use Rattle.wp_succ.specs.Growing.{reached_so_far}
use Rattle.wp_succ.proofs.CountLemmas.{times-more}
use Rattle.wp_succ.proofs.growing.Growing.add_all.Goals as goal

pub loop-a-preserved : goal.loop-a-preserved
loop-a-preserved c = record {
  growing = c.in_ok-add.ensures.growing;
  whole = λ s a.
      let needs = map (λ act. act.pre) c.args.task.now.acts in
      let acts = c.args.acts.now in
      let i = c.loop-a.a-index in
      times-more (λ k. list_all (has s) (get_or needs k [])) acts i a (times (reached_so_far s c.loop-a.self) a) (times (reached_so_far s c.add.new.self) a)
      (omega arith)
      (c.in_ok-add.ensures.more s a
      ∙ ap (λ (l : List ℕ). times (reached_so_far s c.loop-a.self) a + cond (list_all (has s) l) (times (get_or acts i 0 ∷ []) a) 0) c.needs_of.ensures)
      (c.loop-a.invariant.whole s a);
}
