use Rattle.std.proofs.Common.{◌≡◌, ℕ, Bool, List, [], cond, map, take, get_or}
use Rattle.std.specs.List.{list_all}
use Rattle.wp_task.specs.Set.{has}
use Rattle.wp_succ.specs.Tree.{times}
use Rattle.wp_succ.specs.Growing.{reached_so_far, IsGrowing}
use Rattle.wp_succ.proofs.growing.Growing.add_all.Given as goal

abbrev pub invariant-loop-a : goal.invariant-loop-a
invariant-loop-a l = record {
  growing : IsGrowing l.self;
  whole : (s : List Bool) (a : ℕ) → times (reached_so_far s l.self) a
      ≡ cond (list_all (has s) (get_or (map (λ act. act.pre) l.task.acts) a [])) (times (take l.a-index l.acts) a) 0;
}
