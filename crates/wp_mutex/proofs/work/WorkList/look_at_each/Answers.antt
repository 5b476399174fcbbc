use Rattle.std.proofs.Common.{ℕ, below_more}
use Rattle.wp_task.specs.Task.{act_at}
use Rattle.wp_mutex.specs.WorkList.{HasMade, concerns}
use Rattle.wp_mutex.proofs.Growing.{grows_on, sound_on, made_kept, made_later}
use Rattle.wp_mutex.proofs.work.WorkList.look_at_each.Goals as goal

pub loop-a-preserved : goal.loop-a-preserved
loop-a-preserved c =
    let acts = c.args.task.now.acts in
    let p = c.args.p in
    let old = c.args.self.now in
    let mid = c.loop-a.self in
    let new = c.look_at.new.self in
    let k = c.loop-a.a in
    record {
      grows = grows_on old mid new c.loop-a.invariant.grows c.in_ok-look_at.ensures.grows;
      sound = sound_on acts old.pairs mid.pairs new.pairs c.loop-a.invariant.grows.size c.loop-a.invariant.sound c.in_ok-look_at.ensures.sound;
      made = below_more (λ (i : ℕ). HasMade (act_at acts i) (concerns (act_at acts i) p p) old.pairs new.pairs) k
          (λ i less. made_kept (act_at acts i) (concerns (act_at acts i) p p) old.pairs mid.pairs new.pairs
          (c.loop-a.invariant.made i less) c.in_ok-look_at.ensures.grows.more)
          (made_later (act_at acts k) (concerns (act_at acts k) p p) old.pairs mid.pairs new.pairs c.loop-a.invariant.grows.size
          c.loop-a.invariant.grows.more c.in_ok-look_at.ensures.made);
    }
