use Rattle.std.proofs.Common.{◌≡◌, ℕ, [], true, below_more}
use Rattle.wp_task.specs.Task.{act_at}
use Rattle.wp_mutex.specs.WorkList.{HasMade}
use Rattle.wp_mutex.proofs.Growing.{grows_on, sound_on, made_kept, made_later}
use Rattle.wp_mutex.proofs.work.WorkList.fire_free.Goals as goal

pub loop-a-preserved : goal.loop-a-preserved
loop-a-preserved c =
    let acts = c.args.task.now.acts in
    let old = c.args.self.now in
    let mid = c.loop-a.self in
    let new = c.fire_if_free.new.self in
    let k = c.loop-a.a in
    record {
      grows = grows_on old mid new c.loop-a.invariant.grows c.in_ok-fire_if_free.ensures.grows;
      sound = sound_on acts old.pairs mid.pairs new.pairs c.loop-a.invariant.grows.size c.loop-a.invariant.sound c.in_ok-fire_if_free.ensures.sound;
      made = below_more (λ (i : ℕ). (act_at acts i).pre ≡ [] → HasMade (act_at acts i) (λ _. true) old.pairs new.pairs) k
          (λ i less bare. made_kept (act_at acts i) (λ _. true) old.pairs mid.pairs new.pairs
          (c.loop-a.invariant.made i less bare) c.in_ok-fire_if_free.ensures.grows.more)
          (λ bare. made_later (act_at acts k) (λ _. true) old.pairs mid.pairs new.pairs c.loop-a.invariant.grows.size
          c.loop-a.invariant.grows.more (c.in_ok-fire_if_free.ensures.made bare));
    }
