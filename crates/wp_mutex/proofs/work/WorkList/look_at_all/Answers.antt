use Rattle.std.proofs.Common.{ℕ, get_or, subst, below_more, arith}
use Rattle.wp_task.specs.Task.{act_at}
use Rattle.wp_mutex.specs.WorkList.{HasMade, concerns}
use Rattle.wp_mutex.proofs.Growing.{grows_on, sound_on, made_kept, made_later}
use Rattle.wp_mutex.proofs.Settling.{lists_place}
use Rattle.wp_mutex.proofs.work.WorkList.look_at_all.Goals as goal

pub loop-a-preserved : goal.loop-a-preserved
loop-a-preserved c =
    let acts = c.args.task.now.acts in
    let numbers = c.args.acts.now in
    let p = c.args.p in
    let q = c.args.q in
    let old = c.args.self.now in
    let mid = c.loop-a.self in
    let new = c.look_at.new.self in
    let k = c.loop-a.a-index in
    let act = act_at acts (get_or numbers k 0) in
    record {
      grows = grows_on old mid new c.loop-a.invariant.grows c.in_ok-look_at.ensures.grows;
      sound = sound_on acts old.pairs mid.pairs new.pairs c.loop-a.invariant.grows.size c.loop-a.invariant.sound c.in_ok-look_at.ensures.sound;
      made = below_more
          (λ (i : ℕ). HasMade (act_at acts (get_or numbers i 0)) (concerns (act_at acts (get_or numbers i 0)) p q) old.pairs new.pairs) k
          (λ i less. made_kept (act_at acts (get_or numbers i 0)) (concerns (act_at acts (get_or numbers i 0)) p q) old.pairs mid.pairs new.pairs
          (c.loop-a.invariant.made i less) c.in_ok-look_at.ensures.grows.more)
          (made_later act (concerns act p q) old.pairs mid.pairs new.pairs c.loop-a.invariant.grows.size c.loop-a.invariant.grows.more
          c.in_ok-look_at.ensures.made);
    }

pub returns-clause-made : goal.returns-clause-made
returns-clause-made c = λ a listed.
    let acts = c.args.task.now.acts in
    let at = lists_place c.args.acts.now a listed in
    subst (λ (x : ℕ). HasMade (act_at acts x) (concerns (act_at acts x) c.args.p c.args.q) c.args.self.now.pairs c.loop-a.self.pairs) at.2
    (c.loop-a.invariant.made at.0 (omega (arith, at.1, c.loop-a-test.false)))
