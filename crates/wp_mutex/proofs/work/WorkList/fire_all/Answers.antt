use Rattle.wp_task.specs.Task.{act_at}
use Rattle.wp_mutex.specs.PossiblePairs.{joins}
use Rattle.wp_mutex.proofs.PairLemmas.{may_apply-more}
use Rattle.wp_mutex.proofs.Growing.{grows_on, sound_on}
use Rattle.wp_mutex.proofs.Settling.{made_next}
use Rattle.wp_mutex.proofs.work.WorkList.fire_all.Goals as goal

pub fire-requires-clause-may : goal.fire-requires-clause-may
fire-requires-clause-may c =
    may_apply-more (joins c.args.self.now.pairs) (joins c.loop-q.self.pairs) c.loop-q.invariant.grows.more
    (act_at c.args.task.now.acts c.args.a) c.requires.may

pub loop-q-preserved : goal.loop-q-preserved
loop-q-preserved c =
    let old = c.args.self.now in
    let mid = c.loop-q.self in
    let new = c.fire.new.self in
    record {
      grows = grows_on old mid new c.loop-q.invariant.grows c.in_ok-fire.ensures.grows;
      sound = sound_on c.args.task.now.acts old.pairs mid.pairs new.pairs c.loop-q.invariant.grows.size c.loop-q.invariant.sound c.in_ok-fire.ensures.sound;
      made = made_next (act_at c.args.task.now.acts c.args.a) c.loop-q.q old.pairs mid.pairs new.pairs c.loop-q.invariant.grows.size
          c.loop-q.invariant.grows.more c.in_ok-fire.ensures.grows.more c.loop-q.invariant.made c.in_ok-fire.ensures.made;
    }
