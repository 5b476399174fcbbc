use Rattle.std.proofs.lemmas.Result.{err_from_is_err_and}
use Rattle.wp_watch.proofs.SlotLemmas.{can_tell_at, has_told_all, has_torn}
use Rattle.wp_watch.proofs.watchers.tell_all.Goals as goal

pub tell-requires : goal.tell-requires
tell-requires g c = can_tell_at _ _ _ _ _ _ c.loop-slot.invariant c.requires c.loop-slot-test.true

pub returns-in_err-tell-clause-err : goal.returns-in_err-tell-clause-err
returns-in_err-tell-clause-err g c =
    let p = err_from_is_err_and c.from_residual.result c.from_residual.ensures.1 in
    rw (p.1) (has_torn _ _ _ _ _ _ _ c.loop-slot.invariant c.loop-slot-test.true c.in_err-tell.ensures.err)

pub returns-clause-ok : goal.returns-clause-ok
returns-clause-ok g c = has_told_all _ _ _ _ _ c.loop-slot.invariant c.loop-slot-test.false
