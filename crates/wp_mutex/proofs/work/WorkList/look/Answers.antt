use Rattle.std.proofs.Common.{◌≡◌, true, ⊎_elim}
use Rattle.wp_task.specs.Set.{lists}
use Rattle.wp_task.specs.Task.{act_at}
use Rattle.wp_mutex.specs.WorkList.{concerns}
use Rattle.wp_mutex.proofs.Growing.{grows_on, sound_on, made_later}
use Rattle.wp_mutex.proofs.Settling.{concerns-cases, needer_listed}
use Rattle.wp_mutex.proofs.work.WorkList.look.Goals as goal

pub returns-clause-grows : goal.returns-clause-grows
returns-clause-grows c =
    grows_on c.args.self.now c.look_at_all.new.self c.look_at_all-2.new.self c.in_ok-look_at_all.ensures.grows c.in_ok-look_at_all-2.ensures.grows

pub returns-clause-sound : goal.returns-clause-sound
returns-clause-sound c =
    sound_on c.args.task.now.acts c.args.self.now.pairs c.look_at_all.new.self.pairs c.look_at_all-2.new.self.pairs
    c.in_ok-look_at_all.ensures.grows.size c.in_ok-look_at_all.ensures.sound c.in_ok-look_at_all-2.ensures.sound

pub returns-clause-made : goal.returns-clause-made
returns-clause-made c = λ a within x y low high holds may adds follows.
    let acts = c.args.task.now.acts in
    let act = act_at acts a in
    let p = c.args.p in
    let q = c.args.q in
    ⊎_elim
    (λ (left : lists act.pre p ≡ true).
    c.in_ok-look_at_all-2.ensures.grows.more x y
    (c.in_ok-look_at_all.ensures.made a (needer_listed acts p a c.needers.result.now c.needers.ensures.value within left) x y low high holds may adds follows))
    (λ (right : lists act.pre q ≡ true).
    made_later act (concerns act p q) c.args.self.now.pairs c.look_at_all.new.self.pairs c.look_at_all-2.new.self.pairs
    c.in_ok-look_at_all.ensures.grows.size c.in_ok-look_at_all.ensures.grows.more
    (c.in_ok-look_at_all-2.ensures.made a (needer_listed acts q a c.needers-2.result.now c.needers-2.ensures.value within right))
    x y low high holds may adds follows)
    (concerns-cases act p q y holds c.if-p-q.false)
