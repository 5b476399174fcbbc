use Rattle.std.proofs.Common.{◌≡◌, ◌==◌, ◌&&◌, ℕ, List, false, sym, ap, ◌∙◌, ⊎_elim}
use Rattle.std.proofs.lemmas.Bool.{eq-eqb}
use Rattle.wp_task.specs.Set.{lists}
use Rattle.wp_task.specs.Task.{act_at}
use Rattle.wp_mutex.specs.PossiblePairs.{joins}
use Rattle.wp_mutex.proofs.PairLemmas.{may_apply-more}
use Rattle.wp_mutex.proofs.Growing.{grows_on, sound_on, made_later}
use Rattle.wp_mutex.proofs.Settling.{concerns-one}
use Rattle.wp_mutex.proofs.work.WorkList.wake.Goals as goal

pub fire-requires-2-clause-may : goal.fire-requires-2-clause-may
fire-requires-2-clause-may c =
    may_apply-more (joins c.args.self.now.pairs) (joins c.fire.new.self.pairs) c.in_ok-fire.ensures.grows.more
    (act_at c.args.task.now.acts c.args.a) c.requires.may

pub returns-clause-grows : goal.returns-clause-grows
returns-clause-grows c =
    grows_on c.args.self.now c.fire.new.self c.fire-2.new.self c.in_ok-fire.ensures.grows c.in_ok-fire-2.ensures.grows

pub returns-clause-sound : goal.returns-clause-sound
returns-clause-sound c =
    sound_on c.args.task.now.acts c.args.self.now.pairs c.fire.new.self.pairs c.fire-2.new.self.pairs c.in_ok-fire.ensures.grows.size
    c.in_ok-fire.ensures.sound c.in_ok-fire-2.ensures.sound

pub returns-clause-made : goal.returns-clause-made
returns-clause-made c = λ x y low high holds may adds follows.
    let act = act_at c.args.task.now.acts c.args.a in
    let p = c.args.p in
    let q = c.args.q in
    let not_both : (lists act.pre p && lists act.pre q) ≡ false =
    sym (c.if-lists_both.ensures ∙ ap (λ (l : List ℕ). lists l p && lists l q) c.pre.ensures.value) in
    ⊎_elim
    (λ (left : y ≡ p). c.in_ok-fire-2.ensures.grows.more x y (c.in_ok-fire.ensures.made x y low high (eq-eqb y p left) may adds follows))
    (λ (right : y ≡ q).
    made_later act (λ k. k == q) c.args.self.now.pairs c.fire.new.self.pairs c.fire-2.new.self.pairs c.in_ok-fire.ensures.grows.size
    c.in_ok-fire.ensures.grows.more c.in_ok-fire-2.ensures.made x y low high (eq-eqb y q right) may adds follows)
    (concerns-one act p q y holds not_both)
