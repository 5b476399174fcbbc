use Rattle.std.proofs.Common.{◌≡◌, ◌<◌, ℕ, Bool, List, sym, ap, ◌∙◌, subst}
use Rattle.std.specs.List.{All}
use Rattle.wp_task.specs.Task.{act_at}
use Rattle.wp_mutex.specs.PossiblePairs.{joins, may_follow}
use Rattle.wp_mutex.specs.WorkList.{Work}
use Rattle.wp_mutex.proofs.Settling.{fired}
use Rattle.wp_mutex.proofs.work.WorkList.fire.Goals as goal

pub returns-in_ok-join_all-clause-sound : goal.returns-in_ok-join_all-clause-sound
returns-in_ok-join_all-clause-sound c =
    let acts = c.args.task.now.acts in
    let before = c.args.self.now.pairs in
    let rows : c.as_slice.result.now ≡ before = c.as_slice.ensures.value ∙ ap (λ (w : Work). w.pairs) c.self.view_is in
    fired acts c.args.a c.args.q c.add.result.now before c.join_all.new.self.pairs c.requires.number c.requires.atom c.add.ensures.value
    (subst (λ (n : ℕ). All (λ p. p < n) c.add.result.now) (sym c.requires.size) c.add.ensures.fits.below)
    c.requires.may
    (sym (c.if-may_follow.ensures ∙ ap (λ (l : List (List Bool)). may_follow (joins l) (act_at acts c.args.a) c.args.q) rows))
    c.in_ok-join_all.ensures.within
