use Rattle.std.proofs.Common.{◌&&◌, ℕ, Bool, List, sym, ◌∙◌, subst}
use Rattle.wp_task.specs.Set.{has}
use Rattle.wp_mutex.specs.PossiblePairs.{HasRows, HasPairsOf}
use Rattle.wp_mutex.specs.WorkList.{IsWithin}
use Rattle.wp_mutex.proofs.Settling.{starts}
use Rattle.wp_mutex.proofs.work.WorkList.start.Goals as goal

pub returns : goal.returns
returns c =
    let acts = c.args.task.now.acts in
    let init = c.args.task.now.init in
    let empty = c.in_ok-work.work in
    let opened = c.join_state.new.self in
    starts acts init empty opened c.fire_free.new.self
    (subst (λ (n : ℕ). HasRows n empty.pairs) (c.atoms.ensures.value ∙ sym c.requires) c.in_ok-work.ensures.rows)
    c.in_ok-work.ensures.none c.in_ok-join_state.ensures.grows
    (subst (λ (s : List Bool). HasPairsOf s opened.pairs) c.init.ensures.value c.in_ok-join_state.ensures.there)
    (subst (λ (s : List Bool). IsWithin (λ x y. has s x && has s y) empty.pairs opened.pairs) c.init.ensures.value c.in_ok-join_state.ensures.within)
    c.in_ok-fire_free.ensures.grows c.in_ok-fire_free.ensures.sound c.in_ok-fire_free.ensures.made
