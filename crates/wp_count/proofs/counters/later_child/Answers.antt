use Rattle.std.proofs.Common.{◌≡◌, ◌||◌, ◌&&◌, Bool, List, None, length, sym, ap, ◌∙◌}
use Rattle.wp_task.specs.Set.{has, lists, atoms_in}
use Rattle.wp_task.proofs.SetLemmas.{set_by_flags}
use Rattle.wp_count.specs.Broods.{with_achieved}
use Rattle.wp_count.proofs.counters.later_child.Goals as goal

pub insert_common-r-requires-clause-count : goal.insert_common-r-requires-clause-count
insert_common-r-requires-clause-count c = c.requires.count ∙ ap (λ (set : List Bool). length (atoms_in set)) (sym c.in_ok-got.ensures)

pub returns : goal.returns
returns c =
    let before = c.args.mark.now.got in
    let track = c.args.track.now in
    let state = c.args.state in
    let got = c.insert_common-r.new.self in
    let now_got : got ≡ with_achieved before track state =
    set_by_flags (λ p. has before p || (lists track p && has state p)) got (length before)
    (c.insert_common-r.ensures.size ∙ ap length c.in_ok-got.ensures)
    (λ q. c.insert_common-r.ensures.set q
    ∙ (λ j. has (c.in_ok-got.ensures j) q || (lists (c.atoms.ensures.value j) q && has state q))) in
    let count : c.insert_common-r.result ≡ length (atoms_in (with_achieved before track state)) =
    c.insert_common-r.ensures.count ∙ ap (λ (set : List Bool). length (atoms_in set)) now_got in
    λ j. record { act = c.args.a; state = state; g = c.args.g; r = count j; got = now_got j; fresh = None }
