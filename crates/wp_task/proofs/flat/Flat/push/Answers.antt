use Rattle.std.proofs.Common.{◌≡◌, ◌++◌, ◌∷◌, [], length, ap, ◌∙◌, rules}
use Rattle.wp_task.specs.Flat.{lists_in}
use Rattle.wp_task.proofs.FlatLemmas.{pushed}
use Rattle.wp_task.proofs.flat.Flat.push.Goals as goal

pub returns : goal.returns
returns c =
    let offsets = c.self.inside.offsets.items in
    let items = c.self.inside.items.items in
    let list = c.args.list.now in
    let now : c.extend_from_slice.new.self.items ≡ items ++ list = c.in_ok-extend_from_slice.ensures.items in
    let end : c.len.result ≡ length c.extend_from_slice.new.self.items = search rules in
    let more : c.push.new.self.items ≡ offsets ++ length (items ++ list) ∷ [] =
    c.in_ok-push.ensures.items ∙ (λ j. c.in_ok-reserve.ensures.items j ++ (end ∙ ap length now) j ∷ []) in
    rw (← c.self.view_is) ((λ j. lists_in (more j) (now j)) ∙ pushed offsets items list c.self.invariant)
