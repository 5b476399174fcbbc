use Rattle.std.proofs.Common.{◌≡◌, ◌-◌, length, sym, ◌∙◌, rules}
use Rattle.wp_task.proofs.FlatLemmas.{length-lists_in}
use Rattle.wp_task.proofs.flat.Flat.len.Goals as goal

pub returns : goal.returns
returns c =
    let count : c.len.result ≡ length c.self.inside.offsets.items = search rules in
    rw (← c.self.view_is) ((λ j. count j - 1) ∙ sym (length-lists_in c.self.inside.offsets.items c.self.inside.items.items))
