use Rattle.std.proofs.Common.{◌≡◌, ◌||◌, ℕ, false, length, replicate}
use Rattle.wp_task.specs.Set.{has, lists}
use Rattle.wp_task.proofs.SetLemmas.{set_of-filled}
use Rattle.wp_task.proofs.state.State.of.Goals as goal

pub returns : goal.returns
returns c =
    let len : length c.insert_all.new.self ≡ length (replicate c.args.size false) = rw (← c.in_ok-state.ensures) c.insert_all.ensures.size in
    let flags : (q : ℕ) → has c.insert_all.new.self q ≡ (has (replicate c.args.size false) q || lists c.args.atoms.now q) =
    rw (← c.in_ok-state.ensures) c.insert_all.ensures.set in
    set_of-filled c.args.atoms.now c.insert_all.new.self c.args.size len flags
