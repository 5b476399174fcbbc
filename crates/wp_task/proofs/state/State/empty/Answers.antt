use Rattle.std.proofs.Common.{◌≡◌, ◌+◌, ◌/◌, replicate, rules}
use Rattle.wp_task.proofs.PackingLemmas.{packed-zeros, flags_in-zeros}
use Rattle.wp_task.proofs.state.State.empty.Goals as goal

pub invariant_of-result : goal.invariant_of-result
invariant_of-result c =
    let zeros : c.in_ok-words.words.items ≡ replicate ((c.args.size + 63) / 64) 0 = search rules in
    rw zeros (packed-zeros c.args.size)

pub returns : goal.returns
returns c =
    let zeros : c.in_ok-words.words.items ≡ replicate ((c.args.size + 63) / 64) 0 = search rules in
    rw zeros (flags_in-zeros ((c.args.size + 63) / 64) c.args.size)
