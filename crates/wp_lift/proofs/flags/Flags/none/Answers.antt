use Rattle.std.proofs.Common.{◌≡◌, ◌+◌, ◌/◌, replicate, rules}
use Rattle.wp_lift.proofs.FlagLemmas.{flags-zeros}
use Rattle.wp_lift.proofs.flags.Flags.none.Goals as goal

pub returns : goal.returns
returns c =
    let zeros : c.in_ok-words.words.items ≡ replicate ((c.args.count + 63) / 64) 0 = search rules in
    rw zeros (flags-zeros ((c.args.count + 63) / 64) c.args.count)
