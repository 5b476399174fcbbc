-- Where the loop stops, the place is that of the closing bracket.
use Rattle.std.proofs.Common.{◌≡◌, length, arith}
use Rattle.std.proofs.lemmas.Grind.{common_steps}
use Rattle.wp_lex.proofs.Levels.{closing, inner_at, rest_at}
use Rattle.wp_lex.proofs.node.closing_of.Goals as goal

pub returns-then-depth-eq0-clause-inner : goal.returns-then-depth-eq0-clause-inner
returns-then-depth-eq0-clause-inner c =
    let at : closing 0 c.args.items.now ≡ c.loop-place.place = grind (arith, common_steps) in
    inner_at c.loop-place.place c.args.items.now at

pub returns-then-depth-eq0-clause-rest : goal.returns-then-depth-eq0-clause-rest
returns-then-depth-eq0-clause-rest c =
    let at : closing 0 c.args.items.now ≡ c.loop-place.place = grind (arith, common_steps) in
    rest_at c.loop-place.place c.args.items.now at

pub returns-clause-rest : goal.returns-clause-rest
returns-clause-rest c =
    let at : closing 0 c.args.items.now ≡ length c.args.items.now = grind (arith, common_steps) in
    rest_at (length c.args.items.now) c.args.items.now at
