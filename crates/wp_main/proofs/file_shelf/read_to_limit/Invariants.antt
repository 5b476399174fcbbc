use Rattle.wp_main.specs.Reads.{HasRead}
use Rattle.wp_main.proofs.file_shelf.read_to_limit.Given as goal

abbrev pub invariant-loop : goal.invariant-loop
invariant-loop g l = HasRead (g.F.Read.remaining l.fn.file) (g.F.Read.remaining l.file) l.limit l.bytes.items
