use Rattle.std.proofs.Common.{◌≡◌, ◌++◌, drop}
use Rattle.std.specs.List.{flat_map}
use Rattle.wp_watch.specs.Texts.{born_line}
use Rattle.wp_watch.proofs.trace.put_children.Given as goal

abbrev pub invariant-loop-born : goal.invariant-loop-born
invariant-loop-born l =
    l.out.items ++ flat_map born_line (drop l.born-index l.children) ≡ l.fn.out.items ++ flat_map born_line l.children
