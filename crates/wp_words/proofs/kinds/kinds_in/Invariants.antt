use Rattle.std.proofs.Common.{◌≡◌}
use Rattle.wp_words.specs.Kinds.{kinds_in}
use Rattle.wp_words.proofs.KindLemmas.{kinds_after, names_from}
use Rattle.wp_words.proofs.kinds.kinds_in.Given as goal

abbrev pub invariant-loop-name : goal.invariant-loop-name
invariant-loop-name l = kinds_after l.kinds.items (names_from l.name-index l.name-items) ≡ kinds_in l.fn.text
