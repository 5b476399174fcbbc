use Rattle.std.proofs.Common.{◌≡◌, drop}
use Rattle.wp_lift.specs.Walk.{each_after}
use Rattle.wp_lift.specs.Typing.{type_of_word}
use Rattle.wp_lift.proofs.typing.types_of_words.Given as goal

abbrev pub invariant-loop-word : goal.invariant-loop-word
invariant-loop-word l = each_after (type_of_word l.part) l.types (drop l.word-index l.words) ≡ each_after (type_of_word l.part) l.initial.types l.words
