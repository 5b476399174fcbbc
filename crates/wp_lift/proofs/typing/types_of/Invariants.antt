-- What is left gives the answer.
use Rattle.std.proofs.Common.{◌≡◌, length}
use Rattle.wp_lift.specs.Walk.{each_after}
use Rattle.wp_lift.specs.Typing.{type_of_word, types_of, words_of}
use Rattle.wp_lift.proofs.typing.types_of.Given as goal

abbrev pub invariant-loop-typed : goal.invariant-loop-typed
invariant-loop-typed l = each_after (type_of_word l.part) l.types (words_of l.rest) ≡ types_of l.part l.fn.declared

abbrev pub decreases-loop-typed : goal.decreases-loop-typed
decreases-loop-typed l = length l.rest
