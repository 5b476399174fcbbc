use Rattle.std.proofs.lemmas.Result.{err_from_is_err_and}
use Rattle.wp_lift.specs.Typing.{type_of_word, types_of}
use Rattle.wp_lift.proofs.WalkLemmas.{words-more, words-fails}
use Rattle.wp_lift.proofs.typing.types_of.Goals as goal

pub returns-in_err-types-2 : goal.returns-in_err-types-2
returns-in_err-types-2 c =
    let p = err_from_is_err_and c.from_residual-in_err-types-2.result c.from_residual-in_err-types-2.ensures.1 in
    rw (p.1, p.2) (words-fails (type_of_word c.args.part) c.loop-typed.types c.in-Some.typed.now c.in-Some.after.now c.loop-typed.rest.now _ (types_of c.args.part c.args.declared.now) c.in-Some.ensures.cases.0 c.in_err-types-2.ensures c.loop-typed.invariant)

pub loop-typed-preserved : goal.loop-typed-preserved
loop-typed-preserved c =
    words-more (type_of_word c.args.part) c.loop-typed.types _ c.in-Some.typed.now c.in-Some.after.now c.loop-typed.rest.now _ c.in-Some.ensures.cases.0 c.in_ok-types-2.ensures c.loop-typed.invariant
