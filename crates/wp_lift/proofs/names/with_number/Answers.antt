use Rattle.std.proofs.Common.{[], ◌∷◌, nat_eq, arith, length-append}
use Rattle.std.specs.Cmp.Lexicographic.{pointwise}
use Rattle.indexmap.specs.IndexMap.{get}
use Rattle.wp_lift.proofs.NameLemmas.{finds-new, finds-again}
use Rattle.wp_lift.proofs.names.with_number.Goals as goal
use Rattle.wp_lift.proofs.names.with_number.Goals.{then-not-contains_key+in_ok-copy+in_ok-insert, else-not-contains_key}

pub returns : goal.returns
returns c = λ names e is.
    elim c.if-not-contains_key.branch [
      | then-not-contains_key+in_ok-copy+in_ok-insert w ↦ record {
        few = omega (arith, length-append names (c.args.name.now ∷ []));
        finds = λ other. rw (w.numbers-is, w.in_ok-insert.ensures.updates.0 other, w.in_ok-copy.ensures, ← e) (finds-new (get (pointwise nat_eq) c.args.numbers) names c.args.name.now other (is.finds other) cc);
      }
      | else-not-contains_key w ↦ record {
        few = omega (arith, length-append names (c.args.name.now ∷ []));
        finds = λ other. rw w.numbers-is (finds-again (get (pointwise nat_eq) c.args.numbers) names c.args.name.now other (is.finds other) cc);
      }
    ]
