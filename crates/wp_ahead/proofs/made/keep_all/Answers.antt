use Rattle.std.proofs.Common.{◌≡◌, ◌≢◌, ◌∷◌, [], ◌++◌, ◌∙◌, List, true, false, sym, ap, subst}
use Rattle.std.specs.Prelude.{Result, Err, is_ok}
use Rattle.std.specs.List.{All}
use Rattle.std.specs.Vec.Iter.{into_iter_items}
use Rattle.std.proofs.lemmas.List.Elements.{All-head, All-rest, All-same, All-tail}
use Rattle.wp_ahead.specs.declared.job.Outcome.TheVariants.{NotWorked, Refused}
use Rattle.wp_ahead.specs.Jobs.{Job}
use Rattle.wp_ahead.proofs.AddsLemmas.{adds_next, moved}
use Rattle.wp_ahead.proofs.made.keep_all.Goals as goal

-- what answered an error is not Ok
no_ok : {T E X : Type 0} (r : Result T E) (e : E) → r ≡ Err e → is_ok r ≡ true → X
no_ok {T} {E} r e was ok = let wrong : false ≡ true = sym (ap (λ (s : Result T E). is_ok s) was) ∙ ok in absurd (cc)

pub loop-job-preserved : goal.loop-job-preserved
loop-job-preserved c =
    let held = c.loop-job.invariant in
    let here = c.in-Some.ensures.steps.0 in
    let rest = into_iter_items c.next.new.self in record {
      done = held.done ++ c.in-Some.job ∷ [];
      all = moved held.done rest (into_iter_items c.loop-job.job-iterator) c.args.jobs.items c.in-Some.job held.all here;
      added = adds_next held.done c.in-Some.job c.args.kept.now.entries c.loop-job.kept.entries c.keep.new.kept.entries held.added c.in_ok-keep.ensures.kept;
      worked = All-tail (λ (j : Job). j.outcome ≢ NotWorked) c.in-Some.job rest
          (subst (λ (l : List Job). All (λ (j : Job). j.outcome ≢ NotWorked) l) here held.worked);
      left = λ refused. All-rest (λ (j : Job). j.outcome ≡ Refused) c.in-Some.job rest (into_iter_items c.loop-job.job-iterator) here (held.left refused);
    }

pub returns-in_err-keep-clause-ends_nothing : goal.returns-in_err-keep-clause-ends_nothing
returns-in_err-keep-clause-ends_nothing c refused =
    let rest = into_iter_items c.next.new.self in
    let ok = c.keep.ensures.ends_nothing (All-head (λ (j : Job). j.outcome ≡ Refused) c.in-Some.job rest
    (All-same (λ (j : Job). j.outcome ≡ Refused) (c.in-Some.job ∷ rest) (into_iter_items c.loop-job.job-iterator) (sym c.in-Some.ensures.steps.0)
    (c.loop-job.invariant.left refused))) in
    no_ok c.keep.result _ c.in_err-keep.was ok
