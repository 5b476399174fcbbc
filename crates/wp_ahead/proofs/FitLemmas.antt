-- Broods that fit go on fitting: where some are dropped or taken, where those of jobs are added, and where nodes are added.
use Rattle.std.proofs.Common.{◌≡◌, ◌==◌, ℕ, ◌<◌, Bool, true, false, cond, slice_index_or, List, [], ◌∷◌, ◌++◌, length, Option, Some, None, IfSome, Result, Ok, Err, OnOk, OnErr, sym, ap, ◌∙◌, subst, ⊎_elim}
use Rattle.std.specs.List.{All, find, fold}
use Rattle.std.specs.Option.{option_or}
use Rattle.std.proofs.lemmas.Bool.{cases_Bool, cond-true, cond-false, eqb-true}
use Rattle.std.proofs.lemmas.List.{get_or_append_left}
use Rattle.std.proofs.lemmas.List.Elements.{All-nil, All-cons, All-head, All-tail}
use Rattle.std.proofs.lemmas.List.Folds.{find-append}
use Rattle.wp_task.specs.Set.{lists}
use Rattle.wp_task.specs.Task.{PlanningTask}
use Rattle.wp_count.specs.Broods.{EvaluatedNode, brood_of}
use Rattle.wp_nodes.specs.declared.kept.Kept.{Kept}
use Rattle.wp_nodes.specs.KeptNodes.{Keeping, node_of, AreLinked}
use Rattle.wp_ahead.specs.declared.job.Outcome.{Outcome}
use Rattle.wp_ahead.specs.declared.job.Outcome.TheVariants.{NotWorked, Made, Refused}
use Rattle.wp_ahead.specs.Jobs.{Job, track_of, node_brood, job_brood, HasPartsOf, MadeOfParts, IsJobFor}
use Rattle.wp_ahead.specs.KeptBroods.{KeptBroods, brood_under, KeepsOnly, AreAmong, made_or, after_job, Adds, AddsSome, IsWithout, IsBroodAt, Fit}
use Rattle.wp_ahead.specs.Laws.{GoesOn}

all_first : (P : Job → Type 0) (xs ys : List Job) → All P (xs ++ ys) → All P xs
all_first P [] ys all = All-nil P
all_first P (x ∷ xs) ys all = All-cons P x xs (All-head P x (xs ++ ys) all) (all_first P xs ys (All-tail P x (xs ++ ys) all))

module _ (task : PlanningTask) (nodes : Keeping) where
  -- ---- some are gone
  pub fits_only : (numbers : List ℕ) (old new : KeptBroods) → KeepsOnly numbers old new → Fit task nodes old → Fit task nodes new
  fits_only numbers old new keeps fit number =
      subst (λ (o : Option EvaluatedNode). IfSome o (IsBroodAt task nodes number)) (sym (keeps number)) (by (lists numbers number)) where
        by : (b : Bool) → IfSome (cond b (brood_under old number) None) (IsBroodAt task nodes number)
        by true = fit number
        by false = tt

  pub fits_among : (old new : KeptBroods) → AreAmong old new → Fit task nodes old → Fit task nodes new
  fits_among old new among fit number = by (brood_under new number) (among number) where
    by : (o : Option EvaluatedNode) → IfSome o (λ brood. brood_under old number ≡ Some brood) → IfSome o (IsBroodAt task nodes number)
    by None _ = tt
    by (Some brood) was = subst (λ (o : Option EvaluatedNode). IfSome o (IsBroodAt task nodes number)) was (fit number)

  pub fits_without : (number : ℕ) (old new : KeptBroods) → IsWithout number old new → Fit task nodes old → Fit task nodes new
  fits_without number old new without fit other =
      subst (λ (o : Option EvaluatedNode). IfSome o (IsBroodAt task nodes other)) (sym (without other)) (by (number == other)) where
        by : (b : Bool) → IfSome (cond b None (brood_under old other)) (IsBroodAt task nodes other)
        by true = tt
        by false = fit other

  -- ---- some are added
  same_brood : (job : Job) (parts : HasPartsOf nodes job) → job_brood task job ≡ node_brood task nodes parts.node
  same_brood job parts = λ j. brood_of task (sym parts.named j) (parts.state j) (parts.mark j) (parts.track j)

  brood_made : (number : ℕ) (before : Option EvaluatedNode) (job : Job) → IfSome before (IsBroodAt task nodes number) → HasPartsOf nodes job → job.number ≡ number →
      (outcome : Outcome) → MadeOfParts task job outcome → IfSome (made_or before outcome) (IsBroodAt task nodes number)
  brood_made number before job held parts same NotWorked _ = held
  brood_made number before job held parts same (Made brood) is = record {
    node = parts.node;
    found = subst (λ (n : ℕ). node_of nodes.kept n ≡ Some parts.node) same parts.found;
    is = is ∙ same_brood job parts;
  }
  brood_made number before job held parts same Refused _ = held

  fits_job : (number : ℕ) (before : Option EvaluatedNode) (job : Job) → IfSome before (IsBroodAt task nodes number) → IsJobFor task nodes job →
      IfSome (after_job number before job) (IsBroodAt task nodes number)
  fits_job number before job held for =
      ⊎_elim
      (λ (same : (job.number == number) ≡ true).
      subst (λ (b : Bool). IfSome (cond b (made_or before job.outcome) before) (IsBroodAt task nodes number)) (sym same)
      (brood_made number before job held for.parts (eqb-true job.number number same) job.outcome for.made))
      (λ (other : (job.number == number) ≡ false).
      subst (λ (b : Bool). IfSome (cond b (made_or before job.outcome) before) (IsBroodAt task nodes number)) (sym other) held)
      (cases_Bool (job.number == number))

  fits_jobs : (number : ℕ) (before : Option EvaluatedNode) (jobs : List Job) → IfSome before (IsBroodAt task nodes number) → All (IsJobFor task nodes) jobs →
      IfSome (fold (after_job number) before jobs) (IsBroodAt task nodes number)
  fits_jobs number before [] held for = held
  fits_jobs number before (job ∷ jobs) held for =
      fits_jobs number (after_job number before job) jobs (fits_job number before job held (All-head (IsJobFor task nodes) job jobs for))
      (All-tail (IsJobFor task nodes) job jobs for)

  pub fits_adds : (jobs : List Job) (old new : KeptBroods) → Adds jobs old new → Fit task nodes old → All (IsJobFor task nodes) jobs → Fit task nodes new
  fits_adds jobs old new adds fit for number =
      subst (λ (o : Option EvaluatedNode). IfSome o (IsBroodAt task nodes number)) (sym (adds number)) (fits_jobs number (brood_under old number) jobs (fit number) for)

  -- all of them, or where memory is refused those of the first jobs
  pub fits_added : {T E : Type 0} (jobs list : List Job) (old new : KeptBroods) (result : Result T E) → list ≡ jobs →
      OnOk result (Adds list old new) → OnErr result (AddsSome list old new) → Fit task nodes old → All (IsJobFor task nodes) jobs → Fit task nodes new
  fits_added jobs list old new (Ok _) is all some fit for = fits_adds list old new all fit (subst (All (IsJobFor task nodes)) (sym is) for)
  fits_added jobs list old new (Err _) is all some fit for =
      fits_adds some.0 old new some.3 fit
      (all_first (IsJobFor task nodes) some.0 some.1 (subst (All (IsJobFor task nodes)) (sym is ∙ some.2) for))

-- ---- nodes are added
all_found : (P : Kept → Type 0) (test : Kept → Bool) (kept : List Kept) (k : Kept) → All P kept → find test kept ≡ Some k → P k
all_found P test [] k all is = absurd (cc)
all_found P test (x ∷ kept) k all is = ⊎_elim
    (λ (here : test x ≡ true).
    let found : Some x ≡ Some k = sym (cond-true (test x) (Some x) (find test kept) here) ∙ is in
    let same : x ≡ k = cc in
    subst P same (All-head P x kept all))
    (λ (later : test x ≡ false).
    all_found P test kept k (All-tail P x kept all) (sym (cond-false (test x) (Some x) (find test kept) later) ∙ is))
    (cases_Bool (test x))

brood_on : (task : PlanningTask) (nodes later : Keeping) (number : ℕ) (brood : EvaluatedNode) → AreLinked nodes → GoesOn nodes later →
    IsBroodAt task nodes number brood → IsBroodAt task later number brood
brood_on task nodes later number brood linked on at =
    let k = at.node in
    let within : k.mark.track < length nodes.tracks =
    all_found (λ (x : Kept). x.mark.track < length nodes.tracks) (λ (x : Kept). x.number == number) nodes.kept k linked.tracked at.found in
    let track : track_of later k ≡ track_of nodes k =
    ap (λ (l : List (List ℕ)). slice_index_or l k.mark.track []) on.tracks ∙ get_or_append_left nodes.tracks on.more_tracks [] k.mark.track within in
    record {
      node = k;
      found =
          ap (λ (l : List Kept). node_of l number) on.kept
          ∙ (find-append (λ (x : Kept). x.number == number) nodes.kept on.more
          ∙ ap (λ (o : Option Kept). option_or o (node_of on.more number)) at.found);
      is = at.is ∙ ap (λ (l : List ℕ). brood_of task k.number k.state k.mark l) (sym track);
    }

pub fits_on : (task : PlanningTask) (nodes later : Keeping) (broods : KeptBroods) → AreLinked nodes → GoesOn nodes later →
    Fit task nodes broods → Fit task later broods
fits_on task nodes later broods linked on fit number = by (brood_under broods number) (fit number) where
  by : (o : Option EvaluatedNode) → IfSome o (IsBroodAt task nodes number) → IfSome o (IsBroodAt task later number)
  by None _ = tt
  by (Some brood) at = brood_on task nodes later number brood linked on at
