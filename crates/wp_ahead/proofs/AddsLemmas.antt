-- The broods of jobs, added one by one.
use Rattle.std.proofs.Common.{◌≡◌, ℕ, List, [], ◌∷◌, ◌++◌, Option, refl, sym, ap, ◌∙◌, append_assoc}
use Rattle.std.specs.List.{fold}
use Rattle.wp_count.specs.Broods.{EvaluatedNode}
use Rattle.wp_ahead.specs.Jobs.{Job}
use Rattle.wp_ahead.specs.KeptBroods.{KeptBroods, brood_under, after_job, Adds}

fold-append : (number : ℕ) (before : Option EvaluatedNode) (jobs more : List Job) →
    fold (after_job number) before (jobs ++ more) ≡ fold (after_job number) (fold (after_job number) before jobs) more
fold-append number before [] more = refl
fold-append number before (job ∷ jobs) more = fold-append number (after_job number before job) jobs more

-- the jobs so far, and one more
pub adds_next : (done : List Job) (job : Job) (old now new : KeptBroods) → Adds done old now → Adds (job ∷ []) now new → Adds (done ++ job ∷ []) old new
adds_next done job old now new added next number =
    next number
    ∙ (ap (λ (o : Option EvaluatedNode). after_job number o job) (added number) ∙ sym (fold-append number (brood_under old number) done (job ∷ [])))

pub moved : (done rest left all : List Job) (job : Job) → all ≡ done ++ left → left ≡ job ∷ rest → all ≡ (done ++ job ∷ []) ++ rest
moved done rest left all job is steps = is ∙ (ap (λ (l : List Job). done ++ l) steps ∙ sym (append_assoc done (job ∷ []) rest))
