-- What the status of an answer to `plan` says, from how the answer comes about.
use Rattle.std.proofs.Common.{◌≡◌, ℕ, List, map, refl, sym, ap, ◌∙◌, subst, inl, inr, Bool}
use Rattle.std.specs.Prelude.{Option, None, Some}
use Rattle.wp_edge.specs.Fetch.{Contents}
use Rattle.wp_lift.specs.Problem.{Lifting, Instance}
use Rattle.wp_ground.specs.declared.grounding.Grounded.{Grounded}
use Rattle.wp_ground.specs.declared.grounding.GroundError.{GroundError}
use Rattle.wp_ground.specs.declared.grounding.GroundError.TheVariants.{TooManyActs, TooManyAtoms, GoalOutOfReach, Memory}
use Rattle.wp_ground.specs.Refusals.{grounded_of, refusal_of}
use Rattle.wp_ground.specs.Tasks.{instance_at}
use Rattle.wp_plain.specs.declared.settings.Search.{Search}
use Rattle.wp_plain.specs.declared.settings.Search.TheVariants.{KBfws, F5}
use Rattle.wp_plain.specs.declared.settings.Settings.{Settings}
use Rattle.wp_plain.specs.declared.ending.Ending.{Ending}
use Rattle.wp_plain.specs.declared.ending.How.{How}
use Rattle.wp_plain.specs.declared.ending.How.TheVariants.{Found, Emptied, Budget, Words}
use Rattle.wp_plain.specs.Pairs.{all_tuples}
use Rattle.wp_plain.specs.Run.{ending_of}
use Rattle.wp_report.specs.Tasks.{ground_error_text}
use Rattle.wp_app.specs.declared.reply.Reply.{Reply}
use Rattle.wp_app.specs.declared.reply.Status.{Status}
use Rattle.wp_app.specs.declared.reply.Status.TheVariants as statuses
use Rattle.wp_watch.specs.declared.watch.WatchKind.{WatchKind}
use Rattle.wp_words.specs.declared.commands.Command.TheVariants.{Plan}
use Rattle.wp_app.specs.Requests.{Asked, kept_of}
use Rattle.wp_app.specs.Steps.{Step, ends, goes, reply_of, ◌>>=◌}
use Rattle.wp_app.specs.Output.{lifted_step, task_by, grounded_step, searched_reply, whole, ending_reply, ending_status}
use Rattle.wp_app.specs.Table.{answer_of, answer_to_plan, answer_to_request, texts_step}
use Rattle.wp_app.specs.Laws.{IsLifted, IsSearched, IsPlanned, IsReadAs, HasNoPlan, FoundPlansAreReadBack, GoalsOutOfReachHaveNoPlan, EmptiedSearchesHaveNoPlan, DoneAnswersAreValidPlans, AnswersOfNoPlanAreTrue}
use Rattle.wp_app.proofs.PlanLemmas.{after_texts}
use Rattle.wp_app.proofs.ReplyLemmas.{steps_commanded}
use Rattle.wp_app.proofs.EndLemmas.{AllowsRefusals, EndsIn, goes_past, lifted_ends, texts_ends}

-- where the step ends, it is not with this status
abbrev pub Otherwise : Status → Status → Type 0
Otherwise status one = one ≡ status → ⊥

-- an answer with another status than those with which the step ends is that of what follows
after : {A : Type 0} (status : Status) (step : Step A) (next : A → Step Reply) (reply : Reply) → EndsIn (Otherwise status) step
    → reply_of (step >>= next) ≡ Some reply → reply.status ≡ status
    → (value : A) × (step ≡ goes value) × (reply_of (next value) ≡ Some reply)
after status step next reply other e is = goes_past (Otherwise status) step next reply other e (λ not_so. not_so is)

-- the answer of a lifted problem
record Answers (asked : Asked) (files : Contents) (settings : Settings) (reply : Reply) : Type 0 where
  lifted : Lifting
  lifts : IsLifted asked files settings lifted
  watchers : List (WatchKind × Option ℕ)
  replies : reply_of (grounded_step lifted >>= λ (grounded : Grounded). goes (searched_reply (whole lifts.closed) settings watchers grounded)) ≡ Some reply

answers : (asked : Asked) (files : Contents) (settings : Settings) (reply : Reply) (status : Status) → AllowsRefusals (Otherwise status)
    → IsPlanned asked files settings reply → reply.status ≡ status → Answers asked files settings reply
unfolding answer_to_request answer_to_plan
answers asked files settings reply status later is same =
    let command = Plan is.domain is.problem settings is.watch is.plain is.closed in
    let watchers = kept_of command asked.watchers in
    let run = sym (ap reply_of (steps_commanded asked command files is.command)) ∙ is.answer in
    let first = after status (texts_step is.domain is.problem files) (after_texts (whole is.closed) settings watchers) reply (texts_ends (Otherwise status) later is.domain is.problem files) run same in
    let second =
    after status (lifted_step first.0.domain first.0.problem)
    (λ (lifted : Lifting). grounded_step lifted >>= λ (grounded : Grounded). goes (searched_reply (whole is.closed) settings watchers grounded)) reply
    (lifted_ends (Otherwise status) later first.0.domain first.0.problem) first.2 same in record {
      lifted = second.0;
      lifts = record { domain = is.domain; problem = is.problem; watch = is.watch; plain = is.plain; closed = is.closed; texts = first.0; command = is.command; read = first.1; lifts = second.1 };
      watchers = watchers;
      replies = second.2;
    }

-- the refusals by grounding have statuses of their own
refused_later : (status : Status) → AllowsRefusals (Otherwise status) → (statuses.OutOfReach ≡ status → ⊥) → (statuses.Memory ≡ status → ⊥)
    → (refusal : Option GroundError) (made : Grounded) → EndsIn {A = Grounded} (Otherwise status) (task_by refusal made)
refused_later status later reach memory None made = tt
refused_later status later reach memory (Some TooManyActs) made = later.limit
refused_later status later reach memory (Some TooManyAtoms) made = later.limit
refused_later status later reach memory (Some (GoalOutOfReach goal atom)) made = reach
refused_later status later reach memory (Some Memory) made = memory

-- the answer of a search
pub record Searched (asked : Asked) (files : Contents) (settings : Settings) (reply : Reply) : Type 0 where
  pub lifted : Lifting
  pub ending : Ending
  pub is_searched : IsSearched asked files settings lifted ending
  pub how_status : ending_status settings.search ending.how ≡ reply.status

pub searched : (asked : Asked) (files : Contents) (settings : Settings) (reply : Reply) (status : Status) → AllowsRefusals (Otherwise status)
    → (statuses.OutOfReach ≡ status → ⊥) → (statuses.Memory ≡ status → ⊥)
    → IsPlanned asked files settings reply → reply.status ≡ status → Searched asked files settings reply
unfolding grounded_step searched_reply ending_reply
searched asked files settings reply status later reach memory is same =
    let of = answers asked files settings reply status later is same in
    let last =
    after status (task_by (refusal_of of.lifted) (grounded_of of.lifted))
    (λ (grounded : Grounded). goes (searched_reply (whole of.lifts.closed) settings of.watchers grounded)) reply
    (refused_later status later reach memory (refusal_of of.lifted) (grounded_of of.lifted)) of.replies same in
    let answer : searched_reply (whole of.lifts.closed) settings of.watchers last.0 ≡ reply = cc in record {
      lifted = of.lifted;
      ending = ending_of last.0.task settings (all_tuples last.0.task settings);
      is_searched = record { lifts = of.lifts; grounded = last.0; grounds = last.1; ends = refl };
      how_status = ap (λ (one : Reply). one.status) answer;
    }

-- ---- statuses of endings
done_found : (search : Search) (how : How) → ending_status search how ≡ statuses.Done → (plan : List ℕ) × (how ≡ Found plan)
done_found search (Found plan) e = (plan, refl)
done_found F5 Emptied e = cc
done_found KBfws Emptied e = cc
done_found search Budget e = cc
done_found search (Words pairs) e = cc

pub no_plan_emptied : (search : Search) (how : How) → ending_status search how ≡ statuses.NoPlan → (search ≡ F5) × (how ≡ Emptied)
no_plan_emptied search (Found plan) e = cc
no_plan_emptied F5 Emptied e = (refl, refl)
no_plan_emptied KBfws Emptied e = cc
no_plan_emptied search Budget e = cc
no_plan_emptied search (Words pairs) e = cc

no_ending : (search : Search) (how : How) → ending_status search how ≡ statuses.OutOfReach → ⊥
no_ending search (Found plan) e = cc
no_ending F5 Emptied e = cc
no_ending KBfws Emptied e = cc
no_ending search Budget e = cc
no_ending search (Words pairs) e = cc

-- the status of a step that has ended is that of the answer
status_of : (ended reply : Reply) → reply_of (ends ended) ≡ Some reply → ended.status ≡ reply.status
status_of ended reply e = let same : ended ≡ reply = cc in ap (λ (one : Reply). one.status) same

not_reached : (closed : Bool) (refusal : Option GroundError) (made : Grounded) (settings : Settings) (watchers : List (WatchKind × Option ℕ)) (reply : Reply) → reply.status ≡ statuses.OutOfReach
    → reply_of (task_by refusal made >>= λ (grounded : Grounded). goes (searched_reply (whole closed) settings watchers grounded)) ≡ Some reply
    → (goal : ℕ) × (atom : List ℕ) × (refusal ≡ Some (GoalOutOfReach goal atom))
unfolding searched_reply ending_reply
not_reached closed None made settings watchers reply is e =
    absurd (no_ending settings.search (ending_of made.task settings (all_tuples made.task settings)).how (status_of (searched_reply (whole closed) settings watchers made) reply e ∙ is))
not_reached closed (Some TooManyActs) made settings watchers reply is e =
    let same : statuses.Limit ≡ statuses.OutOfReach = status_of (record { text = ground_error_text TooManyActs; status = statuses.Limit }) reply e ∙ is in cc
not_reached closed (Some TooManyAtoms) made settings watchers reply is e =
    let same : statuses.Limit ≡ statuses.OutOfReach = status_of (record { text = ground_error_text TooManyAtoms; status = statuses.Limit }) reply e ∙ is in cc
not_reached closed (Some (GoalOutOfReach goal atom)) made settings watchers reply is e = (goal, atom, refl)
not_reached closed (Some Memory) made settings watchers reply is e =
    let same : statuses.Memory ≡ statuses.OutOfReach = status_of (record { text = ground_error_text Memory; status = statuses.Memory }) reply e ∙ is in cc

-- ---- the laws
pub one_answer : (asked : Asked) (files : Contents) (one other : Reply) → answer_of asked files ≡ Some one
    → answer_of asked files ≡ Some other → one ≡ other
one_answer asked files one other e f = let both_are : Some one ≡ Some other = sym e ∙ f in cc

done_there : FoundPlansAreReadBack → (asked : Asked) (files : Contents) (settings : Settings) (reply : Reply)
    → answer_of asked files ≡ Some reply → (of : Searched asked files settings reply) → reply.status ≡ statuses.Done
    → (plan : List Instance) × IsReadAs of.lifted plan reply.text
done_there found asked files settings reply answer of done =
    let has = done_found settings.search of.ending.how (of.how_status ∙ done) in
    let back = found asked files settings of.lifted of.ending has.0 of.is_searched has.1 in
    let plan = map (instance_at of.lifted) has.0 in
    (plan, subst (λ (one : Reply). IsReadAs of.lifted plan one.text) (one_answer asked files back.0 reply back.1 answer) back.3)

pub done_answers : FoundPlansAreReadBack → DoneAnswersAreValidPlans
done_answers found asked files settings reply is done =
    let later : AllowsRefusals (Otherwise statuses.Done) = record { limit = λ e. cc; fault = λ e. cc } in
    let of = searched asked files settings reply statuses.Done later (λ e. cc) (λ e. cc) is done in
    let there = done_there found asked files settings reply is.answer of done in
    (of.lifted, of.is_searched.lifts, there.0, there.1)

emptied_there : EmptiedSearchesHaveNoPlan → (asked : Asked) (files : Contents) (settings : Settings) (reply : Reply)
    → Searched asked files settings reply → reply.status ≡ statuses.NoPlan → HasNoPlan asked files settings
emptied_there emptied asked files settings reply of none =
    let has = no_plan_emptied settings.search of.ending.how (of.how_status ∙ none) in
    (of.lifted, of.is_searched.lifts, emptied asked files settings of.lifted of.ending of.is_searched has.0 has.1)

no_plan_there : EmptiedSearchesHaveNoPlan → (asked : Asked) (files : Contents) (settings : Settings) (reply : Reply)
    → IsPlanned asked files settings reply → reply.status ≡ statuses.NoPlan → HasNoPlan asked files settings
no_plan_there emptied asked files settings reply is none =
    let later : AllowsRefusals (Otherwise statuses.NoPlan) = record { limit = λ e. cc; fault = λ e. cc } in
    let of = searched asked files settings reply statuses.NoPlan later (λ e. cc) (λ e. cc) is none in
    emptied_there emptied asked files settings reply of none

out_of_reach_there : GoalsOutOfReachHaveNoPlan → (asked : Asked) (files : Contents) (settings : Settings) (reply : Reply)
    → IsPlanned asked files settings reply → reply.status ≡ statuses.OutOfReach → HasNoPlan asked files settings
unfolding grounded_step
out_of_reach_there unreached asked files settings reply is out =
    let later : AllowsRefusals (Otherwise statuses.OutOfReach) = record { limit = λ e. cc; fault = λ e. cc } in
    let of = answers asked files settings reply statuses.OutOfReach later is out in
    let goal = not_reached of.lifts.closed (refusal_of of.lifted) (grounded_of of.lifted) settings of.watchers reply out of.replies in
    (of.lifted, of.lifts, unreached asked files settings of.lifted goal.0 goal.1 of.lifts goal.2)

pub no_plan_answers : GoalsOutOfReachHaveNoPlan → EmptiedSearchesHaveNoPlan → AnswersOfNoPlanAreTrue
no_plan_answers unreached emptied asked files settings reply is (inl none) = no_plan_there emptied asked files settings reply is none
no_plan_answers unreached emptied asked files settings reply is (inr out) = out_of_reach_there unreached asked files settings reply is out
