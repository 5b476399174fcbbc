-- The laws of the answers to `plan`, from those of the readers, of the task and of the search.
use Rattle.std.proofs.Common.{◌≡◌, ℕ, ◌+◌, ◌*◌, ◌<◌, ◌≤◌, Bool, true, false, List, [], ◌∷◌, ◌++◌, length, map, Some, refl, sym, ap, ◌∙◌, subst, ◌⊎◌, inl, inr, ⊎_elim, append_assoc}
use Rattle.std.specs.Prelude.{◌&&◌, Option, if◌then◌else◌}
use Rattle.std.specs.List.{AllByRecursion, flat_map, list_all}
use Rattle.std.proofs.lemmas.Bool.{cases_Bool, both_ways, ltb-false}
use Rattle.std.proofs.lemmas.List.{append-nil, length-map, get_or-map}
use Rattle.std.proofs.lemmas.List.Elements.{recursion_from_All}
use Rattle.wp_edge.specs.Fetch.{Contents}
use Rattle.wp_lift.specs.Problem.{Lifting, Instance}
use Rattle.wp_lift.specs.Worlds.{among, is_valid}
use Rattle.wp_lift.specs.Formed.{IsFormed}
use Rattle.wp_lift.specs.Laws.{LiftingsAreFormed}
use Rattle.wp_task.specs.Task.{IsTask, is_plan}
use Rattle.wp_check.specs.PlanFile.{plan_of}
use Rattle.wp_check.specs.PlanText.{AreComments, CommentsJoin, line, steps_text}
use Rattle.wp_check.specs.Printed.{PlansOfTextsAreReadBack, IsReadBack, naming_steps}
use Rattle.wp_ground.specs.declared.grounding.Grounded.{Grounded}
use Rattle.wp_ground.specs.Laws.{PlansAreValid, ValidPlansAreNumbered, UnreachedGoalsHaveNoPlan}
use Rattle.wp_ground.specs.Reached.{reached}
use Rattle.wp_ground.specs.Refusals.{grounded_of}
use Rattle.wp_ground.specs.Tasks.{task_of, steps_of, atoms_of, instance_at, act_of}
use Rattle.wp_ground.specs.Texts.{step_text}
use Rattle.wp_ground.proofs.ActLemmas.{task-fits}
use Rattle.wp_plain.specs.declared.settings.Search.{Search}
use Rattle.wp_plain.specs.declared.settings.Search.TheVariants.{KBfws, F5}
use Rattle.wp_plain.specs.declared.settings.Settings.{Settings}
use Rattle.wp_plain.specs.declared.ending.Ending.{Ending}
use Rattle.wp_plain.specs.declared.ending.How.{How}
use Rattle.wp_plain.specs.declared.ending.How.TheVariants.{Found, Emptied, Budget, Words}
use Rattle.wp_plain.specs.Laws.{FoundIsPlan, EmptiedHasNoPlan, EndingsOfAllAnswer}
use Rattle.wp_plain.specs.Pairs.{all_tuples, tuple_count}
use Rattle.wp_plain.specs.Run.{run, ending_of}
use Rattle.wp_report.specs.Tasks.{name_at}
use Rattle.wp_report.specs.Endings.{ending_line, ending_text, found_steps, found_text, plan_text}
use Rattle.wp_app.specs.declared.reply.Reply.{Reply}
use Rattle.wp_app.specs.declared.reply.Status.TheVariants as statuses
use Rattle.wp_app.specs.declared.inputs.Texts.{Texts}
use Rattle.wp_watch.specs.declared.watch.WatchKind.{WatchKind}
use Rattle.wp_watch.specs.Places.{texts_after}
use Rattle.wp_words.specs.declared.commands.Command.TheVariants.{Plan}
use Rattle.wp_app.specs.Requests.{Asked, Request, kept_of}
use Rattle.wp_app.specs.Steps.{Step, goes, reply_of, ◌>>=◌}
use Rattle.wp_app.specs.Output.{certified, closed_text, is_no_plan, lifted_step, grounded_step, searched_reply, whole, with_texts, ending_reply, ending_status}
use Rattle.wp_app.specs.Table.{answer_of, answer_to_plan, answer_to_request, texts_step}
use Rattle.wp_app.specs.Laws.{IsLifted, IsSearched, FoundPlansAreReadBack, GoalsOutOfReachHaveNoPlan, EmptiedSearchesHaveNoPlan, SearchesAreBounded, LargeBudgetsAreNotSpent, LargeLimitsAreNotReached}
use Rattle.wp_app.proofs.PlanLemmas.{after_texts}
use Rattle.wp_app.proofs.ReplyLemmas.{steps_commanded}
use Rattle.wp_app.proofs.ChainLemmas.{texts_read, lifted_finely, task_goes, admitted, out_of_reach}
use Rattle.wp_app.proofs.CommentLemmas.{found_is_comment, texts_are_comments}

-- ---- the reply
planned : (closed : Bool) (settings : Settings) (watchers : List (WatchKind × Option ℕ)) (texts : Texts) (lifted : Lifting) (grounded : Grounded) → lifted_step texts.domain texts.problem ≡ goes lifted
    → grounded_step lifted ≡ goes grounded → after_texts (whole closed) settings watchers texts ≡ goes (searched_reply (whole closed) settings watchers grounded)
planned closed settings watchers texts lifted grounded lifts grounds =
    ap (λ (step : Step Lifting). step >>= λ (one : Lifting). grounded_step one >>= λ (task : Grounded). goes (searched_reply (whole closed) settings watchers task)) lifts
    ∙ ap (λ (step : Step Grounded). step >>= λ (task : Grounded). goes (searched_reply (whole closed) settings watchers task)) grounds

run_plan : (domain problem : List ℕ) (settings : Settings) (watch : List WatchKind) (plain closed : Bool) (watchers : List (WatchKind × Option ℕ)) (files : Contents) (texts : Texts)
    → texts_step domain problem files ≡ goes texts
    → answer_to_request (let request : Request = record { command = Plan domain problem settings watch plain closed; watchers = watchers } in request) files ≡ after_texts (whole closed) settings watchers texts
unfolding answer_to_request answer_to_plan
run_plan domain problem settings watch plain closed watchers files texts read = ap (λ (step : Step Texts). step >>= λ (one : Texts). after_texts (whole closed) settings watchers one) read

-- what the watchers say of the search of a task
abbrev pub said : Settings → List (WatchKind × Option ℕ) → Grounded → List (List ℕ)
said settings watchers grounded = texts_after watchers (run grounded.task settings (all_tuples grounded.task settings)).1.events

searched : (closed : Bool) (settings : Settings) (watchers : List (WatchKind × Option ℕ)) (grounded : Grounded) (ending : Ending) → ending_of grounded.task settings (all_tuples grounded.task settings) ≡ ending
    → searched_reply (whole closed) settings watchers grounded ≡ certified closed (closed_text grounded.task ending.counts.kept) (with_texts (ending_reply (whole closed) settings grounded ending) (said settings watchers grounded))
unfolding searched_reply
searched closed settings watchers grounded ending ends =
    ap (λ (one : Ending). certified closed (closed_text grounded.task one.counts.kept) (with_texts (ending_reply (whole closed) settings grounded one) (said settings watchers grounded))) ends

-- the watchers that are kept for the search
abbrev pub watchers_of : (asked : Asked) (files : Contents) (settings : Settings) (lifted : Lifting) → IsLifted asked files settings lifted → List (WatchKind × Option ℕ)
watchers_of asked files settings lifted of = kept_of (Plan of.domain of.problem settings of.watch of.plain of.closed) asked.watchers

-- the answer of a search that ended so
abbrev pub answer_with : (asked : Asked) (files : Contents) (settings : Settings) (lifted : Lifting) (ending : Ending) → IsSearched asked files settings lifted ending → Reply
answer_with asked files settings lifted ending is =
    certified is.lifts.closed (closed_text is.grounded.task ending.counts.kept)
    (with_texts (ending_reply (whole is.lifts.closed) settings is.grounded ending) (said settings (watchers_of asked files settings lifted is.lifts) is.grounded))

pub answered : (asked : Asked) (files : Contents) (settings : Settings) (lifted : Lifting) (ending : Ending)
    (is : IsSearched asked files settings lifted ending) → answer_of asked files ≡ Some (answer_with asked files settings lifted ending is)
answered asked files settings lifted ending is =
    let of = is.lifts in
    let watchers = watchers_of asked files settings lifted of in
    ap reply_of
    (steps_commanded asked (Plan of.domain of.problem settings of.watch of.plain of.closed) files of.command
    ∙ run_plan of.domain of.problem settings of.watch of.plain of.closed watchers files of.texts of.read
    ∙ planned of.closed settings watchers of.texts lifted is.grounded of.lifts is.grounds
    ∙ ap (λ (reply : Reply). goes reply) (searched of.closed settings watchers is.grounded ending is.ends))

-- the status of an ending
pub status_by : (closed : Bool) (settings : Settings) (grounded : Grounded) (ending : Ending) (how : How) → ending.how ≡ how
    → (ending_reply (whole closed) settings grounded ending).status ≡ ending_status settings.search how
unfolding ending_reply
status_by closed settings grounded ending how is = ap (ending_status settings.search) is

-- ---- the text
name_is : (lifted : Lifting) (a : ℕ) → a < length (task_of lifted).acts
    → name_at (grounded_of lifted).act_names a ≡ step_text lifted (instance_at lifted a)
name_is lifted a within =
    let steps = steps_of lifted (among (reached lifted)) in
    let size = length-map steps (act_of lifted (atoms_of lifted (among (reached lifted)))) in
    let there : a < length steps = subst (λ (n : ℕ). a < n) size within in
    get_or-map (step_text lifted) steps a (let none : Instance = record { schema = 0; args = [] } in none) [] there

plan_is : (lifted : Lifting) (plan : List ℕ) → AllByRecursion (λ (a : ℕ). a < length (task_of lifted).acts) plan
    → plan_text (grounded_of lifted).act_names plan ≡ steps_text (naming_steps lifted (map (instance_at lifted) plan))
plan_is lifted [] all = refl
plan_is lifted (a ∷ plan) (here, later) = λ j. line (name_is lifted a here j) ++ plan_is lifted plan later j

found_reply : (closed : Bool) (settings : Settings) (lifted : Lifting) (grounded : Grounded) (ending : Ending) (plan : List ℕ) → ending.how ≡ Found plan
    → grounded_of lifted ≡ grounded → AllByRecursion (λ (a : ℕ). a < length (task_of lifted).acts) plan
    → (ending_reply (whole closed) settings grounded ending).text
    ≡ steps_text (naming_steps lifted (map (instance_at lifted) plan)) ++ found_text (length plan) ending.counts
unfolding ending_reply ending_text ending_line
found_reply closed settings lifted grounded ending plan found same all =
    let tuples = tuple_count settings.width grounded.task.atoms in
    let last = found_text (length plan) ending.counts in
    ap (λ (how : How). found_steps grounded.act_names how ++ ending_line settings.search tuples how ending.counts) found
    ∙ ap (λ (one : Grounded). plan_text one.act_names plan ++ last) (sym same)
    ∙ ap (λ (text : List ℕ). text ++ last) (plan_is lifted plan all)

-- behind a plan there is no certificate
uncertified : (closed : Bool) (settings : Settings) (grounded : Grounded) (ending : Ending) (plan lines : List ℕ) → ending.how ≡ Found plan
    → (if is_no_plan (ending_reply (whole closed) settings grounded ending).status && closed then lines else []) ≡ []
unfolding ending_reply
uncertified closed settings grounded ending plan lines found =
    ap (λ (how : How). if is_no_plan (ending_status settings.search how) && closed then lines else []) found

-- ---- the laws
is_formed : LiftingsAreFormed → (asked : Asked) (files : Contents) (settings : Settings) (lifted : Lifting) → IsLifted asked files settings lifted
    → IsFormed lifted
is_formed are_formed asked files settings lifted of =
    are_formed of.texts.domain of.texts.problem lifted (lifted_finely of.texts.domain of.texts.problem lifted of.lifts)

pub found_read_back : FoundIsPlan → LiftingsAreFormed → PlansAreValid → PlansOfTextsAreReadBack → CommentsJoin → FoundPlansAreReadBack
found_read_back found_is_plan are_formed plans_are_valid read_back join asked files settings lifted ending plan is found =
    let of = is.lifts in
    let formed = is_formed are_formed asked files settings lifted of in
    let task = task_goes lifted is.grounded is.grounds in
    let planned : is_plan is.grounded.task plan ≡ true =
    found_is_plan is.grounded.task settings (all_tuples is.grounded.task settings) plan (ap (λ (end : Ending). end.how) is.ends ∙ found) in
    let here : is_plan (task_of lifted) plan ≡ true =
    subst (λ (one : Grounded). is_plan one.task plan ≡ true) (sym task.1) planned in
    let valid = (plans_are_valid lifted formed (admitted lifted task.0).all_reached plan).0 here in
    let texts = texts_read of.domain of.problem files of.texts of.read in
    let says = said settings (watchers_of asked files settings lifted of) is.grounded in
    let more = flat_map (λ (text : List ℕ). text) says in
    let line_of = found_text (length plan) ending.counts in
    let comments = line_of ++ more in
    let are_comments : AreComments comments =
    join line_of more (found_is_comment (length plan) ending.counts)
    (texts_are_comments join (watchers_of asked files settings lifted of) (run is.grounded.task settings (all_tuples is.grounded.task settings)).1.events) in
    let back : IsReadBack lifted (map (instance_at lifted) plan) comments =
    read_back texts.domain_text texts.problem_text of.texts.domain of.texts.problem lifted (map (instance_at lifted) plan) comments
    texts.is_domain texts.is_problem (lifted_finely of.texts.domain of.texts.problem lifted of.lifts) valid.1
    are_comments in
    let answer = with_texts (ending_reply (whole of.closed) settings is.grounded ending) says in
    let lines = closed_text is.grounded.task ending.counts.kept in
    let text =
    ap (λ (behind : List ℕ). answer.text ++ behind) (uncertified of.closed settings is.grounded ending plan lines found)
    ∙ append-nil answer.text
    ∙ ap (λ (front : List ℕ). front ++ more)
    (found_reply of.closed settings lifted is.grounded ending plan found task.1
    (recursion_from_All (λ (a : ℕ). a < length (task_of lifted).acts) plan valid.0))
    ∙ append_assoc (steps_text (naming_steps lifted (map (instance_at lifted) plan))) line_of more in (
      answer_with asked files settings lifted ending is,
      answered asked files settings lifted ending is,
      status_by is.lifts.closed settings is.grounded ending (Found plan) found,
      record { comments = comments; commented = are_comments; shown = text; read = ap plan_of text ∙ back.read; valid = back.valid },
    )

pub unreached_no_plan : LiftingsAreFormed → UnreachedGoalsHaveNoPlan → GoalsOutOfReachHaveNoPlan
unreached_no_plan are_formed none asked files settings lifted goal atom of refused =
    none lifted (is_formed are_formed asked files settings lifted of) (out_of_reach lifted goal atom refused)

-- a valid plan would be one of the task
pub valid_in_task : PlansAreValid → ValidPlansAreNumbered → (lifted : Lifting) → IsFormed lifted → list_all (among (reached lifted)) lifted.goals ≡ true
    → ((plan : List ℕ) → is_plan (task_of lifted) plan ≡ false) → (plan : List Instance) → is_valid lifted plan ≡ true → ⊥
valid_in_task plans_are_valid numbered lifted formed goals none plan valid =
    let of = numbered lifted formed plan valid in
    let same : is_valid lifted (map (instance_at lifted) of.0) ≡ true = ap (is_valid lifted) of.2 ∙ valid in
    let there = (plans_are_valid lifted formed goals of.0).1 (of.1, same) in
    both_ways (is_plan (task_of lifted) of.0) (none of.0) there

pub emptied_no_plan : EmptiedHasNoPlan → LiftingsAreFormed → PlansAreValid → ValidPlansAreNumbered → EmptiedSearchesHaveNoPlan
emptied_no_plan emptied are_formed plans_are_valid numbered asked files settings lifted ending is search how plan =
    let formed = is_formed are_formed asked files settings lifted is.lifts in
    let task = task_goes lifted is.grounded is.grounds in
    let goals = (admitted lifted task.0).all_reached in
    let none : (plan : List ℕ) → is_plan (task_of lifted) plan ≡ false =
    λ plan. subst (λ (one : Grounded). is_plan one.task plan ≡ false) (sym task.1)
    (emptied is.grounded.task settings (all_tuples is.grounded.task settings) search (ap (λ (end : Ending). end.how) is.ends ∙ how) plan) in
    ⊎_elim
    (λ (valid : is_valid lifted plan ≡ true). absurd (valid_in_task plans_are_valid numbered lifted formed goals none plan valid))
    (λ (not_valid : is_valid lifted plan ≡ false). not_valid)
    (cases_Bool (is_valid lifted plan))

-- the search that ended so is that of the problem's task, which is within the limits
pub record IsOfTask (settings : Settings) (lifted : Lifting) (ending : Ending) : Type 0 where
  pub fits : IsTask (task_of lifted)
  pub ends : ending_of (task_of lifted) settings (all_tuples (task_of lifted) settings) ≡ ending

pub of_task : (asked : Asked) (files : Contents) (settings : Settings) (lifted : Lifting) (ending : Ending)
    → IsSearched asked files settings lifted ending → IsOfTask settings lifted ending
of_task asked files settings lifted ending is =
    let task = task_goes lifted is.grounded is.grounds in
    let is_admitted = admitted lifted task.0 in
    let is_reached = among (reached lifted) in record {
      fits =
          task-fits lifted (atoms_of lifted is_reached) (steps_of lifted is_reached)
          (ltb-false 65536 (length (atoms_of lifted is_reached)) is_admitted.few_atoms)
          (ltb-false 1048576 (length (steps_of lifted is_reached)) is_admitted.few_acts);
      ends = ap (λ (one : Grounded). ending_of one.task settings (all_tuples one.task settings)) task.1 ∙ is.ends;
    }

pub bounded : EndingsOfAllAnswer → SearchesAreBounded
bounded answer asked files settings lifted ending is search =
    let of = of_task asked files settings lifted ending is in
    subst (λ (end : Ending). end.counts.expanded ≤ 1 + end.counts.pairs * tuple_count settings.width (task_of lifted).atoms) of.ends
    ((answer (task_of lifted) settings of.fits).few search)

-- that the budget is spent is the answer of that ending alone
spent_ending : (search : Search) (how : How) → ending_status search how ≡ statuses.Budget → how ≡ Budget
spent_ending search (Found plan) e = cc
spent_ending F5 Emptied e = cc
spent_ending KBfws Emptied e = cc
spent_ending search Budget e = refl
spent_ending search (Words pairs) e = cc

pub not_spent : EndingsOfAllAnswer → LargeBudgetsAreNotSpent
not_spent answer asked files settings lifted ending is search large =
    let of = of_task asked files settings lifted ending is in
    let above =
    subst (λ (end : Ending). 1 + end.counts.pairs * tuple_count settings.width (task_of lifted).atoms ≤ settings.budget) (sym of.ends) large in
    let goes_on : ending.how ≡ Budget → ⊥ =
    (λ (spent : ending.how ≡ Budget). (answer (task_of lifted) settings of.fits).unspent search above (ap (λ (end : Ending). end.how) of.ends ∙ spent)) in (
      answer_with asked files settings lifted ending is,
      answered asked files settings lifted ending is,
      λ e. goes_on (spent_ending settings.search ending.how (sym (status_by is.lifts.closed settings is.grounded ending ending.how refl) ∙ e)),
    )

pub not_reached : EndingsOfAllAnswer → LargeLimitsAreNotReached
not_reached answer asked files settings lifted ending states is search all few large =
    let of = of_task asked files settings lifted ending is in
    let task = task_of lifted in
    let how : (ending_of task settings (all_tuples task settings)).how ≡ ending.how = ap (λ (end : Ending). end.how) of.ends in
    let reply = answer_with asked files settings lifted ending is in
    let status : (reply.status ≡ statuses.Done) ⊎ (reply.status ≡ statuses.NoPlan) =
    ⊎_elim
    (λ (found : (plan : List ℕ) × ((ending_of task settings (all_tuples task settings)).how ≡ Found plan)).
    inl (status_by is.lifts.closed settings is.grounded ending (Found found.0) (sym how ∙ found.1)))
    (λ (emptied : (ending_of task settings (all_tuples task settings)).how ≡ Emptied).
    inr (status_by is.lifts.closed settings is.grounded ending Emptied (sym how ∙ emptied) ∙ ap (λ (one : Search). ending_status one Emptied) search))
    ((answer task settings of.fits).decided states search all few large) in
    (reply, answered asked files settings lifted ending is, status)
