-- The answer to `gen` from the steps that have no fault.
use Rattle.std.proofs.Common.{◌≡◌, ℕ, Bool, true, List, refl, sym, ap, ◌∙◌, subst}
use Rattle.std.specs.Prelude.{Option, None, Some}
use Rattle.wp_edge.specs.Fetch.{Contents}
use Rattle.wp_lex.specs.declared.error.LexError.{LexError}
use Rattle.wp_lex.specs.Trees.{trees_of}
use Rattle.wp_lex.specs.Faults.{fault_of}
use Rattle.wp_lex.specs.Items.{items_of}
use Rattle.wp_syntax.specs.declared.error.Part.TheVariants as parts
use Rattle.wp_syntax.specs.declared.records.Domain.{Domain}
use Rattle.wp_syntax.specs.declared.records.Problem.{Problem}
use Rattle.wp_syntax.specs.Reading.{Read, fine as read_fine}
use Rattle.wp_syntax.specs.Domains.{domain_of}
use Rattle.wp_syntax.specs.Problems.{problem_of}
use Rattle.wp_lift.specs.Problem.{Lifting}
use Rattle.wp_lift.specs.Walk.{Walk, fine as lifted_fine}
use Rattle.wp_lift.specs.Lifting.{lifting_of}
use Rattle.wp_ground.specs.declared.grounding.Grounded.{Grounded}
use Rattle.wp_ground.specs.declared.grounding.GroundError.{GroundError}
use Rattle.wp_ground.specs.declared.grounding.GroundError.TheVariants.{TooManyActs, TooManyAtoms, GoalOutOfReach, Memory}
use Rattle.wp_ground.specs.Refusals.{grounded_of, refusal_of}
use Rattle.wp_plain.specs.declared.settings.Search.{Search}
use Rattle.wp_plain.specs.declared.settings.Search.TheVariants.{KBfws, F5}
use Rattle.wp_plain.specs.declared.settings.Settings.{Settings}
use Rattle.wp_plain.specs.declared.ending.How.{How}
use Rattle.wp_plain.specs.declared.ending.How.TheVariants.{Found, Emptied, Budget, Words}
use Rattle.wp_plain.specs.Pairs.{all_tuples}
use Rattle.wp_plain.specs.Run.{ending_of}
use Rattle.wp_watch.specs.declared.watch.WatchKind.{WatchKind}
use Rattle.wp_gen.specs.Depot.{domain_text, problem_text}
use Rattle.wp_gen.specs.Laws.{AreRead, DepotTasksAreRead}
use Rattle.wp_words.specs.declared.commands.Command.TheVariants.{Gen}
use Rattle.wp_app.specs.declared.reply.Reply.{Reply}
use Rattle.wp_app.specs.declared.inputs.Texts.{Texts}
use Rattle.wp_app.specs.Requests.{kept_of}
use Rattle.wp_app.specs.Steps.{Step, goes, reply_of, ◌>>=◌}
use Rattle.wp_app.specs.Output.{domain_in, domain_step, ending_reply, ending_status, grounded_step, items_by, items_step, lifted_by, lifted_step, named, problem_in, problem_step, record_by, searched_reply, task_by}
use Rattle.wp_app.specs.Table.{answer_to_gen, answer_to_request, made_step}
use Rattle.wp_app.specs.Generated.{MadeTasksAreNotRefused, is_of_made}
use Rattle.wp_app.proofs.ChainLemmas.{never_memory}
use Rattle.wp_app.proofs.ReplyLemmas.{request_with, steps_commanded}

-- ---- the texts
domain_goes : (text : List ℕ) (domain : Domain) → fault_of text ≡ None → domain_of (trees_of (items_of text)) ≡ read_fine domain
    → domain_step text ≡ goes domain
unfolding domain_step items_step domain_in
domain_goes text domain whole read =
    ap (λ (fault : Option LexError). items_by parts.Domain fault (items_of text) >>= domain_in) whole
    ∙ ap (λ (read : Read Domain). record_by parts.Domain read.faults read.value) read

problem_goes : (text : List ℕ) (problem : Problem) → fault_of text ≡ None → problem_of (trees_of (items_of text)) ≡ read_fine problem
    → problem_step text ≡ goes problem
unfolding problem_step items_step problem_in
problem_goes text problem whole read =
    ap (λ (fault : Option LexError). items_by parts.Problem fault (items_of text) >>= problem_in) whole
    ∙ ap (λ (read : Read Problem). record_by parts.Problem read.faults read.value) read

lifting_goes : (domain : Domain) (problem : Problem) (lifted : Lifting) → lifting_of domain problem ≡ lifted_fine lifted
    → lifted_step domain problem ≡ goes lifted
unfolding lifted_step
lifting_goes domain problem lifted e = ap (λ (walk : Walk Lifting). lifted_by walk.faults walk.value) e

abbrev texts : (number size : ℕ) → AreRead domain_text (problem_text number size) → Texts
texts number size are = record { domain = are.domain; problem = are.problem }

made_goes : (number size : ℕ) (are : AreRead domain_text (problem_text number size)) → made_step number size ≡ goes (texts number size are)
unfolding made_step
made_goes number size are =
    (λ j. domain_goes domain_text are.domain are.domain_whole are.domain_read j
    >>= λ (domain : Domain). problem_goes (problem_text number size) are.problem are.problem_whole are.problem_read j
    >>= λ (problem : Problem). goes (record { domain = domain; problem = problem }))

-- ---- the answer
abbrev Watching : Type 0
Watching = List (WatchKind × Option ℕ)

abbrev searched : ℕ → ℕ → Settings → Watching → Step Grounded → Step Reply
searched number size settings watchers step =
    step >>= λ (grounded : Grounded). goes (searched_reply (named number size) settings watchers grounded)

generated_is : (number size : ℕ) (settings : Settings) (watchers : Watching) (are : AreRead domain_text (problem_text number size))
    → answer_to_gen number size settings watchers ≡ searched number size settings watchers (grounded_step are.lifted)
unfolding answer_to_gen
generated_is number size settings watchers are =
    ap (λ (step : Step Texts). step >>= λ (texts : Texts). lifted_step texts.domain texts.problem
    >>= λ (lifted : Lifting). searched number size settings watchers (grounded_step lifted)) (made_goes number size are)
    ∙ ap (λ (step : Step Lifting). step >>= λ (lifted : Lifting). searched number size settings watchers (grounded_step lifted))
    (lifting_goes are.domain are.problem are.lifted are.lifts)

ending_among : (search : Search) (how : How) → is_of_made search (ending_status search how) ≡ true
ending_among search (Found plan) = refl
ending_among F5 Emptied = refl
ending_among KBfws Emptied = refl
ending_among search Budget = refl
ending_among search (Words pairs) = refl

abbrev Among : Search → Reply → Type 0
Among search reply = is_of_made search reply.status ≡ true

some_same : (one other : Reply) → Some one ≡ Some other → one ≡ other
some_same one other e = cc

searched_among : (number size : ℕ) (settings : Settings) (watchers : Watching) (refusal : Option GroundError) (made : Grounded)
    → (refusal ≡ Some Memory → ⊥) → (reply : Reply) → reply_of (searched number size settings watchers (task_by refusal made)) ≡ Some reply
    → Among settings.search reply
unfolding searched_reply ending_reply
searched_among number size settings watchers None made known reply e =
    subst (Among settings.search) (some_same _ reply e)
    (ending_among settings.search (ending_of made.task settings (all_tuples made.task settings)).how)
searched_among number size settings watchers (Some TooManyActs) made known reply e =
    subst (Among settings.search) (some_same _ reply e) refl
searched_among number size settings watchers (Some TooManyAtoms) made known reply e = subst (Among settings.search) (some_same _ reply e) refl
searched_among number size settings watchers (Some (GoalOutOfReach goal atom)) made known reply e = subst (Among settings.search) (some_same _ reply e) refl
searched_among number size settings watchers (Some Memory) made known reply e = absurd (known refl)

run_generates : (number size : ℕ) (settings : Settings) (watch : List WatchKind) (plain : Bool) (watchers : Watching) (files : Contents)
    → answer_to_request (request_with (Gen number size settings watch plain) watchers) files ≡ answer_to_gen number size settings watchers
unfolding answer_to_request
run_generates number size settings watch plain watchers files = refl

pub made_not_refused : DepotTasksAreRead → MadeTasksAreNotRefused
unfolding grounded_step
made_not_refused read asked files number size settings watch plain reply is (some, few) =
    let command = Gen number size settings watch plain in
    let watchers = kept_of command asked.watchers in
    let are = read number size some few in
    let steps =
    sym (steps_commanded asked command files is.named
    ∙ run_generates number size settings watch plain watchers files
    ∙ generated_is number size settings watchers are) in
    searched_among number size settings watchers (refusal_of are.lifted) (grounded_of are.lifted) (never_memory are.lifted) reply
    (ap reply_of steps ∙ is.answer)
