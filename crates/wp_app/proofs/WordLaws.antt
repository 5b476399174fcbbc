-- The usage is told exactly where the words have no command, and `--plain`, `--workers` and `--ahead` play no part in an answer.
use Rattle.std.proofs.Common.{◌≡◌, ℕ, Bool, true, List, refl, sym, ap, ◌∙◌, subst}
use Rattle.std.specs.Prelude.{Option, None, Some}
use Rattle.wp_edge.specs.Fetch.{Contents}
use Rattle.wp_lift.specs.Problem.{Lifting}
use Rattle.wp_ground.specs.declared.grounding.Grounded.{Grounded}
use Rattle.wp_plain.specs.declared.ending.How.{How}
use Rattle.wp_plain.specs.declared.settings.Search.{Search}
use Rattle.wp_plain.specs.declared.settings.Search.TheVariants.{KBfws, F5}
use Rattle.wp_plain.specs.declared.settings.Settings.{Settings}
use Rattle.wp_plain.specs.Pairs.{all_tuples}
use Rattle.wp_plain.specs.Run.{Moment, WorkersPlayNoPart, ending_from}
use Rattle.wp_watch.specs.declared.watch.WatchKind.{WatchKind}
use Rattle.wp_watch.specs.Places.{texts_after}
use Rattle.wp_words.specs.declared.commands.Command.{Command}
use Rattle.wp_words.specs.declared.commands.Command.TheVariants.{Audit, Check, Gen, Ground, Plan}
use Rattle.wp_words.specs.Words.{command_of}
use Rattle.wp_report.specs.Endings.{ending_text}
use Rattle.wp_report.specs.Inputs.{usage_text}
use Rattle.wp_app.specs.declared.inputs.Texts.{Texts}
use Rattle.wp_app.specs.declared.reply.Reply.{Reply}
use Rattle.wp_app.specs.declared.reply.Status.{Status}
use Rattle.wp_app.specs.declared.reply.Status.TheVariants as statuses
use Rattle.wp_app.specs.declared.shown.Shown.{Shown}
use Rattle.wp_app.specs.Requests.{Asked, kept_of}
use Rattle.wp_app.specs.Steps.{goes, reply_of, ◌>>=◌}
use Rattle.wp_app.specs.Output.{certified, closed_text, ending_reply, grounded_step, lifted_step, named, searched_reply, whole, with_texts}
use Rattle.wp_app.specs.Table.{answer_of, answer_sought, answer_to_gen, answer_to_plan, answer_to_request, made_step, texts_step}
use Rattle.wp_app.specs.Causes.{PlainPlaysNoPart, UsageIsOfNoCommand, WorkersChangeNoAnswer, with_plain, with_workers}
use Rattle.wp_app.specs.Meanings.{is_of, is_of_search}
use Rattle.wp_app.proofs.CauseLaws.{stopped}
use Rattle.wp_app.proofs.MeaningLaws.{of_their_commands}
use Rattle.wp_app.proofs.PlanLemmas.{after_texts}
use Rattle.wp_app.proofs.ReplyLemmas.{request_with, steps_commanded, steps_unnamed}

-- ---- the usage
search_has_no_usage : (search : Search) → is_of_search search statuses.Usage ≡ true → ⊥
search_has_no_usage F5 e = cc
search_has_no_usage KBfws e = cc

has_no_usage : (command : Command) → is_of command statuses.Usage ≡ true → ⊥
has_no_usage (Check domain problem plan) e = cc
has_no_usage (Ground domain problem) e = cc
has_no_usage (Plan domain problem settings watch plain closed) e = search_has_no_usage settings.search e
has_no_usage (Gen number size settings watch plain) e = search_has_no_usage settings.search e
has_no_usage (Audit domain problem certificate) e = cc

only_unnamed : (asked : Asked) (files : Contents) (reply : Reply) → answer_of asked files ≡ Some reply → reply.status ≡ statuses.Usage
    → (found : Option Command) → command_of asked.words ≡ found → found ≡ None
only_unnamed asked files reply answer so None e = refl
only_unnamed asked files reply answer so (Some command) e =
    let of = of_their_commands asked files command reply (record { named = e; answer = answer }) in
    absurd (has_no_usage command (subst (λ (status : Status). is_of command status ≡ true) so of))

unnamed : (asked : Asked) (files : Contents) (reply : Reply) → answer_of asked files ≡ Some reply → command_of asked.words ≡ None
    → reply.status ≡ statuses.Usage
unnamed asked files reply answer none =
    stopped (answer_sought asked files) statuses.Usage reply
    (record { reply = record { text = usage_text; status = statuses.Usage }; ended = steps_unnamed asked files none; so = refl }) answer

pub usage : UsageIsOfNoCommand
usage asked files reply answer = (
  λ so. only_unnamed asked files reply answer so (command_of asked.words) refl,
  λ none. unnamed asked files reply answer none,
)

-- ---- `--plain`
run_plain : (command : Command) (scans : Bool) (watchers : List (WatchKind × Option ℕ)) (files : Contents)
    → answer_to_request (request_with (with_plain scans command) (kept_of (with_plain scans command) watchers)) files
    ≡ answer_to_request (request_with command (kept_of command watchers)) files
unfolding answer_to_request
run_plain (Check domain problem plan) scans watchers files = refl
run_plain (Ground domain problem) scans watchers files = refl
run_plain (Plan domain problem settings watch plain closed) scans watchers files = refl
run_plain (Gen number size settings watch plain) scans watchers files = refl
run_plain (Audit domain problem certificate) scans watchers files = refl

pub no_part : PlainPlaysNoPart
no_part asked other files command scans named also same =
    ap reply_of
    (steps_commanded other (with_plain scans command) files also ∙ run_plain command scans other.watchers files
    ∙ ap (λ (watchers : List (WatchKind × Option ℕ)). answer_to_request (request_with command (kept_of command watchers)) files) same
    ∙ sym (steps_commanded asked command files named))

-- ---- `--workers` and `--ahead`
abbrev Watching : Type 0
Watching = List (WatchKind × Option ℕ)

abbrev crewed : ℕ → ℕ → Settings → Settings
crewed workers ahead settings = record settings { workers = workers; ahead = ahead }

searched_alike : WorkersPlayNoPart → (shown : Shown) (settings : Settings) (workers ahead : ℕ) (watchers : Watching) (grounded : Grounded)
    → searched_reply shown (crewed workers ahead settings) watchers grounded ≡ searched_reply shown settings watchers grounded
unfolding searched_reply ending_reply ending_text
searched_alike alike shown settings workers ahead watchers grounded =
    ap (λ (end : How × Moment).
    certified shown.closed (closed_text grounded.task (ending_from end).counts.kept)
    (with_texts (ending_reply shown settings grounded (ending_from end)) (texts_after watchers end.1.events)))
    (alike grounded.task settings (all_tuples grounded.task settings) workers ahead)

texts_alike : WorkersPlayNoPart → (shown : Shown) (settings : Settings) (workers ahead : ℕ) (watchers : Watching) (texts : Texts)
    → after_texts shown (crewed workers ahead settings) watchers texts ≡ after_texts shown settings watchers texts
texts_alike alike shown settings workers ahead watchers texts =
    λ j. lifted_step texts.domain texts.problem >>= λ (lifted : Lifting). grounded_step lifted
    >>= λ (grounded : Grounded). goes (searched_alike alike shown settings workers ahead watchers grounded j)

run_workers : WorkersPlayNoPart → (command : Command) (workers ahead : ℕ) (watchers : Watching) (files : Contents)
    → answer_to_request (request_with (with_workers workers ahead command) (kept_of (with_workers workers ahead command) watchers)) files
    ≡ answer_to_request (request_with command (kept_of command watchers)) files
unfolding answer_to_request answer_to_plan answer_to_gen
run_workers alike (Check domain problem plan) workers ahead watchers files = refl
run_workers alike (Ground domain problem) workers ahead watchers files = refl
run_workers alike (Plan domain problem settings watch plain closed) workers ahead watchers files =
    let kept = kept_of (Plan domain problem settings watch plain closed) watchers in
    λ j. texts_step domain problem files >>= λ (texts : Texts). texts_alike alike (whole closed) settings workers ahead kept texts j
run_workers alike (Gen number size settings watch plain) workers ahead watchers files =
    let kept = kept_of (Gen number size settings watch plain) watchers in
    λ j. made_step number size >>= λ (texts : Texts). texts_alike alike (named number size) settings workers ahead kept texts j
run_workers alike (Audit domain problem certificate) workers ahead watchers files = refl

pub any_workers : WorkersPlayNoPart → WorkersChangeNoAnswer
any_workers alike asked other files command workers ahead named also same =
    ap reply_of
    (steps_commanded other (with_workers workers ahead command) files also
    ∙ run_workers alike command workers ahead other.watchers files
    ∙ ap (λ (watchers : Watching). answer_to_request (request_with command (kept_of command watchers)) files) same
    ∙ sym (steps_commanded asked command files named))
