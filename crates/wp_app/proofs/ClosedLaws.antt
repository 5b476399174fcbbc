-- The answer that there is no plan, with a certificate behind it, is read as that certificate.
use Rattle.std.proofs.Common.{◌≡◌, ◌==◌, ◌&&◌, ◌≤◌, not, ℕ, Bool, true, false, List, [], ◌∷◌, ◌++◌, get_or, refl, sym, ap, ◌∙◌, subst, arith}
use Rattle.std.specs.Prelude.{Some, codes, if◌then◌else◌}
use Rattle.std.specs.List.{flat_map, list_all}
use Rattle.std.proofs.lemmas.Bool.{and_parts, eqb-true, le-ltb, not-true}
use Rattle.std.proofs.lemmas.List.Elements.{All-cons}
use Rattle.wp_task.specs.Task.{PlanningTask, IsTask}
use Rattle.wp_ground.specs.declared.grounding.Grounded.{Grounded}
use Rattle.wp_ground.specs.Tasks.{task_of}
use Rattle.wp_check.specs.PlanText.{CommentsJoin, is_comment as is_plan_comment, line}
use Rattle.wp_cert.specs.declared.answer.Audit.TheVariants.{Yes}
use Rattle.wp_cert.specs.Audits.{audit_of}
use Rattle.wp_cert.specs.Closing.{closed_cert}
use Rattle.wp_cert.specs.Format.{IsLine, cert_of, is_comment, text_of}
use Rattle.wp_cert.specs.Laws.{EmptiedKeepsFew, EmptiedOutputIsCertified}
use Rattle.wp_plain.specs.declared.settings.Search.{Search}
use Rattle.wp_plain.specs.declared.settings.Search.TheVariants.{F5}
use Rattle.wp_plain.specs.declared.settings.Settings.{Settings}
use Rattle.wp_plain.specs.declared.ending.Ending.{Ending}
use Rattle.wp_plain.specs.declared.ending.How.{How}
use Rattle.wp_plain.specs.declared.ending.How.TheVariants.{Emptied}
use Rattle.wp_plain.specs.Pairs.{all_tuples, tuple_count}
use Rattle.wp_plain.specs.Run.{run, ending_of}
use Rattle.wp_report.specs.Endings.{counts_text, emptied_words, ending_line, ending_text, found_steps}
use Rattle.wp_words.specs.declared.commands.Command.TheVariants.{Plan}
use Rattle.wp_app.specs.declared.reply.Reply.{Reply}
use Rattle.wp_app.specs.declared.reply.Status.TheVariants as statuses
use Rattle.wp_app.specs.Output.{closed_text, cert_text, ending_reply, ending_status, is_no_plan, most_listed, whole, with_texts}
use Rattle.wp_app.specs.Laws.{ClosedAnswersAreCertified}
use Rattle.wp_app.proofs.AnswerLaws.{answer_with, answered, of_task, said, watchers_of}
use Rattle.wp_app.proofs.ChainLemmas.{task_goes}
use Rattle.wp_app.proofs.CommentLemmas.{emptied_is_comment, texts_are_comments}
use Rattle.wp_app.proofs.EndLemmas.{AllowsRefusals}
use Rattle.wp_app.proofs.StatusLaws.{Otherwise, no_plan_emptied, one_answer, searched}

-- ---- comments, as a certificate has them
runs_on : (bytes : List ℕ) → list_all (λ (byte : ℕ). not (byte == 10)) bytes ≡ true → IsLine bytes
runs_on [] all = λ k d within. absurd (omega arith)
runs_on (byte ∷ bytes) all =
    let parts = and_parts (not (byte == 10)) (list_all (λ (byte : ℕ). not (byte == 10)) bytes) all in
    All-cons (λ (b : ℕ). (b == 10) ≡ false) byte bytes (not-true (byte == 10) parts.0) (runs_on bytes parts.1)

as_comment : (text : List ℕ) → is_plan_comment text ≡ true → IsLine text × (is_comment text ≡ true)
as_comment [] e = cc
as_comment (byte ∷ bytes) e =
    let parts = and_parts (byte == 59) (list_all (λ (byte : ℕ). not (byte == 10)) bytes) e in
    let mark : byte ≡ 59 = eqb-true byte 59 parts.0 in
    let other : (byte == 10) ≡ false = subst (λ (b : ℕ). (b == 10) ≡ false) (sym mark) refl in
    (All-cons (λ (b : ℕ). (b == 10) ≡ false) byte bytes other (runs_on bytes parts.1), parts.0)

-- ---- the text
front_is : (closed : Bool) (settings : Settings) (grounded : Grounded) (ending : Ending) → settings.search ≡ F5 → ending.how ≡ Emptied
    → (ending_reply (whole closed) settings grounded ending).text ≡ line (codes "; no plan " ++ counts_text ending.counts)
unfolding ending_reply ending_text ending_line
front_is closed settings grounded ending f5 emptied =
    ap (λ (how : How). found_steps grounded.act_names how ++ ending_line settings.search (tuple_count settings.width grounded.task.atoms) how ending.counts) emptied
    ∙ ap (λ (search : Search). line (emptied_words search ++ counts_text ending.counts)) f5

behind_is : (closed : Bool) (settings : Settings) (grounded : Grounded) (ending : Ending) (lines : List ℕ) → closed ≡ true → settings.search ≡ F5
    → ending.how ≡ Emptied → (if is_no_plan (ending_reply (whole closed) settings grounded ending).status && closed then lines else []) ≡ lines
unfolding ending_reply
behind_is closed settings grounded ending lines asks f5 emptied =
    ap (λ (how : How). if is_no_plan (ending_status settings.search how) && closed then lines else []) emptied
    ∙ ap (λ (search : Search). if is_no_plan (ending_status search Emptied) && closed then lines else []) f5
    ∙ ap (λ (one : Bool). if one then lines else []) asks

listed_is : (kept : ℕ) → kept ≤ 100000000 → most_listed kept ≡ kept
listed_is kept few = ap (λ (many : Bool). if many then 100000000 else kept) (le-ltb 100000000 kept few)

closed_text_is : (task : PlanningTask) (kept : ℕ) (cert : List (List ℕ)) → kept ≤ 100000000 → closed_cert task kept ≡ Some cert
    → closed_text task kept ≡ text_of cert
unfolding closed_text
closed_text_is task kept cert few is =
    ap (λ (limit : ℕ). cert_text (closed_cert task limit)) (listed_is kept few) ∙ ap cert_text is

-- ---- the law
pub closed_certified : CommentsJoin → EmptiedKeepsFew → EmptiedOutputIsCertified → ClosedAnswersAreCertified
closed_certified join keeps_few certified_so asked files settings reply is range asks none =
    let later : AllowsRefusals (Otherwise statuses.NoPlan) = record { limit = λ e. cc; fault = λ e. cc } in
    let of = searched asked files settings reply statuses.NoPlan later (λ e. cc) (λ e. cc) is none in
    let has = no_plan_emptied settings.search of.ending.how (of.how_status ∙ none) in
    let so = of.is_searched in
    let lifts = so.lifts in
    let command : Some (Plan lifts.domain lifts.problem settings lifts.watch lifts.plain lifts.closed)
    ≡ Some (Plan is.domain is.problem settings is.watch is.plain is.closed) = sym lifts.command ∙ is.command in
    let same : lifts.closed ≡ is.closed = cc in
    let task = task_goes of.lifted so.grounded so.grounds in
    let own = so.grounded.task in
    let watchers = watchers_of asked files settings of.lifted lifts in
    let says = said settings watchers so.grounded in
    let more = flat_map (λ (text : List ℕ). text) says in
    let front = line (codes "; no plan " ++ counts_text of.ending.counts) in
    let comments =
    join front more (emptied_is_comment of.ending.counts) (texts_are_comments join watchers (run own settings (all_tuples own settings)).1.events) in
    let fits : IsTask own = subst (λ (one : Grounded). IsTask one.task) task.1 (of_task asked files settings of.lifted of.ending so).fits in
    let how : (ending_of own settings (all_tuples own settings)).how ≡ Emptied = ap (λ (end : Ending). end.how) so.ends ∙ has.1 in
    let found =
    certified_so own settings comments.0 fits range has.0 how (λ k d within. (as_comment (get_or comments.0 k d) (comments.1 k d within)).0)
    (λ k d within. (as_comment (get_or comments.0 k d) (comments.1 k d within)).1) in
    let cert = found.0 in
    let kept : closed_cert own of.ending.counts.kept ≡ Some cert =
    ap (λ (end : Ending). closed_cert own end.counts.kept) (sym so.ends) ∙ found.1 in
    let spent : of.ending.counts.kept ≤ settings.budget =
    subst (λ (end : Ending). end.counts.kept ≤ settings.budget) so.ends (keeps_few own settings (all_tuples own settings) how) in
    let most : settings.budget ≤ 100000000 = range.budget.1 in
    let lines = closed_text own of.ending.counts.kept in
    let base = with_texts (ending_reply (whole lifts.closed) settings so.grounded of.ending) says in
    let text : (answer_with asked files settings of.lifted of.ending so).text ≡ flat_map line comments.0 ++ text_of cert =
    ap (λ (behind : List ℕ). base.text ++ behind) (behind_is lifts.closed settings so.grounded of.ending lines (same ∙ asks) has.0 has.1)
    ∙ ap (λ (begun : List ℕ). (begun ++ more) ++ lines) (front_is lifts.closed settings so.grounded of.ending has.0 has.1)
    ∙ ap (λ (begun : List ℕ). begun ++ lines) comments.2
    ∙ ap (λ (behind : List ℕ). flat_map line comments.0 ++ behind) (closed_text_is own of.ending.counts.kept cert (omega (arith, spent, most)) kept) in
    let whole_text : reply.text ≡ flat_map line comments.0 ++ text_of cert =
    ap (λ (one : Reply). one.text) (one_answer asked files reply (answer_with asked files settings of.lifted of.ending so) is.answer (answered asked files settings of.lifted of.ending so)) ∙ text in
    let yes : audit_of (task_of of.lifted) cert ≡ Yes = subst (λ (one : Grounded). audit_of one.task cert ≡ Yes) (sym task.1) found.4 in
    (of.lifted, lifts, cert, ap cert_of whole_text ∙ found.3, yes)
