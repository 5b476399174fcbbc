-- What is to be written for words is what their command answers, and the usage where they have none.
use Rattle.std.proofs.Common.{◌≡◌, ◌≢◌, ℕ, Bool, List, [], ◌∷◌, map, filter, cond, true, false, refl, sym, ◌∙◌, ap, subst, Ok, Err, inl, inr}
use Rattle.std.specs.Prelude.{Option, Some, None, Result, IfOk, IsSome, IsTrue, All, ◌⊎◌}
use Rattle.std.specs.declared.alloc.AllocError.{AllocError}
use Rattle.std.proofs.lemmas.List.Elements.{All-filter}
use Rattle.std.proofs.lemmas.Result.{IfOk-weaker}
use Rattle.wp_edge.specs.Faults.{Rose}
use Rattle.wp_edge.specs.Fetch.{Contents}
use Rattle.wp_syntax.specs.declared.error.Part.{Part}
use Rattle.wp_syntax.specs.declared.error.Part.TheVariants.{Domain, Problem, Plan, Certificate}
use Rattle.wp_app.specs.declared.reply.Reply.{Reply}
use Rattle.wp_app.specs.declared.reply.Status.{Status}
use Rattle.wp_app.specs.declared.reply.Status.TheVariants as statuses
use Rattle.wp_app.specs.declared.stop.Stop.{Stop}
use Rattle.wp_app.specs.declared.stop.Stop.TheVariants.{Ends, ReadFault}
use Rattle.wp_words.specs.declared.commands.Command.{Command}
use Rattle.wp_words.specs.declared.commands.Command.TheVariants.{Audit, Check, Gen, Ground}
use Rattle.wp_words.specs.declared.commands.Command.TheVariants as commands
use Rattle.wp_words.specs.Words.{command_of}
use Rattle.wp_app.specs.Steps.{Step, missing, goes, reply_of, ◌>>=◌}
use Rattle.wp_watch.specs.declared.watch.WatchKind.{WatchKind}
use Rattle.wp_watch.specs.Places.{AreAfter, Place}
use Rattle.wp_app.specs.Requests.{Asked, Request, request_of, request_from, keeps_kind, kept_of, file_of}
use Rattle.wp_app.specs.Statuses.{is_defined, is_of_files}
use Rattle.wp_report.specs.Inputs.{read_fault_text, usage_text}
use Rattle.wp_app.specs.Output.{answered, request_step}
use Rattle.wp_app.specs.Table.{answer_sought, answer_to, answer_to_request}
use Rattle.wp_app.specs.Stops.{Follows, IfUnread}
use Rattle.wp_app.specs.Headline.{IsReached, IsReply, IsReplyTo, IsUsageOf, ShelfFailed}

-- a request, or the usage
abbrev begun : Option Request → Step Request
begun found = elim found [ Some request ↦ goes request | None ↦ answered statuses.Usage usage_text ]

steps_begun : (asked : Asked) (files : Contents) → answer_sought asked files ≡ (begun (request_of asked) >>= λ (request : Request). answer_to_request request files)
unfolding answer_sought request_step
steps_begun asked files = refl

-- the steps of what is asked are those of its request
pub steps_named : (asked : Asked) (request : Request) (files : Contents) → request_of asked ≡ Some request → answer_sought asked files ≡ answer_to_request request files
steps_named asked request files e = steps_begun asked files ∙ ap (λ (found : Option Request). begun found >>= λ (one : Request). answer_to_request one files) e

-- a command with watchers
abbrev pub request_with : Command → List (WatchKind × Option ℕ) → Request
request_with command watchers = record { command = command; watchers = watchers }

-- the request of a command
abbrev pub request_for : Asked → Command → Request
request_for asked command = record { command = command; watchers = kept_of command asked.watchers }

pub steps_commanded : (asked : Asked) (command : Command) (files : Contents) → command_of asked.words ≡ Some command → answer_sought asked files ≡ answer_to_request (request_for asked command) files
steps_commanded asked command files e = steps_named asked (request_for asked command) files (ap (request_from asked.watchers) e)

pub steps_unnamed : (asked : Asked) (files : Contents) → command_of asked.words ≡ None → answer_sought asked files ≡ answered statuses.Usage usage_text
steps_unnamed asked files e = steps_begun asked files ∙ ap (λ (found : Option Command). begun (request_from asked.watchers found) >>= λ (one : Request). answer_to_request one files) e

of_files_defined : (status : Status) → IsTrue (is_of_files status) → is_defined status ≡ true
of_files_defined statuses.Done h = refl
of_files_defined statuses.InvalidPlan h = refl
of_files_defined statuses.Usage h = refl
of_files_defined statuses.Refused h = refl
of_files_defined statuses.Limit h = refl
of_files_defined statuses.InvalidCert h = refl
of_files_defined statuses.NoPlan h = refl
of_files_defined statuses.QueueEmpty h = refl
of_files_defined statuses.Budget h = refl
of_files_defined statuses.Words h = refl
of_files_defined statuses.OutOfReach h = refl
of_files_defined statuses.ReadFault h = cc
of_files_defined statuses.WriteFault h = cc
of_files_defined statuses.Memory h = cc

of_files_other : (status : Status) → IsTrue (is_of_files status) → status ≢ statuses.Usage
of_files_other status h e = let no : false ≡ true = subst (λ (s : Status). is_of_files s ≡ true) e h in cc

-- a reply that the steps of the request give
pub replied : (request : Request) (contents : Option Contents) (before now : ℕ) (reply : Reply) → IsTrue (is_of_files reply.status)
    → ((files : Contents) → contents ≡ Some files → reply_of (answer_to_request request files) ≡ Some reply) → IsReplyTo request contents before now reply
replied request contents before now reply h gives = (
  of_files_other reply.status h,
  λ asked named. inl (of_files_defined reply.status h, λ files told. ap reply_of (steps_named asked request files named) ∙ gives files told),
)

pub replied_value : (request : Request) (contents : Option Contents) (before now : ℕ) (reply : Reply) → IsTrue (is_of_files reply.status)
    → Follows {A = Reply} contents (answer_to_request request) before now (Ok reply) → IsReplyTo request contents before now reply
replied_value request contents before now reply h follows = replied request contents before now reply h (λ files told. ap reply_of (follows.gives files told))

pub replied_end : (request : Request) (contents : Option Contents) (before now : ℕ) (reply : Reply) (stop : Stop) → stop ≡ Ends reply
    → Follows {A = Reply} contents (answer_to_request request) before now (Err stop) → IsReplyTo request contents before now reply
replied_end request contents before now reply stop same follows =
    let ended : Follows {A = Reply} contents (answer_to_request request) before now (Err (Ends reply)) = subst (λ (s : Stop). Follows {A = Reply} contents (answer_to_request request) before now (Err s)) same follows in
    replied request contents before now reply ended.defined (λ files told. ap reply_of (ended.gives files told))

failed : (asked : Asked) (request : Request) (contents : Option Contents) (before now : ℕ) → request_of asked ≡ Some request → Rose before now ⊎ ((files : Contents) × (contents ≡ Some files) × (answer_to_request request files ≡ missing)) → ShelfFailed asked contents before now
failed asked request contents before now named (inl rose) = inl rose
failed asked request contents before now named (inr at) = inr (at.0, at.1, ap reply_of (steps_named asked request at.0 named ∙ at.2))

-- a run comes to files that its command names
named_file : (contents : Option Contents) (command : Command) (part : Part) → IsReached contents command part → IsSome (file_of command part)
named_file contents (Check domain problem plan) Domain reached = refl
named_file contents (Check domain problem plan) Problem reached = refl
named_file contents (Check domain problem plan) Plan reached = refl
named_file contents (Check domain problem plan) Certificate reached = absurd reached
named_file contents (Ground domain problem) Domain reached = refl
named_file contents (Ground domain problem) Problem reached = refl
named_file contents (Ground domain problem) Plan reached = absurd reached
named_file contents (Ground domain problem) Certificate reached = absurd reached
named_file contents (commands.Plan domain problem settings watch plain closed) Domain reached = refl
named_file contents (commands.Plan domain problem settings watch plain closed) Problem reached = refl
named_file contents (commands.Plan domain problem settings watch plain closed) Plan reached = absurd reached
named_file contents (commands.Plan domain problem settings watch plain closed) Certificate reached = absurd reached
named_file contents (Audit domain problem certificate) Domain reached = refl
named_file contents (Audit domain problem certificate) Problem reached = refl
named_file contents (Audit domain problem certificate) Plan reached = absurd reached
named_file contents (Audit domain problem certificate) Certificate reached = refl
named_file contents (Gen number size settings watch plain) part reached = absurd reached

abbrev unread_line : List ℕ → Reply
unread_line text = record { text = text; status = statuses.ReadFault }

-- a run that stops at a file that it did not get replies with the line of that file
pub replied_unread : (request : Request) (contents : Option Contents) (before now : ℕ) (part : Part) (text : List ℕ) (stop : Stop) → stop ≡ ReadFault part → text ≡ read_fault_text part
    → Follows {A = Reply} contents (answer_to_request request) before now (Err stop) → IfUnread {A = Reply} (Err stop) (IsReached contents request.command) → IsReplyTo request contents before now (unread_line text)
replied_unread request contents before now part text stop same is follows reached =
    let missed : Follows {A = Reply} contents (answer_to_request request) before now (Err (ReadFault part)) = subst (λ (s : Stop). Follows {A = Reply} contents (answer_to_request request) before now (Err s)) same follows in
    let came : IsReached contents request.command part = subst (λ (s : Stop). IfUnread {A = Reply} (Err s) (IsReached contents request.command)) same reached in (
      (λ e. cc),
      λ asked named. inr (
        part,
        ap unread_line is,
        record {
          next = record { request = request; reads = named; names = named_file contents request.command part came; reached = came };
          fault = failed asked request contents before now named (missed.fault tt);
        },
      ),
    )

-- words without a command
pub usage_reply : (asked : Asked) (contents : Option Contents) (before now : ℕ) (text : List ℕ) → text ≡ usage_text → command_of asked.words ≡ None
    → IsReply asked contents before now (record { text = text; status = statuses.Usage })
usage_reply asked contents before now text is none =
    inl (refl, λ files told. ap reply_of (steps_unnamed asked files none) ∙ ap (λ (t : List ℕ). let reply : Reply = record { text = t; status = statuses.Usage } in Some reply) (sym is))

pub usage_exact : (asked : Asked) (text : List ℕ) → command_of asked.words ≡ None → IsUsageOf asked (record { text = text; status = statuses.Usage })
usage_exact asked text none = record { only = λ e. none; always = λ e. refl }

pub command_exact : (asked : Asked) (request : Request) (contents : Option Contents) (before now : ℕ) (reply : Reply) → request_of asked ≡ Some request → IsReplyTo request contents before now reply → IsUsageOf asked reply
command_exact asked request contents before now reply named is =
    record { only = λ e. absurd (is.0 e); always = λ none. let no : None ≡ Some request = sym (ap (request_from asked.watchers) none) ∙ named in cc }

-- the steps of a command are those of its request
pub follows_request : {contents : Option Contents} {before now : ℕ} {result : Result Reply Stop} (list : List (WatchKind × Option ℕ)) (command other : Command) → command ≡ other
    → Follows {A = Reply} contents (answer_to list other) before now result
    → Follows {A = Reply} contents (answer_to_request (request_with command list)) before now result
unfolding answer_to_request
follows_request {contents = contents} {before = before} {now = now} {result = result} list command other same follows =
    subst (λ (one : Command). Follows {A = Reply} contents (answer_to list one) before now result) (sym same) follows

-- ---- watchers
filter-made : {X Y : Type 0} (f : X → Y) (t : Y → Bool) (xs : List X) → map f (filter (λ x. t (f x)) xs) ≡ filter t (map f xs)
filter-made f t [] = refl
filter-made {X = X} {Y = Y} f t (x ∷ xs) = by (t (f x)) (filter-made f t xs) where
  by : (b : Bool) → map f (filter (λ y. t (f y)) xs) ≡ filter t (map f xs)
      → map f (cond b (x ∷ filter (λ y. t (f y)) xs) (filter (λ y. t (f y)) xs)) ≡ cond b (f x ∷ filter t (map f xs)) (filter t (map f xs))
  by true rest = ap (λ (l : List Y). f x ∷ l) rest
  by false rest = rest

-- the boxes that a command keeps are told of as those that it keeps of all
pub kept_told : {B : Type 0} (kind : B → WatchKind) (until : B → Option ℕ) (command : Command) (kept all : List B)
    → kept ≡ filter (λ b. keeps_kind command (kind b)) all
    → map (λ b. (kind b, until b)) kept ≡ kept_of command (map (λ b. (kind b, until b)) all)
kept_told {B = B} kind until command kept all same =
    ap (map (λ b. (kind b, until b))) same
    ∙ filter-made (λ (b : B). (kind b, until b)) (λ (watcher : WatchKind × Option ℕ). keeps_kind command watcher.0) all

-- a reply to a command, with the watchers that it keeps
pub replied_for : (asked : Asked) (command : Command) (contents : Option Contents) (before now : ℕ) (places : List Place) (list : List (WatchKind × Option ℕ)) (reply : Reply)
    → command_of asked.words ≡ Some command → list ≡ kept_of command asked.watchers → AreAfter list [] places
    → ((one : List (WatchKind × Option ℕ)) → AreAfter one [] places → IsReplyTo (request_with command one) contents before now reply)
    → IsReply asked contents before now reply
replied_for asked command contents before now places list reply named same after is =
    (is list after).1 asked (ap (request_from asked.watchers) named ∙ ap (λ (one : List (WatchKind × Option ℕ)). Some (request_with command one)) (sym same))

pub all_kept : {B : Type 0} (P : B → Type 0) (t : B → Bool) (kept all : List B) → kept ≡ filter t all → All P all → All P kept
all_kept P t kept all same each = subst (All P) (sym same) (All-filter t P all each)

pub replied_by : (asked : Asked) (command : Command) (contents : Option Contents) (before now : ℕ) (places : List Place) (list : List (WatchKind × Option ℕ)) (result : Result Reply AllocError)
    → command_of asked.words ≡ Some command → list ≡ kept_of command asked.watchers → AreAfter list [] places
    → IfOk result (λ reply. (one : List (WatchKind × Option ℕ)) → AreAfter one [] places → IsReplyTo (request_with command one) contents before now reply)
    → IfOk result (IsReply asked contents before now)
replied_by asked command contents before now places list result named same after is =
    IfOk-weaker result
    (λ reply. (one : List (WatchKind × Option ℕ)) → AreAfter one [] places → IsReplyTo (request_with command one) contents before now reply)
    (IsReply asked contents before now)
    (λ reply each. replied_for asked command contents before now places list reply named same after each)
    is
