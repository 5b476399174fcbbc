-- What the top call promises of its words, whatever the shelf and the sink are, and where they tell.
use Rattle.std.specs.Prelude.{◌≡◌, ◌≢◌, ℕ, true, ◌⊎◌, List, ◌++◌, Option, None, Some, IsSome}
use Rattle.wp_edge.specs.Faults.{Rose}
use Rattle.wp_edge.specs.Fetch.{Contents}
use Rattle.wp_edge.specs.Put.{appended}
use Rattle.wp_syntax.specs.declared.error.Part.{Part}
use Rattle.wp_syntax.specs.declared.error.Part.TheVariants as parts
use Rattle.wp_syntax.specs.declared.records.Domain.{Domain}
use Rattle.wp_app.specs.declared.reply.Reply.{Reply}
use Rattle.wp_app.specs.declared.reply.Status.{Status}
use Rattle.wp_app.specs.declared.reply.Status.TheVariants as statuses
use Rattle.wp_app.specs.declared.inputs.Texts.{Texts}
use Rattle.wp_words.specs.declared.commands.Command.{Command}
use Rattle.wp_words.specs.declared.commands.Command.TheVariants.{Audit, Check, Gen, Ground, Plan}
use Rattle.wp_words.specs.Words.{command_of}
use Rattle.wp_app.specs.Requests.{Asked, Request, request_of, file_of}
use Rattle.wp_app.specs.Steps.{goes, ◌>>=◌}
use Rattle.wp_report.specs.Inputs.{read_fault_text}
use Rattle.wp_app.specs.Output.{part_of, domain_step}
use Rattle.wp_app.specs.Table.{answer_of, texts_step}
use Rattle.wp_app.specs.Puts.{IsCut}
use Rattle.wp_app.specs.Statuses.{is_defined}

-- what shelf and sink tell before and after a run: the files, which stay, what the sink holds, and their counts of faults
pub record Outside : Type 0 where
  pub contents : Option Contents
  pub shelf_before : ℕ
  pub shelf_now : ℕ
  pub held : Option (List ℕ)
  pub held_now : Option (List ℕ)
  pub sink_before : ℕ
  pub sink_now : ℕ

abbrev pub outside_of : Option Contents → ℕ → ℕ → Option (List ℕ) → Option (List ℕ) → ℕ → ℕ → Outside
outside_of contents shelf_before shelf_now held held_now sink_before sink_now = record {
  contents = contents;
  shelf_before = shelf_before;
  shelf_now = shelf_now;
  held = held;
  held_now = held_now;
  sink_before = sink_before;
  sink_now = sink_now;
}

-- the shelf tells its files, and the words come to one that is not there
abbrev pub HasNoAnswer : Asked → Option Contents → Type 0
HasNoAnswer asked contents = (files : Contents) × (contents ≡ Some files) × (answer_of asked files ≡ None)

-- the shelf's count of faults rose in the run; so it is said to have where there is no answer
abbrev pub ShelfFailed : Asked → Option Contents → ℕ → ℕ → Type 0
ShelfFailed asked contents before now = Rose before now ⊎ HasNoAnswer asked contents

-- the answer with its whole text after what the sink held, or want of memory and nothing more
abbrev pub IsAnswer : Asked → Contents → List ℕ → Option (List ℕ) → Status → Type 0
IsAnswer asked files held held_now status =
    ((reply : Reply) × (answer_of asked files ≡ Some reply) × (status ≡ reply.status) × (held_now ≡ Some (held ++ reply.text)))
    ⊎ ((status ≡ statuses.Memory) × (held_now ≡ Some held))

-- where shelf and sink tell, and the count of neither rose, the run answers
abbrev pub Headline : Asked → Outside → Status → Type 0
Headline asked outside status =
    (files : Contents) (old : List ℕ) → outside.contents ≡ Some files → outside.held ≡ Some old
    → ¬ ShelfFailed asked outside.contents outside.shelf_before outside.shelf_now → ¬ Rose outside.sink_before outside.sink_now
    → IsAnswer asked files old outside.held_now status

-- the reply is the answer, where the shelf tells
abbrev pub IsDue : Asked → Option Contents → Reply → Type 0
IsDue asked contents reply = (files : Contents) → contents ≡ Some files → answer_of asked files ≡ Some reply

-- whatever failed: the status is that of the answer, and its whole text was taken
pub record Answered (asked : Asked) (outside : Outside) (status : Status) : Type 0 where
  pub text : List ℕ
  pub due : IsDue asked outside.contents (record { text = text; status = status })
  pub taken : outside.held_now ≡ appended outside.held text

-- the run comes to the file of a part: where the shelf tells, the parts before it are there, within their limits and without
-- a fault. First of the domain and the problem alone.
abbrev pub IsInputReached : Option Contents → List ℕ → Part → Type 0
IsInputReached contents domain parts.Domain = Unit {0}
IsInputReached contents domain parts.Problem =
    (files : Contents) → contents ≡ Some files → (read : Domain) × ((part_of parts.Domain domain files >>= domain_step) ≡ goes read)
IsInputReached contents domain parts.Plan = ⊥
IsInputReached contents domain parts.Certificate = ⊥

abbrev pub IsReached : Option Contents → Command → Part → Type 0
IsReached contents (Check domain problem plan) parts.Domain = Unit {0}
IsReached contents (Check domain problem plan) parts.Problem =
    (files : Contents) → contents ≡ Some files → (read : Domain) × ((part_of parts.Domain domain files >>= domain_step) ≡ goes read)
IsReached contents (Check domain problem plan) parts.Plan =
    (files : Contents) → contents ≡ Some files → (texts : Texts) × (texts_step domain problem files ≡ goes texts)
IsReached contents (Check domain problem plan) parts.Certificate = ⊥
IsReached contents (Audit domain problem certificate) parts.Certificate =
    (files : Contents) → contents ≡ Some files → (texts : Texts) × (texts_step domain problem files ≡ goes texts)
IsReached contents (Audit domain problem certificate) part = IsInputReached contents domain part
IsReached contents (Ground domain problem) part = IsInputReached contents domain part
IsReached contents (Plan domain problem settings watch plain closed) part = IsInputReached contents domain part
IsReached contents (Gen number size settings watch plain) part = ⊥

-- the words name the part's file, and the run comes to it
pub record IsNext (asked : Asked) (contents : Option Contents) (part : Part) : Type 0 where
  pub request : Request
  pub reads : request_of asked ≡ Some request
  pub names : IsSome (file_of request.command part)
  pub reached : IsReached contents request.command part

-- the run came to the part's file, and did not get it
pub record IsUnread (asked : Asked) (contents : Option Contents) (before now : ℕ) (part : Part) : Type 0 where
  pub next : IsNext asked contents part
  pub fault : ShelfFailed asked contents before now

-- a file was not read, and the line that says so was taken
pub record ReadFaulted (asked : Asked) (outside : Outside) : Type 0 where
  pub part : Part
  pub unread : IsUnread asked outside.contents outside.shelf_before outside.shelf_now part
  pub taken : outside.held_now ≡ appended outside.held (read_fault_text part)

-- what is to be written: the answer, or the line of a file that was not read
abbrev pub IsReply : Asked → Option Contents → ℕ → ℕ → Reply → Type 0
IsReply asked contents before now reply =
    ((is_defined reply.status ≡ true) × IsDue asked contents reply)
    ⊎ ((part : Part) × (reply ≡ record { text = read_fault_text part; status = statuses.ReadFault }) × IsUnread asked contents before now part)

-- the same of a command, whatever the words that it was read of
abbrev pub IsReplyTo : Request → Option Contents → ℕ → ℕ → Reply → Type 0
IsReplyTo request contents before now reply =
    (reply.status ≢ statuses.Usage) × ((asked : Asked) → request_of asked ≡ Some request → IsReply asked contents before now reply)

-- the usage is told exactly where the words have no command
pub record IsUsageOf (asked : Asked) (reply : Reply) : Type 0 where
  pub only : reply.status ≡ statuses.Usage → command_of asked.words ≡ None
  pub always : command_of asked.words ≡ None → reply.status ≡ statuses.Usage

-- the status of words without a command, with what may stand in its place
abbrev pub IsUsageOrFault : Status → Type 0
IsUsageOrFault status = (status ≡ statuses.Usage) ⊎ ((status ≡ statuses.WriteFault) ⊎ (status ≡ statuses.Memory))

-- a put failed, and a front of what was to be written was taken
pub record WriteFaulted (asked : Asked) (outside : Outside) : Type 0 where
  pub rose : Rose outside.sink_before outside.sink_now
  pub reply : Reply
  pub is : IsReply asked outside.contents outside.shelf_before outside.shelf_now reply
  pub cut : IsCut outside.held outside.held_now reply.text
