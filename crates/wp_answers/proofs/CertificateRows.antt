-- What is answered of a task without a way out and of certificates of it, computed: `bad` gives t and spends s, and `cut` needs both.
use Rattle.std.specs.Prelude.{◌≡◌, ℕ, true, false, List, [], ◌∷◌, map, codes, refl, Option, Some}
use Rattle.std.specs.Fmt.{digits}
use Rattle.wp_ground.specs.declared.grounding.Grounded.{Grounded}
use Rattle.wp_plain.specs.declared.settings.Search.{Search}
use Rattle.wp_plain.specs.declared.settings.Search.TheVariants.{KBfws, F5}
use Rattle.wp_plain.specs.declared.settings.Settings.{Settings}
use Rattle.wp_cert.specs.Format.{cert_of, header_line, number_in, state_line}
use Rattle.wp_cert.specs.Texts.{audit_line, cert_error_text}
use Rattle.wp_app.specs.declared.reply.Reply.{Reply}
use Rattle.wp_app.specs.declared.reply.Status.{Status}
use Rattle.wp_app.specs.declared.reply.Status.TheVariants.{Done, InvalidCert, NoPlan, QueueEmpty, Refused}
use Rattle.wp_report.specs.Endings.{counts_text, ending_line, ending_text, found_text, words_text}
use Rattle.wp_app.specs.Steps.{goes, reply_of, ◌>>=◌}
use Rattle.wp_app.specs.Output.{audited_reply, cert_step, closed_text, ending_reply, searched_reply, whole}

abbrev trap : Grounded
trap = record {
  task = record {
    atoms = 3;
    init = true ∷ false ∷ false ∷ [];
    goals = 2 ∷ [];
    acts = record { pre = 0 ∷ []; add = 1 ∷ []; del = 0 ∷ [] } ∷ record { pre = 0 ∷ 1 ∷ []; add = 2 ∷ []; del = [] } ∷ [];
  };
  atom_names = codes "(s)" ∷ codes "(t)" ∷ codes "(z)" ∷ [];
  act_names = codes "(bad)" ∷ codes "(cut)" ∷ [];
}

abbrev asking : Search → Settings
asking search = record { search = search; width = 2; budget = 1000000; words = 134217728; workers = 1; ahead = 0 }

abbrev says : Status → List ℕ → Reply
says status text = record { text = text; status = status }

abbrev output : List ℕ
output = codes "; no plan expanded 2 numbered 2 kept 2 pruned 0 repeats 0 pairs 2\nstates 2\nstate 0\nstate 1\n"

certified : searched_reply (whole true) (asking F5) [] trap ≡ says NoPlan output
unfolding searched_reply ending_reply ending_text ending_line counts_text found_text words_text closed_text header_line state_line digits
certified = refl

not_asked : searched_reply (whole false) (asking F5) [] trap ≡ says NoPlan (codes "; no plan expanded 2 numbered 2 kept 2 pruned 0 repeats 0 pairs 2\n")
unfolding searched_reply ending_reply ending_text ending_line counts_text found_text words_text digits
not_asked = refl

pruned : searched_reply (whole true) (asking KBfws) [] trap ≡ says QueueEmpty (codes "; queue empty expanded 2 numbered 2 kept 2 pruned 0 repeats 0 pairs 2\n")
unfolding searched_reply ending_reply ending_text ending_line counts_text found_text words_text digits
pruned = refl

-- a certificate's text, and the answer
abbrev Row : Type 0
Row = List ℕ × Option Reply

abbrev audits : List Row
audits =
    (output, Some (says Done (codes "; closed states 2\n")))
    ∷ (codes "states 1\nstate 0\n", Some (says InvalidCert (codes "; not closed: state 0 act (bad)\n")))
    ∷ (codes "states 1\nstate 1\n", Some (says InvalidCert (codes "; no start\n")))
    ∷ (codes "states 3\nstate 0\nstate 1\nstate 2\n", Some (says InvalidCert (codes "; goal in state 2\n")))
    ∷ (codes "states 1\nstate 9\n", Some (says InvalidCert (codes "; foreign atom in state 0\n")))
    ∷ (codes "states 2\nstate 0\n", Some (says Refused (codes "; refused: certificate: line 3\n")))
    ∷ []

abbrev audit_of_text : List ℕ → Option Reply
audit_of_text text = reply_of (cert_step text >>= λ (cert : List (List ℕ)). goes (audited_reply trap cert))

audits_answered : map (λ (row : Row). audit_of_text row.0) audits ≡ map (λ (row : Row). row.1) audits
unfolding cert_step cert_of number_in audited_reply audit_line cert_error_text digits
audits_answered = refl
