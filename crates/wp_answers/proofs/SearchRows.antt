-- How searches of a small task are answered at width 2, computed.
use Rattle.std.specs.Prelude.{◌≡◌, ℕ, true, false, List, [], ◌∷◌, map, codes, refl}
use Rattle.std.specs.Fmt.{digits}
use Rattle.wp_ground.specs.declared.grounding.Grounded.{Grounded}
use Rattle.wp_plain.specs.declared.settings.Search.{Search}
use Rattle.wp_plain.specs.declared.settings.Search.TheVariants.{KBfws, F5}
use Rattle.wp_plain.specs.declared.settings.Settings.{Settings}
use Rattle.wp_app.specs.declared.reply.Reply.{Reply}
use Rattle.wp_app.specs.declared.reply.Status.{Status}
use Rattle.wp_app.specs.declared.reply.Status.TheVariants.{Done, NoPlan, QueueEmpty, Budget, Words}
use Rattle.wp_report.specs.Endings.{counts_text, ending_line, ending_text, found_text, words_text}
use Rattle.wp_app.specs.Output.{searched_reply, ending_reply, whole}

-- a gives b, b gives c and takes a away
abbrev chain : List ℕ → Grounded
chain goals = record {
  task = record {
    atoms = 3;
    init = true ∷ false ∷ false ∷ [];
    goals = goals;
    acts = record { pre = 0 ∷ []; add = 1 ∷ []; del = [] } ∷ record { pre = 1 ∷ []; add = 2 ∷ []; del = 0 ∷ [] } ∷ [];
  };
  atom_names = codes "(a)" ∷ codes "(b)" ∷ codes "(c)" ∷ [];
  act_names = codes "(s1)" ∷ codes "(s2)" ∷ [];
}

-- goals, settings, and the reply
abbrev Row : Type 0
Row = List ℕ × Settings × Reply

abbrev reply_in : Row → Reply
reply_in row = row.2

abbrev reply_to : Row → Reply
reply_to row = searched_reply (whole false) row.1 [] (chain row.0)

abbrev asking : Search → ℕ → ℕ → Settings
asking search budget words =
    record { search = search; width = 2; budget = budget; words = words; workers = 1; ahead = 0 }

abbrev says : Status → List ℕ → Reply
says status text = record { text = text; status = status }

-- c alone; a and c, which are never true together; with a budget of one expansion; and with one word too few for six tuples
abbrev searches : List Row
searches =
    (2 ∷ [], asking F5 1000000 134217728, says Done (codes "(s1)\n(s2)\n; found steps 2 expanded 2 numbered 3 kept 3 pruned 0 repeats 1 pairs 3\n"))
    ∷ (0 ∷ 2 ∷ [], asking F5 1000000 134217728, says NoPlan (codes "; no plan expanded 3 numbered 3 kept 3 pruned 0 repeats 2 pairs 3\n"))
    ∷ (0 ∷ 2 ∷ [], asking KBfws 1000000 134217728, says QueueEmpty (codes "; queue empty expanded 3 numbered 3 kept 3 pruned 0 repeats 2 pairs 3\n"))
    ∷ (2 ∷ [], asking F5 1 134217728, says Budget (codes "; budget expanded 1 numbered 2 kept 2 pruned 0 repeats 0 pairs 2\n"))
    ∷ (2 ∷ [], asking F5 1000000 5, says Words (codes "; words expanded 0 numbered 1 kept 1 pruned 0 repeats 0 pairs 1 needed 1 tuples 6\n"))
    ∷ []

searches_answered : map reply_to searches ≡ map reply_in searches
unfolding searched_reply ending_reply ending_text ending_line counts_text found_text words_text digits
searches_answered = refl
