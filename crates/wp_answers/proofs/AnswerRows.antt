-- Answers computed from the words between the spaces of a line, where no file is looked for; and the limits of files, whatever their bytes.
use Rattle.std.specs.Prelude.{◌≡◌, ◌==◌, ℕ, nat_lt, true, false, List, [], ◌∷◌, ◌++◌, length, map, codes, refl, Option, None, Some}
use Rattle.std.proofs.Common.{ap, ◌∙◌}
use Rattle.std.specs.Fmt.{digits}
use Rattle.std.specs.List.{slice_split}
use Rattle.clap.proofs.OnLiterals.{clap_on_literals}
use Rattle.wp_edge.specs.Fetch.{Contents}
use Rattle.wp_syntax.specs.declared.error.Part.{Part}
use Rattle.wp_syntax.specs.declared.error.Part.TheVariants as parts
use Rattle.wp_gen.specs.Depot.{at_text, domain_text, goal_line, init_line, objects_line, problem_text, roads_text}
use Rattle.wp_watch.specs.declared.watch.WatchKind.{WatchKind}
use Rattle.wp_watch.specs.declared.watch.WatchKind.TheVariants.{Fronts, Silent, Tally, Trace}
use Rattle.wp_watch.specs.Texts.{front_line, fronts_text, says, tally_text}
use Rattle.wp_words.specs.CommandLines.{check_line, entries_of, gen_line, ground_line, plan_line}
use Rattle.wp_words.specs.Options.{options_in}
use Rattle.wp_lift.specs.Lifting.{lifting_of, schema_of, cond_of, effect_of, atom_of, slot_of, objects_of, object_of, ground_atom_of, stated_after}
use Rattle.wp_lift.specs.Typing.{types_of, subtypes_of}
use Rattle.wp_report.specs.Inputs.{gen_text, too_long_text, usage_text}
use Rattle.wp_report.specs.Endings.{counts_text, ending_line, ending_text, found_text}
use Rattle.wp_app.specs.declared.reply.Reply.{Reply}
use Rattle.wp_app.specs.declared.reply.Status.{Status}
use Rattle.wp_app.specs.declared.reply.Status.TheVariants as statuses
use Rattle.wp_app.specs.Requests.{Asked}
use Rattle.wp_app.specs.Steps.{Step, goes}
use Rattle.wp_app.specs.Output.{answered, domain_in, domain_step, ending_reply, grounded_step, items_step, lifted_step, limit_of, problem_in, problem_step, request_step, searched_reply, within}
use Rattle.wp_app.specs.Table.{answer_of, answer_sought, answer_to_gen, answer_to_request, made_step}

-- the words between the spaces of a line, with the watchers that are handed in
abbrev asked : List ℕ → List (WatchKind × Option ℕ) → Asked
asked line watchers = record { words = slice_split (λ byte. byte == 32) line; watchers = watchers }

abbrev says_so : Status → List ℕ → Option Reply
says_so status text = Some (record { text = text; status = status })

-- whatever the files: a line with its watchers, and its answer
abbrev Row : Type 0
Row = List ℕ × List (WatchKind × Option ℕ) × Option Reply

abbrev usages : List Row
usages =
    (codes "fly d p", [], says_so statuses.Usage usage_text)
    ∷ (codes "check d p", (Tally, None) ∷ [], says_so statuses.Usage usage_text)
    ∷ (codes "gen 7 65", [], says_so statuses.Usage usage_text)
    ∷ (codes "plan d p --width 3", [], says_so statuses.Usage usage_text)
    ∷ []

usages_answered : (files : Contents) → map (λ (row : Row). answer_of (asked row.0 row.1) files) usages ≡ map (λ (row : Row). row.2) usages
unfolding clap_on_literals plan_line check_line ground_line gen_line entries_of options_in request_step answer_sought
usages_answered files = refl

abbrev spent : List ℕ
spent = codes "; gen number 7 size 2\n; budget expanded 1 numbered 3 kept 3 pruned 0 repeats 0 pairs 2\n"

abbrev tallied : List ℕ
tallied = codes "; tally events 1 born 2 kept 2 pruned 0 repeats 0\n"

abbrev fronted : List ℕ
fronted = codes "; front g 1 at 0\n"

-- watchers answer in the order in which they are handed in, and those alone that the words name
abbrev searches : List Row
searches = (
  codes "gen 7 1",
  (Tally, None) ∷ [],
  says_so statuses.Done (codes "; gen number 7 size 1\n; found steps 0 expanded 0 numbered 1 kept 1 pruned 0 repeats 0 pairs 1\n"),
)
    ∷ (codes "gen 7 2 --width 1 --budget 1 --watch tally,fronts", (Tally, None) ∷ (Trace, None) ∷ (Fronts, None) ∷ (Silent, None) ∷ [], says_so statuses.Budget (spent ++ tallied ++ fronted))
    ∷ (codes "gen 7 2 --width 1 --budget 1 --watch tally,fronts", (Fronts, Some 1) ∷ (Tally, None) ∷ [], says_so statuses.Budget (spent ++ fronted ++ tallied))
    ∷ []

searches_answered : (files : Contents) → map (λ (row : Row). answer_of (asked row.0 row.1) files) searches ≡ map (λ (row : Row). row.2) searches
unfolding clap_on_literals plan_line check_line ground_line gen_line entries_of options_in request_step answer_sought answer_to_request answer_to_gen made_step domain_step problem_step items_step domain_in problem_in lifted_step grounded_step searched_reply ending_reply lifting_of schema_of cond_of effect_of atom_of slot_of objects_of object_of ground_atom_of stated_after types_of subtypes_of ending_text ending_line counts_text found_text gen_text domain_text problem_text objects_line init_line goal_line roads_text at_text says tally_text fronts_text front_line digits
searches_answered files = refl

-- ---- limits
-- a file of one byte more than its part may have, whatever its bytes
abbrev too_long : Part → ℕ → Step (List ℕ)
too_long part limit = answered statuses.Limit (too_long_text part limit)

one_too_long : (part : Part) (limit : ℕ) (bytes : List ℕ) → limit_of part ≡ limit → nat_lt limit (length bytes) ≡ true → within part (Some bytes) ≡ too_long part limit
one_too_long part limit bytes is long =
    (λ i. elim (nat_lt (is i) (length bytes)) as (λ _. Step (List ℕ)) [ true ↦ answered statuses.Limit (too_long_text part (is i)) | false ↦ goes bytes ])
    ∙ (λ i. elim (long i) as (λ _. Step (List ℕ)) [ true ↦ answered statuses.Limit (too_long_text part limit) | false ↦ goes bytes ])

domains_are_limited : (bytes : List ℕ) → length bytes ≡ 4194305 → within parts.Domain (Some bytes) ≡ too_long parts.Domain 4194304
domains_are_limited bytes long = one_too_long parts.Domain 4194304 bytes refl (ap (nat_lt 4194304) long)

problems_are_limited : (bytes : List ℕ) → length bytes ≡ 16777217 → within parts.Problem (Some bytes) ≡ too_long parts.Problem 16777216
problems_are_limited bytes long = one_too_long parts.Problem 16777216 bytes refl (ap (nat_lt 16777216) long)

plans_are_limited : (bytes : List ℕ) → length bytes ≡ 16777217 → within parts.Plan (Some bytes) ≡ too_long parts.Plan 16777216
plans_are_limited bytes long = one_too_long parts.Plan 16777216 bytes refl (ap (nat_lt 16777216) long)

certificates_are_limited : (bytes : List ℕ) → length bytes ≡ 268435457 → within parts.Certificate (Some bytes) ≡ too_long parts.Certificate 268435456
certificates_are_limited bytes long = one_too_long parts.Certificate 268435456 bytes refl (ap (nat_lt 268435456) long)

-- and one as long as its limit goes on
domains_may_be_long : (bytes : List ℕ) → length bytes ≡ 4194304 → within parts.Domain (Some bytes) ≡ goes bytes
domains_may_be_long bytes long =
    λ i. elim (nat_lt 4194304 (long i)) as (λ _. Step (List ℕ)) [ true ↦ answered statuses.Limit (too_long_text parts.Domain 4194304) | false ↦ goes bytes ]
