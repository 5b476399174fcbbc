-- The texts of small tasks and of endings, computed.
use Rattle.std.specs.Prelude.{◌≡◌, ℕ, true, false, List, [], ◌∷◌, ◌++◌, codes, refl}
use Rattle.std.specs.Fmt.{digits}
use Rattle.wp_lex.specs.declared.error.LexError.TheVariants as lexical
use Rattle.wp_syntax.specs.declared.error.Part.TheVariants.{Domain, Problem, Plan, Certificate}
use Rattle.wp_syntax.specs.declared.error.PddlKind.TheVariants.{Unsupported, TooMany}
use Rattle.wp_syntax.specs.declared.error.PddlError.TheVariants.{Bad}
use Rattle.wp_check.specs.declared.step.PlanError.TheVariants as plans
use Rattle.wp_ground.specs.declared.grounding.Grounded.{Grounded}
use Rattle.wp_ground.specs.declared.grounding.GroundError.TheVariants.{TooManyActs, TooManyAtoms, GoalOutOfReach}
use Rattle.wp_plain.specs.declared.settings.Search.{Search}
use Rattle.wp_plain.specs.declared.settings.Search.TheVariants.{KBfws, F5}
use Rattle.wp_plain.specs.declared.settings.Settings.{Settings}
use Rattle.wp_plain.specs.declared.ending.Counts.{Counts}
use Rattle.wp_plain.specs.declared.ending.How.{How}
use Rattle.wp_plain.specs.declared.ending.How.TheVariants.{Found, Emptied, Budget, Words}
use Rattle.wp_report.specs.Inputs.{gen_text, too_long_text, read_fault_text}
use Rattle.wp_report.specs.Refusals.{lexical_text, kind_text, limit_text, fault_text, refusal_text, lex_text, pddl_text, plan_error_text}
use Rattle.wp_report.specs.Tasks.{ground_text, ground_error_text, atom_line, act_line}
use Rattle.wp_report.specs.Endings.{counts_text, found_text, words_text, ending_line, ending_text}

-- a gives b, b gives c and takes a away
abbrev chain : Grounded
chain = record {
  task = record {
    atoms = 3;
    init = true ∷ false ∷ false ∷ [];
    goals = 2 ∷ [];
    acts = record { pre = 0 ∷ []; add = 1 ∷ []; del = [] } ∷ record { pre = 1 ∷ []; add = 2 ∷ []; del = 0 ∷ [] } ∷ [];
  };
  atom_names = codes "(a)" ∷ codes "(b)" ∷ codes "(c)" ∷ [];
  act_names = codes "(s1)" ∷ codes "(s2)" ∷ [];
}

chain_is_numbered : ground_text chain
    ≡ codes "atoms 3\nacts 2\natom 0 (a)\natom 1 (b)\natom 2 (c)\nact 0 (s1) pre 0 add 1 del\nact 1 (s2) pre 1 add 2 del 0\ninit 0\ngoal 2\n"
unfolding ground_text atom_line act_line digits
chain_is_numbered = refl

-- neither an atom that is true in the beginning nor a goal
nothing_is_numbered : ground_text (record {
  task = record { atoms = 1; init = false ∷ []; goals = []; acts = [] };
  atom_names = codes "(p a)" ∷ [];
  act_names = [];
})
    ≡ codes "atoms 1\nacts 0\natom 0 (p a)\ninit\ngoal\n"
unfolding ground_text atom_line act_line digits
nothing_is_numbered = refl

no_tasks : ground_error_text TooManyActs ++ ground_error_text TooManyAtoms ++ ground_error_text (GoalOutOfReach 1 (codes "(d)"))
    ≡ codes "; limit: more than 1048576 actions\n; limit: more than 65536 atoms\n; goal out of reach (d)\n"
unfolding ground_error_text digits
no_tasks = refl

abbrev settings_of : Search → Settings
settings_of search = record { search = search; width = 1; budget = 9; words = 99; workers = 1; ahead = 0 }

abbrev counts : ℕ → ℕ → ℕ → ℕ → ℕ → ℕ → Counts
counts expanded numbered kept pruned repeats pairs =
    record { expanded = expanded; numbered = numbered; kept = kept; pruned = pruned; repeats = repeats; pairs = pairs }

abbrev ended : Search → How → Counts → List ℕ
ended search how counts = ending_text chain (settings_of search) 3 (record { how = how; counts = counts }) true

chain_is_found : ended KBfws (Found (0 ∷ 1 ∷ [])) (counts 2 3 3 0 1 3)
    ≡ codes "(s1)\n(s2)\n; found steps 2 expanded 2 numbered 3 kept 3 pruned 0 repeats 1 pairs 3\n"
unfolding ending_text ending_line found_text counts_text digits
chain_is_found = refl

steps_are_left_out : ending_text chain (settings_of F5) 3 (record { how = Found (0 ∷ []); counts = counts 2 3 3 0 1 3 }) false
    ≡ codes "; found steps 1 expanded 2 numbered 3 kept 3 pruned 0 repeats 1 pairs 3\n"
unfolding ending_text ending_line found_text counts_text digits
steps_are_left_out = refl

no_plans : ended F5 Emptied (counts 2 2 2 0 0 2) ++ ended KBfws Emptied (counts 8 20 8 12 9 2)
    ++ ended F5 Budget (counts 1 2 2 0 0 2) ++ ended KBfws (Words 1) (counts 0 1 1 0 0 1)
    ≡ codes "; no plan expanded 2 numbered 2 kept 2 pruned 0 repeats 0 pairs 2\n"
    ++ codes "; queue empty expanded 8 numbered 20 kept 8 pruned 12 repeats 9 pairs 2\n"
    ++ codes "; budget expanded 1 numbered 2 kept 2 pruned 0 repeats 0 pairs 2\n"
    ++ codes "; words expanded 0 numbered 1 kept 1 pruned 0 repeats 0 pairs 1 needed 1 tuples 3\n"
unfolding ending_text ending_line words_text counts_text digits
no_plans = refl

unread : read_fault_text Plan ++ too_long_text Domain 4194304
    ≡ codes "; read fault: plan\n; limit: domain longer than 4194304 bytes\n"
unfolding read_fault_text too_long_text digits
unread = refl

unread_certificate : read_fault_text Certificate ++ too_long_text Certificate 268435456
    ≡ codes "; read fault: certificate\n; limit: certificate longer than 268435456 bytes\n"
unfolding read_fault_text too_long_text digits
unread_certificate = refl

generated : gen_text 4294967295 64 ≡ codes "; gen number 4294967295 size 64\n"
unfolding gen_text digits
generated = refl

refused : lex_text Problem (lexical.TooDeep 64) ++ plan_error_text (plans.Lex lexical.Unclosed) ++ plan_error_text (plans.Shape 1)
    ++ pddl_text (Bad Domain (Unsupported (codes "or")) 63) ++ pddl_text (Bad Problem (TooMany 65536) 7)
    ≡ codes "; refused: problem: too deep at 64\n; refused: plan: unclosed\n; refused: plan: shape at 1\n"
    ++ codes "; refused: domain: unsupported or at 63\n; refused: problem: too many at 7 limit 65536\n"
unfolding lexical_text kind_text limit_text fault_text refusal_text digits
refused = refl
