-- The text of a search that has ended: the steps of the plan that was found, and the line of the ending with its counts.
use Rattle.std.specs.Prelude.{ℕ, ◌<◌, Bool, List, [], ◌++◌, length, codes, decimal, All, if◌then◌else◌}
use Rattle.std.specs.List.{flat_map}
use Rattle.wp_ground.specs.declared.grounding.Grounded.{Grounded}
use Rattle.wp_plain.specs.declared.settings.Search.{Search}
use Rattle.wp_plain.specs.declared.settings.Search.TheVariants.{KBfws, F5}
use Rattle.wp_plain.specs.declared.settings.Settings.{Settings}
use Rattle.wp_plain.specs.declared.ending.Counts.{Counts}
use Rattle.wp_plain.specs.declared.ending.Ending.{Ending}
use Rattle.wp_plain.specs.declared.ending.How.{How}
use Rattle.wp_plain.specs.declared.ending.How.TheVariants.{Found, Emptied, Budget, Words}
use Rattle.wp_check.specs.PlanText.{line}
use Rattle.wp_report.specs.Tasks.{name_at}

-- the numbers of the plan, where one was found, are below a count of actions
abbrev pub IsPlanBelow : ℕ → How → Type 0
IsPlanBelow count (Found plan) = All (λ (a : ℕ). a < count) plan
IsPlanBelow count how = Unit {0}

unfoldable pub counts_text : Counts → List ℕ
counts_text counts =
    codes "expanded " ++ decimal counts.expanded ++ codes " numbered " ++ decimal counts.numbered
    ++ codes " kept " ++ decimal counts.kept ++ codes " pruned " ++ decimal counts.pruned
    ++ codes " repeats " ++ decimal counts.repeats ++ codes " pairs " ++ decimal counts.pairs

-- the steps of a plan, a line each, by the names of the actions
abbrev pub plan_text : List (List ℕ) → List ℕ → List ℕ
plan_text names plan = flat_map (λ (a : ℕ). line (name_at names a)) plan

-- the same, where a plan was found
abbrev pub found_steps : List (List ℕ) → How → List ℕ
found_steps names (Found plan) = plan_text names plan
found_steps names how = []

-- the line of a plan that was found, with its number of steps
unfoldable pub found_text : ℕ → Counts → List ℕ
found_text steps counts = line (codes "; found steps " ++ decimal steps ++ codes " " ++ counts_text counts)

-- the line of a search whose novelty tables would need so many pairs of counters, with so many tuples each
unfoldable pub words_text : ℕ → ℕ → Counts → List ℕ
words_text pairs tuples counts =
    line (codes "; words " ++ counts_text counts ++ codes " needed " ++ decimal pairs ++ codes " tuples " ++ decimal tuples)

-- of a search with no node left: BFWS(f5) has shown that there is no plan, k-BFWS says nothing of plans
abbrev pub emptied_words : Search → List ℕ
emptied_words F5 = codes "; no plan "
emptied_words KBfws = codes "; queue empty "

unfoldable pub ending_line : Search → ℕ → How → Counts → List ℕ
ending_line search tuples (Found plan) counts = found_text (length plan) counts
ending_line search tuples Emptied counts = line (emptied_words search ++ counts_text counts)
ending_line search tuples Budget counts = line (codes "; budget " ++ counts_text counts)
ending_line search tuples (Words pairs) counts = words_text pairs tuples counts

-- the tuples are those that each pair of counters has a word for
unfoldable pub ending_text : Grounded → Settings → ℕ → Ending → Bool → List ℕ
ending_text grounded settings tuples ending with_plan =
    (if with_plan then found_steps grounded.act_names ending.how else [])
    ++ ending_line settings.search tuples ending.how ending.counts
