-- The lines of what is asked wrongly: words that have no command, a file that cannot be read, a file that is longer than its limit;
-- and the line that names the number and the size of a task that is made.
-- Each line ends with a line feed; numbers are plain decimal.
use Rattle.std.specs.Prelude.{ℕ, List, ◌++◌, codes, decimal}
use Rattle.wp_syntax.specs.declared.error.Part.{Part}
use Rattle.wp_syntax.specs.declared.error.Part.TheVariants.{Domain, Problem, Plan, Certificate}
use Rattle.wp_check.specs.PlanText.{line}

abbrev pub part_text : Part → List ℕ
part_text Domain = codes "domain"
part_text Problem = codes "problem"
part_text Plan = codes "plan"
part_text Certificate = codes "certificate"

unfoldable pub too_long_text : Part → ℕ → List ℕ
too_long_text part limit = line (codes "; limit: " ++ part_text part ++ codes " longer than " ++ decimal limit ++ codes " bytes")

unfoldable pub read_fault_text : Part → List ℕ
read_fault_text part = line (codes "; read fault: " ++ part_text part)

unfoldable pub gen_text : ℕ → ℕ → List ℕ
gen_text number size = line (codes "; gen number " ++ decimal number ++ codes " size " ++ decimal size)

unfoldable pub usage_text : List ℕ
usage_text =
    line (codes "; usage: plan DOMAIN PROBLEM [options]")
    ++ line (codes ";        check DOMAIN PROBLEM PLAN")
    ++ line (codes ";        ground DOMAIN PROBLEM")
    ++ line (codes ";        gen NUMBER SIZE [options]")
    ++ line (codes "; options: --search kbfws|f5 --width 1|2 --budget N --words N")
    ++ line (codes ";          --workers N --ahead N --watch tally,trace,fronts --plain")
