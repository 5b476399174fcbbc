-- The texts are those of a task: both are read without a fault, and no name in them means nothing.
use Rattle.std.specs.Prelude.{◌≡◌, ◌≤◌, ℕ, None, List}
use Rattle.wp_lex.specs.Trees.{trees_of}
use Rattle.wp_lex.specs.Faults.{fault_of}
use Rattle.wp_lex.specs.Items.{items_of}
use Rattle.wp_syntax.specs.declared.records.Domain.{Domain}
use Rattle.wp_syntax.specs.declared.records.Problem.{Problem}
use Rattle.wp_syntax.specs.Reading.{fine as read_fine}
use Rattle.wp_syntax.specs.Domains.{domain_of}
use Rattle.wp_syntax.specs.Problems.{problem_of}
use Rattle.wp_lift.specs.Problem.{Lifting}
use Rattle.wp_lift.specs.Walk.{fine as lifted_fine}
use Rattle.wp_lift.specs.Lifting.{lifting_of}
use Rattle.wp_gen.specs.Depot.{domain_text, problem_text}

pub record AreRead (domain_text problem_text : List ℕ) : Type 0 where
  pub domain : Domain
  pub problem : Problem
  pub lifted : Lifting
  pub domain_whole : fault_of domain_text ≡ None
  pub domain_read : domain_of (trees_of (items_of domain_text)) ≡ read_fine domain
  pub problem_whole : fault_of problem_text ≡ None
  pub problem_read : problem_of (trees_of (items_of problem_text)) ≡ read_fine problem
  pub lifts : lifting_of domain problem ≡ lifted_fine lifted

-- whatever the number
abbrev pub DepotTasksAreRead : Type 0
DepotTasksAreRead = (number size : ℕ) → 1 ≤ size → size ≤ 64 → AreRead domain_text (problem_text number size)
