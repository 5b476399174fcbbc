-- The order of faults: by place, and at one place by kind. That the first fault of a list is the least of them is what
-- makes it the first of a walk that goes through the tree from the left, each list before its items.
use Rattle.std.specs.Prelude.{◌≡◌, ℕ, ◌+◌, ◌*◌, ◌≤◌, List, [], ◌∷◌, ◌++◌, length, codes, Some}
use Rattle.std.specs.List.{AllByRecursion}
use Rattle.wp_lex.specs.Items.{items_of}
use Rattle.wp_lex.specs.Trees.{Trees, trees_of}
use Rattle.wp_syntax.specs.declared.error.ReadKind.{ReadKind}
use Rattle.wp_syntax.specs.declared.error.ReadKind.TheVariants.{Shape, Unsupported, Reserved, Duplicate, TooMany}
use Rattle.wp_syntax.specs.Reading.{Wrong, first, ◌>>=◌}
use Rattle.wp_syntax.specs.Outline.{outline_of, title_of}
use Rattle.wp_syntax.specs.Domains.{domain_of}
use Rattle.wp_syntax.specs.Problems.{no_entries, entries_of, complete_of, problem_of}

-- the order of kinds at one place
abbrev pub rank : ReadKind → ℕ
rank Shape = 0
rank (Unsupported word) = 1
rank Reserved = 2
rank Duplicate = 3
rank (TooMany limit) = 4

abbrev pub number_of_kinds : ℕ
number_of_kinds = 5

-- place and kind in one number
abbrev pub key : Wrong → ℕ
key fault = number_of_kinds * fault.at + rank fault.kind

-- no fault comes after one that is above it, and all are from low to high
abbrev pub Ordered : ℕ → List Wrong → ℕ → Type 0
Ordered low [] high = low ≤ high
Ordered low (fault ∷ faults) high = (low ≤ key fault) × Ordered (key fault) faults high

-- the faults of a domain stand in that order, for each text
abbrev pub DomainFaultsWalk : Type 0
DomainFaultsWalk = (text : List ℕ) → Ordered 0 (domain_of (trees_of (items_of text))).faults (number_of_kinds * length text)

-- the faults that are met in a problem, and those of items that are missing, which are asked for behind all others
abbrev pub met_of : Trees → List Wrong
met_of trees = (outline_of trees >>= λ outline. title_of (codes "problem") outline.title >>= λ name.
    entries_of no_entries outline.rest).faults

abbrev pub missing_of : Trees → List Wrong
missing_of trees =
    let outline = (outline_of trees).value in
    (complete_of outline.at (entries_of no_entries outline.rest).value).faults

-- the faults of a problem are those that are met, in that order, and then those of missing items
pub record Walks (trees : Trees) (high : ℕ) : Type 0 where
  pub parts : (problem_of trees).faults ≡ met_of trees ++ missing_of trees
  pub order : Ordered 0 (met_of trees) (number_of_kinds * high)

abbrev pub ProblemFaultsWalk : Type 0
ProblemFaultsWalk = (text : List ℕ) → Walks (trees_of (items_of text)) (length text)

-- a fault that no other of a list comes before
abbrev pub IsLeast : Wrong → List Wrong → Type 0
IsLeast fault faults = AllByRecursion (λ (other : Wrong). key fault ≤ key other) faults

-- the first fault is the least by place and kind: of all in a domain, and in a problem of all that are met
pub record FirstFaultsAreLeast : Type 0 where
  pub domains : (text : List ℕ) (fault : Wrong) → first (domain_of (trees_of (items_of text))).faults ≡ Some fault
      → IsLeast fault (domain_of (trees_of (items_of text))).faults
  pub problems : (text : List ℕ) (fault : Wrong) → first (problem_of (trees_of (items_of text))).faults ≡ Some fault
      → IsLeast fault (met_of (trees_of (items_of text)))
