-- What holds of the names that a text declares: they are words of it, and no two actions have one name.
use Rattle.std.specs.Prelude.{◌≡◌, ℕ, List, map, All}
use Rattle.std.specs.List.{IsDistinct}
use Rattle.std.specs.Str.{bytes_eq}
pub use Rattle.wp_lex.specs.Words.{IsWord}
use Rattle.wp_lex.specs.Trees.{trees_of}
use Rattle.wp_lex.specs.Items.{items_of}
use Rattle.wp_syntax.specs.declared.records.Name.{Name}
use Rattle.wp_syntax.specs.declared.records.Typed.{Typed}
use Rattle.wp_syntax.specs.declared.records.PredText.{PredText}
use Rattle.wp_syntax.specs.declared.records.ActionText.{ActionText}
use Rattle.wp_syntax.specs.declared.records.Domain.{Domain}
use Rattle.wp_syntax.specs.declared.records.Problem.{Problem}
use Rattle.wp_syntax.specs.Reading.{fine}
use Rattle.wp_syntax.specs.Domains.{domain_of}
use Rattle.wp_syntax.specs.Problems.{problem_of}

abbrev pub IsWorded : Name → Type 0
IsWorded name = IsWord name.text

-- a declared name and the names of its types
pub record IsTypedByWords (typed : Typed) : Type 0 where
  pub name : IsWorded typed.name
  pub kinds : All IsWorded typed.kinds

pub record IsNamedDomain (domain : Domain) : Type 0 where
  pub types : All IsTypedByWords domain.types
  pub constants : All IsTypedByWords domain.constants
  pub preds : All (λ (pred : PredText). IsWorded pred.name) domain.preds
  pub actions : All (λ (action : ActionText). IsWorded action.name) domain.actions
  pub distinct : IsDistinct bytes_eq (map (λ (action : ActionText). action.name.text) domain.actions)

abbrev pub IsNamedProblem : Problem → Type 0
IsNamedProblem problem = All IsTypedByWords problem.objects

abbrev pub DomainsAreNamed : Type 0
DomainsAreNamed = (text : List ℕ) (domain : Domain) → domain_of (trees_of (items_of text)) ≡ fine domain → IsNamedDomain domain

abbrev pub ProblemsAreNamed : Type 0
ProblemsAreNamed =
    (text : List ℕ) (problem : Problem) → problem_of (trees_of (items_of text)) ≡ fine problem → IsNamedProblem problem
