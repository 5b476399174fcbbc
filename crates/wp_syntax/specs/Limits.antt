-- How much of everything a domain has, and what stands once in it: its predicates, its actions, the parameters of one action.
use Rattle.std.specs.Prelude.{◌≤◌, length, map}
use Rattle.std.specs.List.{AllByRecursion}
use Rattle.wp_syntax.specs.declared.records.PredText.{PredText}
use Rattle.wp_syntax.specs.declared.records.ActionText.{ActionText}
use Rattle.wp_syntax.specs.declared.records.Domain.{Domain}
use Rattle.wp_syntax.specs.Named.{most_declared, most_params}
use Rattle.wp_syntax.specs.Phrases.{AreDeclared, words_in}

abbrev pub HasFewParams : PredText → Type 0
HasFewParams pred = length pred.params ≤ most_params

abbrev pub HasDeclaredParams : ActionText → Type 0
HasDeclaredParams action = AreDeclared most_params (words_in action.params)

pub record IsLimited (domain : Domain) : Type 0 where
  pub preds : AreDeclared most_declared (map (λ (pred : PredText). pred.name.text) domain.preds)
  pub pred_params : AllByRecursion HasFewParams domain.preds
  pub actions : AreDeclared most_declared (map (λ (action : ActionText). action.name.text) domain.actions)
  pub action_params : AllByRecursion HasDeclaredParams domain.actions
