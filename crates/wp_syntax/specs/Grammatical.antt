-- A tree is read without a fault exactly where the grammar has it, and then the record is the one that it states.
use Rattle.std.specs.Prelude.{◌≡◌, ◌↔◌, List, []}
use Rattle.wp_lex.specs.Trees.{Tree, Trees}
use Rattle.wp_syntax.specs.declared.typing.Role.{Role}
use Rattle.wp_syntax.specs.declared.records.Typed.{Typed}
use Rattle.wp_syntax.specs.declared.records.AtomText.{AtomText}
use Rattle.wp_syntax.specs.declared.records.Cond.{Cond}
use Rattle.wp_syntax.specs.declared.items.EffectItem.{EffectItem}
use Rattle.wp_syntax.specs.declared.items.InitFact.{InitFact}
use Rattle.wp_syntax.specs.declared.records.Domain.{Domain}
use Rattle.wp_syntax.specs.declared.records.Problem.{Problem}
use Rattle.wp_syntax.specs.Reading.{fine, each}
use Rattle.wp_syntax.specs.Grammar.{cond_of, goal_of}
use Rattle.wp_syntax.specs.Typing.{typed_of}
use Rattle.wp_syntax.specs.Effects.{effect_of, fact_of}
use Rattle.wp_syntax.specs.Domains.{domain_of}
use Rattle.wp_syntax.specs.Problems.{problem_of}
use Rattle.wp_syntax.specs.Sentences.{IsDomain, IsProblem}
use Rattle.wp_syntax.specs.Phrases.{Each, IsTypedList, IsCondition, IsGoal, IsEffect, IsFact}

pub record PhrasesAreGrammatical : Type 0 where
  pub lists : (role : Role) (trees : Trees) (typed : List Typed) → (typed_of role [] [] trees ≡ fine typed) ↔ IsTypedList role trees typed
  pub conditions : (tree : Tree) (conds : List Cond) → (cond_of tree ≡ fine conds) ↔ IsCondition tree conds
  pub goals : (tree : Tree) (atoms : List AtomText) → (goal_of tree ≡ fine atoms) ↔ IsGoal tree atoms
  pub effects : (tree : Tree) (items : List EffectItem) → (effect_of tree ≡ fine items) ↔ IsEffect tree items
  pub facts : (trees : Trees) (facts : List InitFact) → (each fact_of trees ≡ fine facts) ↔ Each IsFact trees facts

-- the same of domains and problems
pub record TextsAreGrammatical : Type 0 where
  pub domains : (trees : Trees) (domain : Domain) → (domain_of trees ≡ fine domain) ↔ IsDomain trees domain
  pub problems : (trees : Trees) (problem : Problem) → (problem_of trees ≡ fine problem) ↔ IsProblem trees problem
