-- Readings and the relation of the grammar.
use Rattle.std.proofs.Common.{◌≡◌, ◌↔◌, [], ap, subst}
use Rattle.wp_syntax.specs.Reading.{Read, fine, each}
use Rattle.wp_syntax.specs.Grammar.{cond_of, goal_of}
use Rattle.wp_syntax.specs.Typing.{typed_of}
use Rattle.wp_syntax.specs.Effects.{effect_of, fact_of}
use Rattle.wp_syntax.specs.Domains.{domain_of}
use Rattle.wp_syntax.specs.Problems.{problem_of}
use Rattle.wp_syntax.specs.Sentences.{IsDomain, IsProblem}
use Rattle.wp_syntax.specs.Phrases.{Each, IsTypedList, IsCondition, IsGoal, IsEffect, IsFact}
use Rattle.wp_syntax.specs.Grammatical.{PhrasesAreGrammatical, TextsAreGrammatical}
use Rattle.wp_syntax.proofs.ConjunctionLemmas.{each_holds, each_reads}
use Rattle.wp_syntax.proofs.PhraseLemmas.{cond_holds, cond_reads, goal_holds, goal_reads, effect_holds, effect_reads, fact_holds, fact_reads}
use Rattle.wp_syntax.proofs.TypedLemmas.{list_holds, list_reads}
use Rattle.wp_syntax.proofs.DomainLemmas.{domain_holds, domain_reads}
use Rattle.wp_syntax.proofs.ProblemLemmas.{problem_holds, problem_reads}

-- what holds of each reading without faults holds of what is read
same : {A : Type 0} (P : A → Type 0) (read : Read A) (x : A) → (read.faults ≡ [] → P read.value) → (P x → read ≡ fine x) → (read ≡ fine x) ↔ P x
same {A} P read x holds reads = (
  λ e. subst (λ (r : Read A). P r.value) e (holds (ap (λ (r : Read A). r.faults) e)),
  reads,
)

pub phrases_grammatical : PhrasesAreGrammatical
phrases_grammatical = record {
  lists = λ role trees typed. same (IsTypedList role trees) (typed_of role [] [] trees) typed (list_holds role trees) (list_reads role trees typed);
  conditions = λ tree conds. same (IsCondition tree) (cond_of tree) conds (cond_holds tree) (cond_reads tree conds);
  goals = λ tree atoms. same (IsGoal tree) (goal_of tree) atoms (goal_holds tree) (goal_reads tree atoms);
  effects = λ tree effects. same (IsEffect tree) (effect_of tree) effects (effect_holds tree) (effect_reads tree effects);
  facts = λ trees facts. same (Each IsFact trees) (each fact_of trees) facts (each_holds fact_of IsFact fact_holds trees)
      (each_reads fact_of IsFact fact_reads trees facts);
}

pub texts_grammatical : TextsAreGrammatical
texts_grammatical = record {
  domains = λ trees domain. same (IsDomain trees) (domain_of trees) domain (domain_holds trees) (domain_reads trees domain);
  problems = λ trees problem. same (IsProblem trees) (problem_of trees) problem (problem_holds trees) (problem_reads trees problem);
}
