pub mod FaultLemmas
pub mod Firsts
pub mod PartSteps
mod Rows
mod WholeTexts
pub mod Order
pub mod CondOrder
pub mod DomainOrder
pub mod ProblemOrder
pub mod TypedWords
pub mod DomainWords
pub mod ProblemWords
pub mod Heads
pub mod ConjunctionLemmas
pub mod PhraseLemmas
pub mod GrammaticalLemmas
pub mod DeclaredLemmas
pub mod TypedLemmas
pub mod OnceLemmas
pub mod PredicateLemmas
pub mod PartLemmas
pub mod OutlineLemmas
pub mod DomainLemmas
pub mod ProblemLemmas
pub mod LimitLemmas
