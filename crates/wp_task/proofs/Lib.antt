pub mod PackingLemmas
pub mod NextLemmas
pub mod OptionLemmas
pub mod SetLemmas
pub mod AddersLemmas
pub mod TaskLemmas
pub mod FlatLemmas
pub mod PlanLemmas
pub mod WordLemmas
pub mod LaneLemmas
pub mod MissingLemmas
pub mod RangeLemmas
pub mod Members
pub mod NoveltyLemmas
mod Rows
