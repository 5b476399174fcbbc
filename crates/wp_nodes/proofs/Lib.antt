pub mod StateLemmas
pub mod NumberLemmas
pub mod LinkedLemmas
pub mod PlanLemmas
mod Rows
