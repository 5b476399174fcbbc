pub mod AddsLemmas
pub mod FitLemmas
pub mod FrontLemmas
pub mod JobLemmas
mod Rows
