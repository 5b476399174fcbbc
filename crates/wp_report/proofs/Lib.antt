pub mod LineLemmas
pub mod CauseLemmas
mod Rows
