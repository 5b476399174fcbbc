pub mod AtomLemmas
pub mod MarkLemmas
mod Rows
