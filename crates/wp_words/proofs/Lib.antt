pub mod NumberLemmas
pub mod KindLemmas
pub mod EntryLemmas
pub mod LineLemmas
mod Rows
