pub mod OrderLemmas
pub mod SetLemmas
mod Rows
