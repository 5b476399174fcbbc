mod Rows
pub mod SumLemmas
pub mod PlaceLemmas
pub mod FrontLemmas
pub mod SlotLemmas
