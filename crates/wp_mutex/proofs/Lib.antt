mod Rows
pub mod PairLemmas
pub mod Rounds
pub mod LeastClosed
pub mod Reached
pub mod Growing
pub mod Settling
pub mod PlaceLemmas
