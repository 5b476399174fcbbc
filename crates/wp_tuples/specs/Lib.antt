pub mod TuplePlaces
pub mod Placing
pub mod Ranking
