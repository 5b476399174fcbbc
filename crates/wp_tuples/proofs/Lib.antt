pub mod Triangles
pub mod CountLemmas
pub mod PlaceLemmas
pub mod PlacingLemmas
pub mod RankLemmas
mod Rows
