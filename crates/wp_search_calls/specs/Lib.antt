pub mod Shuttle
