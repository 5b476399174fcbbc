pub mod Counters
pub mod Broods
pub mod Laws
