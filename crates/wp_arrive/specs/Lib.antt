pub mod FirstArrival
pub mod Seen
pub mod Rule
pub mod Laws
