pub mod Sums
pub mod Texts
pub mod Places
pub mod Torn
pub mod Slots
pub mod Laws
