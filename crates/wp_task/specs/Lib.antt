pub mod Set
pub mod Packing
pub mod Task
pub mod Novelty
pub mod Flat
pub mod Many
pub mod Keeping
