pub mod Inputs
pub mod Refusals
pub mod Verdicts
pub mod Causes
pub mod Tasks
pub mod Endings
