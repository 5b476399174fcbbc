pub mod Faults
pub mod Fetch
pub mod Put
pub mod Folder
pub mod Fakes
