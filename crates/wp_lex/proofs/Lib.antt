mod Rows
pub mod Steps
pub mod Levels
pub mod Spelling
pub mod Balance
pub mod Rise
pub mod First
pub mod Runs
pub mod PlanFaults
pub mod Pass
pub mod WordBytes
pub mod LeafWords
pub mod WrittenLists
