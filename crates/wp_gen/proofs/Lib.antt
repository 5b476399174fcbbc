pub mod TextLemmas
mod Rows
pub mod ProblemForms
pub mod ReadProblems
pub mod LiftedNames
pub mod ReadTasks
