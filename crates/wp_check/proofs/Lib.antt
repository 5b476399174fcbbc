mod Rows
pub mod Fronts
pub mod StepLemmas
pub mod ValidLemmas
pub mod CauseLemmas
pub mod PassedSteps
pub mod PassedPlans
pub mod NamingSteps
