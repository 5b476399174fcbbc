pub mod AdditiveCost
pub mod Buckets
pub mod Frontier
pub mod RelaxedPlan
pub mod Laws
pub mod Workspace
