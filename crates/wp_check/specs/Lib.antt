pub mod PlanFile
pub mod Verdicts
pub mod Laws
pub mod Causes
pub mod PlanText
pub mod Printed
