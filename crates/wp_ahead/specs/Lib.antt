pub mod Jobs
pub mod KeptBroods
pub mod Laws
