pub mod Numbers
pub mod Depot
pub mod Laws
