pub mod KeptNodes
pub mod Links
