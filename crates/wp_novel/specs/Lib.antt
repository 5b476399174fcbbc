pub mod Births
pub mod MarkedTuples
pub mod NoveltyTables
pub mod Homes
pub mod StandsFor
pub mod Marks
pub mod Jobs
pub mod Dealing
