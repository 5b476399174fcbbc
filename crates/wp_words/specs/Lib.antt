pub mod Values
pub mod Kinds
pub mod CommandLines
pub mod Options
pub mod Words
pub mod Names
