pub mod Certificate
pub mod Format
pub mod Audits
pub mod Closing
pub mod Texts
pub mod Laws
