pub mod Firsts
pub mod Steps
pub mod Orders
pub mod Sent
mod Rows
