pub use Rattle.wp_task.specs.Task
pub mod Serving
pub mod Tree
pub mod Growing
