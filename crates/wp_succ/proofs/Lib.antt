pub mod ReachedLemmas
pub mod CountLemmas
pub mod NeedLemmas
