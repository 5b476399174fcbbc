pub mod Entering
pub mod Expansions
pub mod Latest
pub mod Lending
pub mod MadeChildren
pub mod Newborns
pub mod Phases
pub mod Searched
