mod Rows
pub mod WordLemmas
pub mod LineLemmas
pub mod FoundLemmas
pub mod ClosingLemmas
pub mod FormatLemmas
pub mod TextLemmas
pub mod AuditLemmas
pub mod ReachableLemmas
pub mod LawLemmas
pub mod FewLemmas
pub mod OutputLemmas
