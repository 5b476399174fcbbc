pub mod FolderLemmas
pub mod ReadLemmas
