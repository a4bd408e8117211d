pub mod CompleteLemmas
pub mod DecodingLemmas
pub mod DirectoryLemmas
pub mod SearchingLemmas
