pub mod Literal
pub mod Matching
pub mod Occurring
pub mod Reading
pub mod Searching
pub mod Spelling
pub mod Stepping
mod WidenLemmas
