pub mod Laws
pub mod Matches
pub mod Reading
pub mod Runs
pub mod Whole
pub mod Widened
