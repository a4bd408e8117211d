pub mod Barren
pub mod Runs
