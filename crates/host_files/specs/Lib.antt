pub mod Offset
pub mod Untold
