pub mod Row
pub mod Range
pub mod Columns
pub mod Places
