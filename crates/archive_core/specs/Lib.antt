pub mod Texts
pub mod Slots
pub mod LogTypes
pub mod Judged
pub mod Rows
pub mod Part
pub mod Numbers
