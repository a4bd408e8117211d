pub mod Scan
pub mod Opened
pub mod Journal
pub mod Groups
pub mod Grouped
pub mod GroupLines
pub mod Live
