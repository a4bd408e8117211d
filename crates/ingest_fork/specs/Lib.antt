pub mod Passes
pub mod Picked
pub mod Works
