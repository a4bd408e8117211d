pub mod Refused
pub mod Part
pub mod Handled
pub mod Looking
pub mod Reader
pub mod Taken
