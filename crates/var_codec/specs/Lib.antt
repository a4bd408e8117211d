pub mod Codes
pub mod Digits
pub mod Fields
pub mod Laws
