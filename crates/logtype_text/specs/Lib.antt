pub mod Cut
pub mod Encoded
pub mod Fair
pub mod Laws
pub mod Parts
pub mod Steps
pub mod TypeText
