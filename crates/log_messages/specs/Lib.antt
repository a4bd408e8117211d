pub mod GroupLaws
pub mod Groups
pub mod Laws
pub mod Messages
