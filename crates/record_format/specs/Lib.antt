pub mod Header
pub mod Lists
pub mod Laws
