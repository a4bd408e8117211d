pub mod Books
pub mod Buffer
pub mod Chains
pub mod Fair
pub mod Lookups
