pub mod Followed
pub mod IngestPrints
pub mod Laws
pub mod StepsAdding
