pub mod Files
pub mod Filling
pub mod Old
pub mod Taking
