pub mod Cache
pub mod Cached
pub mod Naming
pub mod Shared
pub mod StepsOfNaming
