pub mod Causes
pub mod Laws
pub mod Paths
pub mod Renamed
pub mod StepsPut
pub mod Tables
