pub mod Reads
pub mod Paged
pub mod Laws
pub mod Refused
pub mod StepsLoaded
