pub mod Reading
pub mod StepsReading
pub mod Taken
pub mod Versions
pub mod VersionLaws
