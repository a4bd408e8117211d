pub mod Held
pub mod Legal
pub mod Spelled
pub mod Stands
pub mod Sums
pub mod Laws
pub mod StepsForms
pub mod Back
