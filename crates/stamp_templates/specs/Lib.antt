pub mod Laws
pub mod StepsBetween
pub mod Templates
