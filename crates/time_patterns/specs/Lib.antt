pub mod CivilTime
pub mod Digits
pub mod Forms
pub mod Laws
pub mod Stamps
pub mod Steps
pub mod StepsDay
