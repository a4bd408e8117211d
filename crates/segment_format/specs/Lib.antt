pub mod Layout
pub mod Spelled
pub mod Pages
pub mod Laws
pub mod StepsColumns
pub mod StepsSets
