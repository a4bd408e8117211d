pub mod Machine
pub mod Events
pub mod Laws
pub mod StepsHands
pub mod StepsAdd
pub mod StepsEven
