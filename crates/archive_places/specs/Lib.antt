pub mod Words
pub mod Fronts
pub mod Heads
pub mod TypeHeads
pub mod Opened
pub mod Laws
pub mod StepsPlaced
pub mod StepsHeads
