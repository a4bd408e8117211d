pub mod Grown
pub mod History
pub mod Seats
pub mod StepPlays
pub mod Words
