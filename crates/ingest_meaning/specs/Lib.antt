pub mod Dictionaries
pub mod Given
pub mod Parts
pub mod Room
pub mod WordsIn
