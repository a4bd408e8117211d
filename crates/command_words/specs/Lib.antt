pub mod Values
pub mod Forms
pub mod Built
pub mod Asked
pub mod Spellings
