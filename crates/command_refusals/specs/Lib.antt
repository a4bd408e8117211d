pub mod Ending
pub mod GoesOn
pub mod LogLimits
pub mod Outcome
pub mod Outside
pub mod Reading
pub mod Refusal
