pub mod Jobs
pub mod JournalAt
pub mod JournalLeft
pub mod Naming
pub mod StepsCauses
pub mod StepsKnown
pub mod Taken
