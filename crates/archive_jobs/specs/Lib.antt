pub mod Jobs
pub mod Lent
pub mod LentLaws
