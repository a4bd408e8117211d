pub mod JobsLemmas
pub mod LentLemmas
