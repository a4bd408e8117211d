pub mod ExistenceLemmas
pub mod GroupLawLemmas
pub mod GroupLemmas
pub mod LawLemmas
pub mod StepLemmas
