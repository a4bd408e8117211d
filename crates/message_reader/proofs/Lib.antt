pub mod AnswerLemmas
pub mod GroupLemmas
pub mod HeadLemmas
pub mod LineLemmas
pub mod StampedLemmas
pub mod TakenLemmas
pub mod VersionLawLemmas
