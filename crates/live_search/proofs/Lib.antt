pub mod AnswerLemmas
pub mod PartLemmas
pub mod HandleLemmas
pub mod LiveLemmas
pub mod FollowLemmas
pub mod LookingLemmas
pub mod ReaderLemmas
