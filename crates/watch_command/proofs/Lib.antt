pub mod BehindLemmas
pub mod ExtendedLemmas
pub mod LiveLemmas
pub mod RefusedLemmas
pub mod RestLemmas
pub mod WatchedLemmas
