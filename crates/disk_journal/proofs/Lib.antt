pub mod SpellingLemmas
pub mod WalkLemmas
pub mod JournalLemmas
pub mod AppendLemmas
pub mod SeriesLemmas
pub mod GateLemmas
