pub mod AnswerLemmas
pub mod LineLemmas
pub mod MatchLemmas
pub mod RowLemmas
