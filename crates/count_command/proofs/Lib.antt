pub mod AnswerLemmas
pub mod CountingLemmas
