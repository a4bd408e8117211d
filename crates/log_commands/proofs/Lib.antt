pub mod AnswerLemmas
pub mod CutterLemmas
pub mod PrintedLemmas
pub mod PrintingLemmas
pub mod ReadingLemmas
pub mod ReadsLemmas
pub mod ShownLemmas
