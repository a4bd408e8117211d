pub mod GoingLemmas
pub mod LongLemmas
pub mod PatternLemmas
pub mod RefusalLemmas
