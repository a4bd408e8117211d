pub mod BenchLemmas
pub mod BenchedLemmas
pub mod LogCauseLemmas
pub mod MadeLemmas
pub mod SummaryLemmas
