pub mod OpenLemmas
pub mod CloseLemmas
