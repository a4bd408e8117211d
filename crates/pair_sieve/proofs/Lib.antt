pub mod PairLemmas
pub mod MessageLemmas
pub mod MarkLemmas
pub mod SieveLemmas
