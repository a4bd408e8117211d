pub mod GroupLemmas
pub mod LeftLemmas
pub mod NamedLemmas
