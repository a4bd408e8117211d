pub mod CacheLemmas
pub mod NamingLemmas
pub mod SharedLemmas
pub mod LookUpLemmas
