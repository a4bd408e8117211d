pub mod BookLemmas
pub mod BufferLemmas
pub mod ChainLemmas
pub mod SearchLemmas
pub mod LookupLemmas
