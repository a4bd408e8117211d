pub mod EventLemmas
pub mod MomentLemmas
pub mod PartLemmas
pub mod ReadsLemmas
pub mod ShelfLemmas
