pub mod SegmentLemmas
pub mod TakeLemmas
pub mod CheckLemmas
