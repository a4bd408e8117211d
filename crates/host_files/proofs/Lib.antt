pub mod OffsetLemmas
