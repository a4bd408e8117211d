pub mod PassLemmas
pub mod PickLemmas
pub mod PlaceLemmas
pub mod WorkLemmas
