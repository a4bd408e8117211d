pub mod TextLemmas
pub mod PlacedLemmas
pub mod EndLemmas
pub mod HeadLemmas
mod TypeHeadLemmas
