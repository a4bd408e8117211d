pub mod CutLemmas
pub mod OneList
pub mod EncodedLemmas
pub mod LaneLemmas
pub mod PartsLemmas
pub mod TextLemmas
