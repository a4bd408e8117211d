pub mod BitLemmas
pub mod ClassLemmas
pub mod LaneLemmas
pub mod TableLemmas
pub mod TokenLemmas
pub mod WindowLemmas
