pub mod ExclusionLemmas
pub mod FindingLemmas
pub mod GivingLemmas
pub mod GroupLemmas
pub mod JoiningLemmas
pub mod MessageLemmas
pub mod WindowLemmas
