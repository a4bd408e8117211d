pub mod HandLemmas
pub mod KeptLemmas
pub mod CodeLemmas
pub mod LeadLemmas
