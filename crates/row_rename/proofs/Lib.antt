pub mod KindLemmas
pub mod PathLemmas
pub mod RenameLemmas
pub mod TableLemmas
