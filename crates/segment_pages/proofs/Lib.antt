pub mod ReadLemmas
pub mod PageLemmas
pub mod StandLemmas
pub mod ColumnLemmas
pub mod PassLemmas
