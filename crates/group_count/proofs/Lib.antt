mod CountLemmas
mod CountedLemmas
mod ExpandedLemmas
mod FrontsLemmas
mod GroupLemmas
mod GroupedLemmas
mod JoinLemmas
mod JudgeLemmas
mod LaneLemmas
mod LawLemmas
mod MinuteLemmas
mod PartLemmas
mod ShapeLemmas
mod TableLemmas
mod TypeLemmas
mod WalkedLemmas
pub mod ColumnLemmas
