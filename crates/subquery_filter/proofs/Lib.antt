mod RunLemmas
mod RuleLemmas
mod LetterLemmas
mod BarrenLemmas
mod VerdictLemmas
mod TokenLemmas
mod StoredLemmas
mod FilterLemmas
mod HoldLemmas
mod RejectLemmas
mod NeedLemmas
mod NumberLemmas
mod DecimalLemmas
mod SmallLemmas
mod SlotLemmas
mod StampLemmas
mod MarkLemmas
mod PageLemmas
mod AroundLemmas
mod AloneLemmas
mod AskingLemmas
mod ClosedLemmas
mod BitLemmas
pub mod HeadLemmas
pub mod TypesLemmas
