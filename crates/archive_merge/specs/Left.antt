-- What calls that add entries to a journal leave of its disk.
pub use Rattle.name_records.specs.Left.{HasGoneOn, LeavesEntries, StandsBetween, StandsForOr}
