use Rattle.std.proofs.Common.{ℕ, ◌≤◌}
use Rattle.std.specs.Prelude.{◌↔◌, IsTrue}
use Rattle.row_codec.specs.Messages.{HasLaterStamp}
use Rattle.archive_core.proofs.SplitLemmas.{AnyStamped}
use Rattle.archive_core.proofs.message.has_later_stamp.Given as goal

abbrev pub invariant-loop-line : goal.invariant-loop-line
invariant-loop-line l = record {
  same : (version : ℕ) → (IsTrue l.micro ↔ (3 ≤ version)) → HasLaterStamp version l.fn.message ↔ AnyStamped version l.line-iterator;
}
