use Rattle.std.proofs.Common.{◌≡◌, ◌<◌, ℕ, false, get_or}
use Rattle.logtype_text.specs.TypeText.{is_escaped}
use Rattle.subquery_filter.proofs.runs.is_stored_plain.Given as goal

abbrev pub invariant-loop-byte : goal.invariant-loop-byte
invariant-loop-byte l = (k d : ℕ) → k < l.byte-index → is_escaped (get_or l.word k d) ≡ false
