use Rattle.std.proofs.Common.{◌≢◌, ◌<◌, ℕ, map}
use Rattle.std.specs.Prelude.{Some, slice_get}
use Rattle.word_places.specs.Record.{text_from}
use Rattle.word_places.proofs.record.place_in.Given as goal

abbrev pub invariant-loop-at : goal.invariant-loop-at
invariant-loop-at l = (k : ℕ) → k < l.at → slice_get (map (text_from l.bytes) l.starts) k ≢ Some l.text
