use Rattle.std.proofs.Common.{◌≡◌, ◌++◌, ℕ, List, length, take}
use Rattle.archive_core.specs.LogTypes.{AreKnown}
use Rattle.archive_core.proofs.log_types.push_known.Given as goal

abbrev pub invariant-loop-text : goal.invariant-loop-text
invariant-loop-text l = record {
  known : (old : List (List ℕ)) → AreKnown old l.initial.known.items → AreKnown (old ++ take l.text-index l.texts) l.known.items;
  front : take (length l.initial.known.items) l.known.items ≡ l.initial.known.items;
}
