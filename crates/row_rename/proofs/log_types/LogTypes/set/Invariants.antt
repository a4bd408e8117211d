use Rattle.std.proofs.Common.{◌≡◌, ℕ, List, length}
use Rattle.row_rename.specs.Tables.{AreLogTypes}
use Rattle.row_rename.proofs.log_types.LogTypes.set.Given as goal

abbrev pub invariant-loop : goal.invariant-loop
invariant-loop l = record {
  long : length l.self.named.items ≡ l.counter;
  kept : (old new : List (List ℕ)) → AreLogTypes old new l.fn.self.named.items → AreLogTypes old new l.self.named.items;
}
