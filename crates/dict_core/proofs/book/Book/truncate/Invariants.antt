use Rattle.std.proofs.Common.{◌≡◌, ◌≤◌, min, take, length}
use Rattle.dict_core.proofs.book.Book.truncate.Given as goal

-- some of the first texts are left, and as many as there are to be
abbrev pub invariant-loop-self : goal.invariant-loop-self
invariant-loop-self l = record {
  texts : l.self.texts ≡ take (length l.self.texts) l.fn.self.texts;
  limit : l.self.limit ≡ l.fn.self.limit;
  enough : min l.count (length l.fn.self.texts) ≤ length l.self.texts;
}

abbrev pub decreases-loop-self : goal.decreases-loop-self
decreases-loop-self l = length l.self.texts
