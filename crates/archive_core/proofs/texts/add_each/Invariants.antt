use Rattle.std.proofs.Common.{◌≡◌, ◌++◌, take}
use Rattle.archive_core.specs.Texts.{FairOf}
use Rattle.archive_meaning.specs.Legal.{IsBook}
use Rattle.archive_core.proofs.texts.add_each.Given as goal

abbrev pub invariant-loop-text : goal.invariant-loop-text
invariant-loop-text l = record {
  limit : l.book.limit ≡ l.initial.book.limit;
  texts : l.book.texts ≡ l.initial.book.texts ++ take l.text-index l.texts;
  book : IsBook (FairOf l.kind) l.initial.book.limit l.book.texts;
}
