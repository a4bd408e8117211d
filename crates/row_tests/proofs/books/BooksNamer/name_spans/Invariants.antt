use Rattle.std.proofs.Common.{◌≡◌, take}
use Rattle.std.specs.List.{Contains}
use Rattle.logtype_text.specs.Encoded.{texts_at}
use Rattle.row_codec.specs.Naming.{AreNumbers, HasGrown}
use Rattle.row_tests.specs.StepsBooks.{known_of}
use Rattle.row_tests.proofs.books.BooksNamer.name_spans.Given as goal

abbrev pub invariant-loop-span : goal.invariant-loop-span
invariant-loop-span l = record {
  others : (l.self.version ≡ l.fn.self.version) × (known_of l.self.types ≡ known_of l.fn.self.types);
  grown : HasGrown (Contains (texts_at l.line l.spans)) (known_of l.fn.self.words) (known_of l.self.words);
  named : AreNumbers l.self.words.texts l.numbers.items (take l.span-index (texts_at l.line l.spans));
}
