use Rattle.std.proofs.Common.{take}
use Rattle.logtype_text.specs.Encoded.{texts_at}
use Rattle.row_codec.specs.Naming.{AreNumbers}
use Rattle.archive_machine.proofs.lookup.LookupNamer.name_spans.Given as goal

abbrev pub invariant-loop-span : goal.invariant-loop-span
invariant-loop-span l = AreNumbers l.self.words.now l.numbers.items (take l.span-index (texts_at l.line l.spans))
