use Rattle.std.proofs.Common.{take}
use Rattle.row_codec.specs.Naming.{AreNumbers}
use Rattle.archive_machine.proofs.lookup.LookupNamer.name_words.Given as goal

abbrev pub invariant-loop-text : goal.invariant-loop-text
invariant-loop-text l = AreNumbers l.self.words.now l.numbers.items (take l.text-index l.texts)
