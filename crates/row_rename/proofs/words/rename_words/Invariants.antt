use Rattle.std.proofs.Common.{◌≡◌, ℕ, List, ◌++◌, drop}
use Rattle.row_codec.specs.Numbers.{word_numbers}
use Rattle.row_rename.specs.Paths.{HasNamedMore}
use Rattle.row_rename.specs.Renamed.{IsTextAmong}
use Rattle.row_rename.specs.StepsPut.{HasPut}
use Rattle.row_rename.specs.Tables.{HasNamedSome}
use Rattle.row_rename.proofs.words.rename_words.Given as goal

abbrev pub invariant-loop-kind : goal.invariant-loop-kind
invariant-loop-kind g l = record {
  version : g.N.Namer.version l.namer ≡ g.N.Namer.version l.fn.namer;
  types : g.N.Namer.types l.namer ≡ g.N.Namer.types l.fn.namer;
  named : HasNamedSome (IsTextAmong (g.M.Names.words l.names) (word_numbers l.kinds l.words)) (g.M.Names.words l.names) (g.N.Namer.words l.fn.namer) (g.N.Namer.words l.namer) l.table.numbers.items;
  path : HasNamedMore g.N.Namer.naming l.fn.namer l.namer;
  done : List ℕ;
  used : l.renamed.used.items ≡ l.fn.renamed.used.items ++ done;
  put : HasPut (g.M.Names.words l.names) (g.N.Namer.words l.namer).texts l.kinds (drop l.kind-index l.kinds) l.words l.left l.renamed.words.items done;
}
