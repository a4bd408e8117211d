use Rattle.std.proofs.Common.{◌≡◌, ℕ, List}
use Rattle.row_codec.specs.Means.{AreCanonical}
use Rattle.pair_sieve.specs.Sieve.{Knows}
use Rattle.printed_lines.specs.StepsRows.{PastRows}
use Rattle.printed_lines.proofs.rows.print_rows.Given as goal

abbrev pub invariant-loop-place : goal.invariant-loop-place
invariant-loop-place g l = record {
  past : Knows l.pattern (g.N.Names.types l.names) (g.N.Names.words l.names) l.sieve → (version : ℕ) (messages : List (List ℕ)) → AreCanonical version l.rows.rows (g.N.Names.types l.names) (g.N.Names.words l.names) messages
      → PastRows version (g.N.Names.types l.names) (g.N.Names.words l.names) l.pattern l.name l.number l.rows.rows l.place messages
      (g.K.Sink.written l.fn.out) (g.K.Sink.written l.out) l.gathered.items;
  counts : g.K.Sink.faults l.out ≡ g.K.Sink.faults l.fn.out;
}
