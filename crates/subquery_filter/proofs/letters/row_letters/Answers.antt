use Rattle.std.proofs.Common.{rules}
use Rattle.std.specs.Int.{w64}
use Rattle.std.proofs.lemmas.Int.{to_z-of_z}
use Rattle.column_store.specs.Row.{row_of}
use Rattle.subquery_filter.proofs.LetterLemmas.{spelling_left}
use Rattle.subquery_filter.proofs.letters.row_letters.Goals as goal

pub returns : goal.returns
returns g c =
    spelling_left (row_of c.args.row) (g.N.Names.types c.args.names.now) (g.N.Names.words c.args.names.now) c.in-Some.text.now c.put_stamp-end.new.out c.put_stamp-end.result
    c.requires c.in-Some.ensures (rw (to_z-of_z w64 c.args.row.moment (search rules)) at c.put_stamp-end.ensures.text)
