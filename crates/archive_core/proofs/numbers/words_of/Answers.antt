use Rattle.std.proofs.Common.{rules, arith, ap, length}
use Rattle.archive_meaning.proofs.FormLemmas.{rows_numbers_few}
use Rattle.archive_core.proofs.numbers.words_of.Goals as goal

pub returns-clause-few : goal.returns-clause-few
returns-clause-few g c = λ texts known.
    omega (
      arith,
      ap length c.new.ensures,
      c.in_ok-set_of.ensures.few,
      ap length c.as_slice.ensures.value,
      ap length (c.in_ok-push_all.ensures.yes (search rules) texts known),
      rows_numbers_few texts (g.R.Rows.rows c.args.rows.now),
    )
