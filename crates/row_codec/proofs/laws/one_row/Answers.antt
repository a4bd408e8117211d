use Rattle.row_codec.proofs.CanonicalLemmas.{one_row, rows_return}
use Rattle.row_codec.proofs.laws.one_row.Goals as goal

pub returns-clause-row : goal.returns-clause-row
returns-clause-row c = one_row c.one_word.ensures c.one_list_of_parts.ensures.one

pub returns-clause-returns : goal.returns-clause-returns
returns-clause-returns c = rows_return
