use Rattle.std.proofs.Common.{rules}
use Rattle.column_store.specs.Row.{row_of}
use Rattle.subquery_filter.proofs.SlotLemmas.{lacks_numbers}
use Rattle.subquery_filter.proofs.filter.Filter.lacks_words.Goals as goal

pub returns : goal.returns
returns c = λ yes tells.
    lacks_numbers c.args.self.now c.args.test.now (row_of c.args.row) c.args.may.tokens c.with_dictionary-all.result c.with_dictionary-all.ensures.more c.with_dictionary-all.ensures.brings tells.tokens
    (c.has-2.ensures.no (search rules))
