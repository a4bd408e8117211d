use Rattle.row_codec.specs.declared.namer.Which.TheVariants.{Types}
use Rattle.row_tests.proofs.BooksLemmas.{one_full}
use Rattle.row_tests.proofs.books.BooksNamer.name_type.Goals as goal

pub returns-clause-full : goal.returns-clause-full
returns-clause-full c = λ book count is.
    one_full c.name_in.result Types book c.args.self.now.types c.name_in.new.book c.args.text.now count is c.name_in.ensures.err c.name_in.ensures.full
