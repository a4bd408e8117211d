use Rattle.std.proofs.Common.{List, ℕ, ◌++◌, ◌∙◌, ap}
use Rattle.column_store.specs.Row.{row_of}
use Rattle.row_codec.proofs.MeansLemmas.{meaning_is_spelling, one_spelling}
use Rattle.row_codec.proofs.expanding.expand.Goals as goal

pub returns-clause-means : goal.returns-clause-means
returns-clause-means g c = λ message means.
    let types = g.N.Names.types c.args.names.now in
    let words = g.N.Names.words c.args.names.now in
    let written = c.in_ok-expand_onto.ensures.written in
    c.new.ensures ∙ written.2 ∙ ap (λ (l : List ℕ). l ++ written.0) c.new-text.ensures.items
    ∙ one_spelling (row_of c.args.row) types words written.0 message written.1 (meaning_is_spelling (row_of c.args.row) types words message means)
