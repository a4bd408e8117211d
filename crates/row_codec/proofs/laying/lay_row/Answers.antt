use Rattle.column_store.specs.Row.{row_of}
use Rattle.row_codec.specs.StepsLayouts.{spelled}
use Rattle.row_codec.proofs.LayingLemmas.{row_misfit}
use Rattle.row_codec.proofs.laying.lay_row.Goals as goal

pub returns-clause-misfit : goal.returns-clause-misfit
returns-clause-misfit g c =
    let layout = c.in-Some.layout in
    let text = spelled layout.bytes.now layout.pieces.now in
    let at = c.requires c.args.row.log_type text c.in-Some.ensures.some in
    row_misfit c.lay_layout.result (row_of c.args.row) (g.N.Names.types c.args.names.now) (g.N.Names.words c.args.names.now) text at c.lay_layout.ensures.misfit
