use Rattle.std.proofs.Common.{◌≡◌, w64, to_z, of_z, rules}
use Rattle.std.proofs.lemmas.Result.{IfOk-weaker}
use Rattle.column_store.specs.Row.{row_of}
use Rattle.row_codec.proofs.BodyLemmas.{spelled as whole, spelling_text}
use Rattle.row_codec.proofs.writer.put_laid_row.Goals as goal

pub returns-clause-written : goal.returns-clause-written
returns-clause-written g c =
    let moment : to_z w64 (of_z w64 c.args.row.moment) ≡ c.args.row.moment = search rules in
    let written = rw moment at c.in_ok-put_stamp.ensures.written in
    let stamp = written (search rules) in
    let types = g.N.Names.types c.args.names.now in
    let words = g.N.Names.words c.args.names.now in
    IfOk-weaker c.put_laid.result _ _
    (λ fits put yes. let laid = put yes in
    whole (row_of c.args.row) types words laid.0 stamp.0 laid.1 c.args.out.now.items c.put_stamp.new.out.items c.put_laid.new.out.items laid.2 stamp.1 laid.3 stamp.2 laid.4)
    c.put_laid.ensures.written

pub returns-clause-misfit : goal.returns-clause-misfit
returns-clause-misfit g c =
    IfOk-weaker c.put_laid.result _ _
    (λ fits misfit no has. let here = spelling_text (row_of c.args.row) (g.N.Names.types c.args.names.now) (g.N.Names.words c.args.names.now) has in
    misfit no here.0 here.1 here.2)
    c.put_laid.ensures.misfit
