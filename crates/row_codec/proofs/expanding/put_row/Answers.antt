use Rattle.std.proofs.Common.{◌≡◌, w64, to_z, of_z, rules}
use Rattle.std.proofs.lemmas.Result.{IfOk-weaker}
use Rattle.column_store.specs.Row.{row_of}
use Rattle.row_codec.proofs.BodyLemmas.{spelled, spelling_body, spelling_found, spelling_stamp}
use Rattle.row_codec.proofs.expanding.put_row.Goals as goal

pub returns-then-not-branch-clause-misfit : goal.returns-then-not-branch-clause-misfit
returns-then-not-branch-clause-misfit g c = λ no has.
    let moment : to_z w64 (of_z w64 c.args.row.moment) ≡ c.args.row.moment = search rules in
    let misfit = rw moment at c.in_ok-put_stamp.ensures.misfit in
    misfit (search rules) (spelling_stamp (row_of c.args.row) (g.N.Names.types c.args.names.now) (g.N.Names.words c.args.names.now) has)

pub returns-in-Some-clause-written : goal.returns-in-Some-clause-written
returns-in-Some-clause-written g c =
    let moment : to_z w64 (of_z w64 c.args.row.moment) ≡ c.args.row.moment = search rules in
    let written = rw moment at c.in_ok-put_stamp.ensures.written in
    let stamp = written (search rules) in
    let types = g.N.Names.types c.args.names.now in
    let words = g.N.Names.words c.args.names.now in
    IfOk-weaker c.put_body.result _ _
    (λ fits put yes. let body = put yes in
    spelled (row_of c.args.row) types words c.in-Some.text.now stamp.0 body.0 c.args.out.now.items c.put_stamp.new.out.items c.put_body.new.out.items c.in-Some.ensures stamp.1 body.1 stamp.2 body.2)
    c.put_body.ensures.written

pub returns-in-Some-clause-misfit : goal.returns-in-Some-clause-misfit
returns-in-Some-clause-misfit g c =
    let types = g.N.Names.types c.args.names.now in
    let words = g.N.Names.words c.args.names.now in
    IfOk-weaker c.put_body.result _ _
    (λ fits misfit no has. misfit no (spelling_body (row_of c.args.row) types words c.in-Some.text.now c.in-Some.ensures has))
    c.put_body.ensures.misfit

pub returns-in-None-clause-misfit : goal.returns-in-None-clause-misfit
returns-in-None-clause-misfit g c = λ no has.
    spelling_found (row_of c.args.row) (g.N.Names.types c.args.names.now) (g.N.Names.words c.args.names.now) c.in-None.ensures has
