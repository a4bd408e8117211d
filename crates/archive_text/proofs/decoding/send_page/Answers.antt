use Rattle.std.proofs.Common.{refl, rules, ◌∙◌}
use Rattle.std.proofs.lemmas.Result.{err_from_is_err_and}
use Rattle.archive_text.proofs.SentLemmas.{on_err, page_damaged, sent_failed, sent_goes, sent_kept, sent_moves}
use Rattle.archive_text.proofs.decoding.send_page.Goals as goal

pub loop-walk-preserved : goal.loop-walk-preserved
loop-walk-preserved g c =
    let types = g.N.Names.types c.args.names.now in
    let words = g.N.Names.words c.args.names.now in
    let old = c.loop-walk.walk in
    let mid = c.write_rows.new.walk in
    let now = g.K.Sink.written c.loop-walk.out in
    record {
      sends = λ seen open_end bytes text start told is.
          sent_moves types words open_end bytes text start now (g.K.Sink.written c.flush_piece.new.out) mid (record mid { lines = record mid.lines { gathered = c.flush_piece.new.gathered } }) refl refl c.in_ok-flush_piece.ensures.ok
          (sent_goes types words open_end bytes text start now old mid (c.in_ok-write_rows.ensures.goes bytes) (c.loop-walk.invariant.sends seen open_end bytes text start told is));
      same = c.in_ok-write_rows.ensures.work ∙ c.loop-walk.invariant.same;
      sink = c.in_ok-flush_piece.ensures.cause.steady ∙ c.loop-walk.invariant.sink;
    }

pub returns-in_err-write_rows-clause-front : goal.returns-in_err-write_rows-clause-front
returns-in_err-write_rows-clause-front g c =
    on_err c.from_residual.result (λ seen open_end bytes text start told is.
    sent_kept _ _ open_end bytes text start _ c.loop-walk.walk (c.loop-walk.invariant.sends seen open_end bytes text start told is))

pub returns-in_err-write_rows-clause-damaged : goal.returns-in_err-write_rows-clause-damaged
returns-in_err-write_rows-clause-damaged g c = λ is seen open_end bytes text start told sent.
    let p = err_from_is_err_and c.from_residual.result c.from_residual.ensures.1 in
    let why = page_damaged c.in_err-write_rows.field-0.0 p.0 c.from_residual.result p.2 p.1 is in
    let now = c.loop-walk.invariant.sends seen open_end bytes text start told sent in
    c.in_err-write_rows.ensures.damaged (search (rules, why)) bytes now.messages now.ahead

pub returns-in_err-flush_piece-clause-front : goal.returns-in_err-flush_piece-clause-front
returns-in_err-flush_piece-clause-front g c =
    let types = g.N.Names.types c.args.names.now in
    let words = g.N.Names.words c.args.names.now in
    let now = g.K.Sink.written c.loop-walk.out in
    on_err c.from_residual-in_err-flush_piece.result (λ seen open_end bytes text start told is.
    sent_failed types words open_end bytes text start now (g.K.Sink.written c.flush_piece.new.out) c.write_rows.new.walk c.in_err-flush_piece.ensures.err
    (sent_goes types words open_end bytes text start now c.loop-walk.walk c.write_rows.new.walk (c.in_ok-write_rows.ensures.goes bytes) (c.loop-walk.invariant.sends seen open_end bytes text start told is)))
