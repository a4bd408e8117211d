use Rattle.std.proofs.Common.{refl, rules, ◌∙◌}
use Rattle.std.proofs.lemmas.Result.{err_from_is_err_and}
use Rattle.log_seams.proofs.MomentLemmas.{rests_on}
use Rattle.log_seams.proofs.ReadsLemmas.{rests_same}
use Rattle.archive_text.proofs.SentLemmas.{on_err, page_damaged, sent_goes, sent_kept}
use Rattle.archive_text.proofs.decoding.send_pages.Goals as goal

pub loop-walk-init : goal.loop-walk-init
loop-walk-init g c = record {
  rests = rests_same (g.D.Disk.state c.args.disk.now);
  done = c.requires.done;
  sends = λ open_end bytes text start told is. is;
  faults = refl;
  sink = refl;
}

pub loop-walk-preserved : goal.loop-walk-preserved
loop-walk-preserved g c =
    let types = g.N.Names.types c.args.names.now in
    let words = g.N.Names.words c.args.names.now in
    record {
      rests = rests_on _ _ _ c.loop-walk.invariant.rests c.in_ok-advance.ensures.rests;
      done = c.in_ok-send_page.ensures.done;
      sends = λ open_end bytes text start told is.
          c.in_ok-send_page.ensures.sends _ open_end bytes text start told
          (sent_goes types words open_end bytes text start (g.K.Sink.written c.loop-walk.out) c.loop-walk.walk c.advance.new.walk
          (c.in_ok-advance.ensures.goes types words bytes (c.loop-walk.invariant.rests.seen ∙ told)) (c.loop-walk.invariant.sends open_end bytes text start told is));
      faults = c.in_ok-advance.ensures.disk.steady ∙ c.loop-walk.invariant.faults;
      sink = c.in_ok-send_page.ensures.sink.steady ∙ c.loop-walk.invariant.sink;
    }

pub returns-in_err-advance-clause-front : goal.returns-in_err-advance-clause-front
returns-in_err-advance-clause-front g c =
    on_err c.from_residual.result (λ open_end bytes text start told is.
    sent_kept _ _ open_end bytes text start _ c.loop-walk.walk (c.loop-walk.invariant.sends open_end bytes text start told is))

pub returns-in_err-advance-clause-damaged : goal.returns-in_err-advance-clause-damaged
returns-in_err-advance-clause-damaged g c = λ is open_end bytes text start told sent.
    let p = err_from_is_err_and c.from_residual.result c.from_residual.ensures.1 in
    let why = page_damaged c.in_err-advance.field-0.0 p.0 c.from_residual.result p.2 p.1 is in
    let now = c.loop-walk.invariant.sends open_end bytes text start told sent in
    c.in_err-advance.ensures.damaged (search (rules, why)) _ _ bytes now.messages (c.loop-walk.invariant.rests.seen ∙ told) now.ahead

pub returns-in_err-send_page-clause-front : goal.returns-in_err-send_page-clause-front
returns-in_err-send_page-clause-front g c =
    let types = g.N.Names.types c.args.names.now in
    let words = g.N.Names.words c.args.names.now in
    on_err c.from_residual-in_err-send_page.result (λ open_end bytes text start told is.
    c.in_err-send_page.ensures.front _ open_end bytes text start told
    (sent_goes types words open_end bytes text start (g.K.Sink.written c.loop-walk.out) c.loop-walk.walk c.advance.new.walk
    (c.in_ok-advance.ensures.goes types words bytes (c.loop-walk.invariant.rests.seen ∙ told)) (c.loop-walk.invariant.sends open_end bytes text start told is)))

pub returns-in_err-send_page-clause-damaged : goal.returns-in_err-send_page-clause-damaged
returns-in_err-send_page-clause-damaged g c = λ is open_end bytes text start told sent.
    let p = err_from_is_err_and c.from_residual-in_err-send_page.result c.from_residual-in_err-send_page.ensures.1 in
    let types = g.N.Names.types c.args.names.now in
    let words = g.N.Names.words c.args.names.now in
    c.in_err-send_page.ensures.damaged (search (rules, is, p.1, p.2)) _ open_end bytes text start told
    (sent_goes types words open_end bytes text start (g.K.Sink.written c.loop-walk.out) c.loop-walk.walk c.advance.new.walk
    (c.in_ok-advance.ensures.goes types words bytes (c.loop-walk.invariant.rests.seen ∙ told)) (c.loop-walk.invariant.sends open_end bytes text start told sent))

pub returns-clause-sends : goal.returns-clause-sends
returns-clause-sends g c = λ open_end bytes text start told is.
    let types = g.N.Names.types c.args.names.now in
    let words = g.N.Names.words c.args.names.now in
    sent_goes types words open_end bytes text start (g.K.Sink.written c.loop-walk.out) c.loop-walk.walk c.advance.new.walk
    (c.in_ok-advance.ensures.goes types words bytes (c.loop-walk.invariant.rests.seen ∙ told)) (c.loop-walk.invariant.sends open_end bytes text start told is)
