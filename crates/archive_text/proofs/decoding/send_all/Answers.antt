use Rattle.std.proofs.Common.{ap, rules, subst, sym}
use Rattle.std.specs.Prelude.{is_ok}
use Rattle.std.proofs.lemmas.Result.{err_from_is_err_and}
use Rattle.sink_pieces.specs.Output.{Took}
use Rattle.sink_pieces.proofs.OutputLemmas.{Gathers-all, Gathers-front}
use Rattle.archive_text.proofs.SentLemmas.{sent_kept, sent_past}
use Rattle.archive_text.proofs.decoding.send_all.Goals as goal

pub returns-in_err-send_pages-clause-took : goal.returns-in_err-send_pages-clause-took
returns-in_err-send_pages-clause-took g c = λ bytes text start told is.
    let p = err_from_is_err_and c.from_residual.result c.from_residual.ensures.1 in
    subst (λ b. Took b start (g.K.Sink.written c.send_pages.new.out) text) (sym (ap is_ok p.1)) (c.in_err-send_pages.ensures.front c.args.open_end bytes text start told is)

pub returns-in_err-send_pages-clause-damaged : goal.returns-in_err-send_pages-clause-damaged
returns-in_err-send_pages-clause-damaged g c = λ is.
    let p = err_from_is_err_and c.from_residual.result c.from_residual.ensures.1 in
    c.in_err-send_pages.ensures.damaged (search (rules, is, p.1, p.2))

pub returns-in_err-end-clause-took : goal.returns-in_err-end-clause-took
returns-in_err-end-clause-took g c = λ bytes text start told is.
    let p = err_from_is_err_and c.from_residual-in_err-end.result c.from_residual-in_err-end.ensures.1 in
    subst (λ b. Took b start (g.K.Sink.written c.send_pages.new.out) text) (sym (ap is_ok p.1))
    (sent_kept _ _ c.args.open_end bytes text start _ c.send_pages.new.walk (c.in_ok-send_pages.ensures.sends c.args.open_end bytes text start told is))

pub returns-in_err-flush-clause-took : goal.returns-in_err-flush-clause-took
returns-in_err-flush-clause-took g c = λ bytes text start told is.
    let p = err_from_is_err_and c.from_residual-in_err-flush.result c.from_residual-in_err-flush.ensures.1 in
    let sent = c.in_ok-send_pages.ensures.sends c.args.open_end bytes text start told is in
    subst (λ b. Took b start (g.K.Sink.written c.flush.new.out) text) (sym (ap is_ok p.1))
    (Gathers-front start (g.K.Sink.written c.send_pages.new.out) (g.K.Sink.written c.flush.new.out) c.end.new.self.gathered.items text
    (sent_past _ _ c.args.open_end bytes text start _ c.send_pages.new.walk c.end.new.self.gathered.items c.in_ok-send_pages.ensures.past c.in_ok-end.ensures.newline sent) c.in_err-flush.ensures.err)

pub returns-clause-took : goal.returns-clause-took
returns-clause-took g c = λ bytes text start told is.
    let sent = c.in_ok-send_pages.ensures.sends c.args.open_end bytes text start told is in
    Gathers-all start (g.K.Sink.written c.send_pages.new.out) (g.K.Sink.written c.flush.new.out) c.end.new.self.gathered.items text
    (sent_past _ _ c.args.open_end bytes text start _ c.send_pages.new.walk c.end.new.self.gathered.items c.in_ok-send_pages.ensures.past c.in_ok-end.ensures.newline sent) c.in_ok-flush.ensures.ok
