use Rattle.std.proofs.Common.{ap, rules, ◌∙◌}
use Rattle.std.proofs.lemmas.Result.{err_from_is_err_and}
use Rattle.log_seams.proofs.MomentLemmas.{rests_on}
use Rattle.archive_text.specs.declared.lines.Lines.{Lines}
use Rattle.archive_text.specs.Ahead.{ahead}
use Rattle.archive_text.proofs.WritingLemmas.{goes_then, not_then}
use Rattle.archive_text.proofs.walk.gather.Goals as goal

pub returns-in_err-write_rows-clause-damaged : goal.returns-in_err-write_rows-clause-damaged
returns-in_err-write_rows-clause-damaged g c = λ is bytes messages told here.
    let p = err_from_is_err_and c.from_residual.result c.from_residual.ensures.1 in
    c.in_err-write_rows.ensures.damaged (search (rules, is, p.1, p.2)) bytes messages here

pub returns-in_err-advance-clause-damaged : goal.returns-in_err-advance-clause-damaged
returns-in_err-advance-clause-damaged g c = λ is bytes messages told here.
    let p = err_from_is_err_and c.from_residual-in_err-advance.result c.from_residual-in_err-advance.ensures.1 in
    let types = g.N.Names.types c.args.names.now in
    let words = g.N.Names.words c.args.names.now in
    let now = c.loop-disk.walk in
    not_then types words bytes (ahead c.args.walk.now) (ahead now) c.args.walk.now.lines now.lines (c.loop-disk.invariant.goes bytes told)
    (λ others there. c.in_err-advance.ensures.damaged (search (rules, is, p.1, p.2)) types words bytes others (c.loop-disk.invariant.rests.seen ∙ told) there) messages here

pub returns-then-not-branch-clause-goes : goal.returns-then-not-branch-clause-goes
returns-then-not-branch-clause-goes g c = λ bytes told.
    let types = g.N.Names.types c.args.names.now in
    let words = g.N.Names.words c.args.names.now in
    let now = c.loop-disk.walk in
    let more = c.advance.new.walk in
    goes_then types words bytes (ahead c.args.walk.now) (ahead now) (ahead more) c.args.walk.now.lines now.lines more.lines (c.loop-disk.invariant.goes bytes told)
    (c.in_ok-advance.ensures.goes types words bytes (c.loop-disk.invariant.rests.seen ∙ told))

pub loop-disk-preserved : goal.loop-disk-preserved
loop-disk-preserved g c =
    let types = g.N.Names.types c.args.names.now in
    let words = g.N.Names.words c.args.names.now in
    let now = c.loop-disk.walk in
    let more = c.advance.new.walk in
    let new = c.write_rows-in-loop-disk.new.walk in
    record {
      rests = rests_on _ _ _ c.loop-disk.invariant.rests c.in_ok-advance.ensures.rests;
      faults = c.in_ok-advance.ensures.disk.steady ∙ c.loop-disk.invariant.faults;
      goes = λ bytes told.
          goes_then types words bytes (ahead c.args.walk.now) (ahead more) (ahead new) c.args.walk.now.lines more.lines new.lines
          (goes_then types words bytes (ahead c.args.walk.now) (ahead now) (ahead more) c.args.walk.now.lines now.lines more.lines (c.loop-disk.invariant.goes bytes told)
          (c.in_ok-advance.ensures.goes types words bytes (c.loop-disk.invariant.rests.seen ∙ told)))
          (c.in_ok-write_rows-2.ensures.goes bytes);
      enough = c.in_ok-write_rows-2.ensures.enough;
      sent = c.in_ok-write_rows-2.ensures.sent ∙ (ap (λ (l : Lines). l.sent) c.in_ok-advance.ensures.lines ∙ c.loop-disk.invariant.sent);
      given = c.in_ok-write_rows-2.ensures.given ∙ (ap (λ (l : Lines). l.given) c.in_ok-advance.ensures.lines ∙ c.loop-disk.invariant.given);
      ended = c.in_ok-write_rows-2.ensures.ended ∙ (c.in_ok-advance.ensures.ended ∙ c.loop-disk.invariant.ended);
    }

pub returns-in_err-write_rows-2-clause-damaged : goal.returns-in_err-write_rows-2-clause-damaged
returns-in_err-write_rows-2-clause-damaged g c = λ is bytes messages told here.
    let p = err_from_is_err_and c.from_residual-in_err-write_rows-2.result c.from_residual-in_err-write_rows-2.ensures.1 in
    let types = g.N.Names.types c.args.names.now in
    let words = g.N.Names.words c.args.names.now in
    let now = c.loop-disk.walk in
    let more = c.advance.new.walk in
    not_then types words bytes (ahead c.args.walk.now) (ahead more) c.args.walk.now.lines more.lines
    (goes_then types words bytes (ahead c.args.walk.now) (ahead now) (ahead more) c.args.walk.now.lines now.lines more.lines (c.loop-disk.invariant.goes bytes told)
    (c.in_ok-advance.ensures.goes types words bytes (c.loop-disk.invariant.rests.seen ∙ told)))
    (λ others there. c.in_err-write_rows-2.ensures.damaged (search (rules, is, p.1, p.2)) bytes others there) messages here
