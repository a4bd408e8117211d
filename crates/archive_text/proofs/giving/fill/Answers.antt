use Rattle.std.proofs.Common.{refl, rules, true, ◌∙◌}
use Rattle.std.proofs.lemmas.Result.{err_from_is_err_and}
use Rattle.archive_text.proofs.WayLemmas.{IsRestart, way_ended, way_gathered}
use Rattle.archive_text.proofs.giving.fill.Goals as goal

pub returns-in_err-gather-clause-damaged : goal.returns-in_err-gather-clause-damaged
returns-in_err-gather-clause-damaged g c = λ is bytes text told on.
    let p = err_from_is_err_and c.from_residual.result c.from_residual.ensures.1 in
    c.in_err-gather.ensures.damaged (search (rules, is, p.1, p.2)) bytes on.messages told on.ahead

pub returns-in_ok-end-clause-on : goal.returns-in_ok-end-clause-on
returns-in_ok-end-clause-on g c = λ bytes text told on.
    let types = g.N.Names.types c.args.names.now in
    let words = g.N.Names.words c.args.names.now in
    let walk = c.args.walk.now in
    let more = c.gather.new.walk in
    let start = c.restart.new.self in
    let restart : IsRestart walk.lines start = record {
      spent = c.is_spent.ensures.yes (search rules);
      nothing = c.restart.ensures.nothing;
      sent = c.restart.ensures.sent;
      given = c.restart.ensures.given;
      begun = c.restart.ensures.begun;
    } in
    let still = c.in_ok-gather.ensures.ended ∙ c.if-walk.false in
    let gathered = way_gathered types words c.args.open_end bytes walk more start text c.if-walk.false still restart c.in_ok-gather.ensures.sent c.in_ok-gather.ensures.given (c.in_ok-gather.ensures.goes bytes told) on in
    way_ended types words c.args.open_end bytes more (record more { lines = c.end.new.self; ended = true }) text still refl (c.in_ok-gather.ensures.past c.if-branch.true) refl
    (c.in_ok-gather.ensures.sent ∙ c.restart.ensures.sent) c.in_ok-end.ensures.sent c.in_ok-end.ensures.given c.in_ok-end.ensures.newline gathered

pub returns-else-branch-clause-on : goal.returns-else-branch-clause-on
returns-else-branch-clause-on g c = λ bytes text told on.
    let types = g.N.Names.types c.args.names.now in
    let words = g.N.Names.words c.args.names.now in
    let walk = c.args.walk.now in
    let start = c.restart.new.self in
    let restart : IsRestart walk.lines start = record {
      spent = c.is_spent.ensures.yes (search rules);
      nothing = c.restart.ensures.nothing;
      sent = c.restart.ensures.sent;
      given = c.restart.ensures.given;
      begun = c.restart.ensures.begun;
    } in
    way_gathered types words c.args.open_end bytes walk c.gather.new.walk start text c.if-walk.false (c.in_ok-gather.ensures.ended ∙ c.if-walk.false) restart c.in_ok-gather.ensures.sent c.in_ok-gather.ensures.given
    (c.in_ok-gather.ensures.goes bytes told) on
