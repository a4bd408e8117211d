use Rattle.std.proofs.Common.{arith, length, drop, refl, rules, subst}
use Rattle.std.proofs.lemmas.Result.{err_from_is_err_and}
use Rattle.archive_text.specs.Way.{Gives}
use Rattle.archive_text.proofs.WayLemmas.{IsGiven, way_given, way_gives}
use Rattle.archive_text.proofs.giving.give_next.Goals as goal

pub returns-in_err-fill-clause-damaged : goal.returns-in_err-fill-clause-damaged
returns-in_err-fill-clause-damaged g c = λ is.
    let p = err_from_is_err_and c.from_residual.result c.from_residual.ensures.1 in
    c.in_err-fill.ensures.damaged (search (rules, is, p.1, p.2))

pub returns-clause-on : goal.returns-clause-on
returns-clause-on g c = λ bytes text told on.
    let types = g.N.Names.types c.args.names.now in
    let words = g.N.Names.words c.args.names.now in
    let walk = c.fill.new.walk in
    let lines = c.give.new.self in
    let gave : IsGiven c.in_ok-count.count walk.lines lines = record {
      gathered = c.in_ok-count.ensures.gathered;
      sent = c.in_ok-count.ensures.sent;
      given = c.in_ok-count.ensures.given;
      begun = c.in_ok-count.ensures.begun;
    } in
    way_given types words c.args.open_end bytes c.in_ok-count.count walk (record walk { lines = lines }) text (omega (arith, c.in_ok-count.ensures.most)) gave refl refl (c.in_ok-fill.ensures.on bytes text told on)

pub returns-clause-these : goal.returns-clause-these
returns-clause-these g c = λ bytes text told on.
    let types = g.N.Names.types c.args.names.now in
    let words = g.N.Names.words c.args.names.now in
    let walk = c.fill.new.walk in
    subst (λ k. Gives c.in_ok-count.count c.give.new.buf (drop k text)) c.in_ok-fill.ensures.given
    (way_gives types words c.args.open_end bytes c.in_ok-count.count (length c.args.buf.now) walk text c.give.new.buf c.in_ok-count.ensures.most c.requires.room c.in_ok-fill.ensures.ready c.in_ok-count.ensures.these (c.in_ok-fill.ensures.on bytes text told on))
