use Rattle.std.proofs.Common.{◌∙◌, ◌++◌, ◌∷◌, ap, rules, refl, sym, subst, []}
use Rattle.search_walk.specs.Held.{Named}
use Rattle.search_engine.specs.Waiting.{Halts, Pending, Reaches, WaitFor, state}
use Rattle.search_engine.proofs.ServedLemmas.{served_none, served_push}
use Rattle.search_walk.proofs.AnswerLemmas.{on_err}
use Rattle.search_engine.proofs.PageLemmas.{page_past, past_damaged, past_run, past_stops, run_halts, unread_halts, unread_sent}
use Rattle.search_walk.proofs.PageLemmas.{left_nothing}
use Rattle.search_engine.proofs.page_taking.read_next.Goals as goal

pub returns-in-Err-DiskFault-clause-stopped : goal.returns-in-Err-DiskFault-clause-stopped
returns-in-Err-DiskFault-clause-stopped g c = unread_halts _ c.args.pages.now _ c.args.context.now.query c.args.label.name.now c.args.label.number (state _ c.args.batch.now _) _ _ refl refl

pub returns-in_err-finish-in-Err-clause-stopped : goal.returns-in_err-finish-in-Err-clause-stopped
returns-in_err-finish-in-Err-clause-stopped g c =
    let n : Named = c.args.context.now.names in
    on_err c.from_residual.result _
    (run_halts _ c.args.pages.now n c.args.context.now.query c.args.label.name.now c.args.label.number (state (g.K.Sink.written c.args.out.now) c.args.batch.now c.args.expanded.now) (g.K.Sink.written c.finish.new.out) c.finish.new.expanded
    (subst (λ (e : Pending). Halts n c.args.context.now.query [] (state (g.K.Sink.written c.args.out.now) e c.args.expanded.now) (g.K.Sink.written c.finish.new.out) c.finish.new.expanded) c.read.ensures.kept
    c.in_err-finish-in-Err.ensures.stopped))

pub returns-in_err-finish-in-Err-clause-damaged : goal.returns-in_err-finish-in-Err-clause-damaged
returns-in_err-finish-in-Err-clause-damaged g c = λ is early waits.
    let n : Named = c.args.context.now.names in
    left_nothing _ c.args.pages.now n (c.in_err-finish-in-Err.ensures.damaged (search rules) early (subst (λ (e : Pending). WaitFor n e.pages early) (sym c.read.ensures.kept) waits))

pub returns-in-Err-clause-stopped : goal.returns-in-Err-clause-stopped
returns-in-Err-clause-stopped g c =
    let n : Named = c.args.context.now.names in
    let b = state (g.K.Sink.written c.finish.new.out) c.finish.new.self c.finish.new.expanded in
    unread_sent _ c.args.pages.now n c.args.context.now.query c.args.label.name.now c.args.label.number (state (g.K.Sink.written c.args.out.now) c.args.batch.now c.args.expanded.now) b (g.K.Sink.written c.finish.new.out) c.finish.new.expanded
    (subst (λ (e : Pending). Reaches n c.args.context.now.query [] (state (g.K.Sink.written c.args.out.now) e c.args.expanded.now) b) c.read.ensures.kept c.in_ok-finish-in-Err.ensures.done) refl refl

pub returns-in-Err-clause-damaged : goal.returns-in-Err-clause-damaged
returns-in-Err-clause-damaged g c = λ is early waits. c.read.ensures.damaged (search rules)

pub returns-in_err-push-clause-stopped : goal.returns-in_err-push-clause-stopped
returns-in_err-push-clause-stopped g c = on_err c.from_residual-in_err-push.result _ (unread_halts _ c.args.pages.now _ c.args.context.now.query c.args.label.name.now c.args.label.number (state _ c.args.batch.now _) _ _ refl refl)

pub returns-clause-gone : goal.returns-clause-gone
returns-clause-gone g c = (c.in-Ok.slot.page.rows, c.in-Ok.ensures.page.after, c.in-Ok.ensures.page.count, c.rows-rows.ensures)

pub returns-in_err-run-clause-stopped : goal.returns-in_err-run-clause-stopped
returns-in_err-run-clause-stopped g c =
    on_err c.from_residual-in_err-run.result _
    (past_stops _ _ c.args.pages.now c.read.new.pages _ c.args.context.now.query c.args.label.name.now c.args.label.number _ c.rows-rows.result (state (g.K.Sink.written c.args.out.now) c.args.batch.now c.args.expanded.now)
    (state (g.K.Sink.written c.args.out.now) c.push.new.self c.args.expanded.now) _ _ refl refl
    (page_past _ c.args.pages.now c.read.new.pages _ c.args.context.now.query c.args.label.name.now c.args.label.number _ c.in-Ok.slot.page.rows c.in-Ok.slot.page.verdicts _ c.args.batch.now c.read.new.self c.push.new.self _ c.in-Ok.slot.page
    c.in-Ok.ensures.page.next c.rows-rows.ensures c.read.ensures.kept c.in-Ok.ensures.page.is c.in_ok-push.ensures.done)
    (run_halts _ c.read.new.pages _ c.args.context.now.query c.args.label.name.now _ (state (g.K.Sink.written c.args.out.now) c.push.new.self c.args.expanded.now) _ _ c.in_err-run.ensures.stopped))

pub returns-in_err-run-clause-damaged : goal.returns-in_err-run-clause-damaged
returns-in_err-run-clause-damaged g c = λ is.
    past_damaged _ _ c.args.pages.now c.read.new.pages _ c.args.context.now.query c.args.label.name.now c.args.label.number c.rows-rows.result (state (g.K.Sink.written c.args.out.now) c.args.batch.now c.args.expanded.now)
    (state (g.K.Sink.written c.args.out.now) c.push.new.self c.args.expanded.now) refl
    (page_past _ c.args.pages.now c.read.new.pages _ c.args.context.now.query c.args.label.name.now c.args.label.number _ c.in-Ok.slot.page.rows c.in-Ok.slot.page.verdicts _ c.args.batch.now c.read.new.self c.push.new.self _ c.in-Ok.slot.page
    c.in-Ok.ensures.page.next c.rows-rows.ensures c.read.ensures.kept c.in-Ok.ensures.page.is c.in_ok-push.ensures.done)
    (λ early waits. left_nothing _ c.read.new.pages _ (c.in_err-run.ensures.damaged (search rules) early waits))

pub returns-clause-done : goal.returns-clause-done
returns-clause-done g c =
    past_run _ c.args.pages.now c.read.new.pages _ c.args.context.now.query c.args.label.name.now c.args.label.number _ (state (g.K.Sink.written c.args.out.now) c.args.batch.now c.args.expanded.now)
    (state (g.K.Sink.written c.args.out.now) c.push.new.self c.args.expanded.now) _
    (page_past _ c.args.pages.now c.read.new.pages _ c.args.context.now.query c.args.label.name.now c.args.label.number _ c.in-Ok.slot.page.rows c.in-Ok.slot.page.verdicts _ c.args.batch.now c.read.new.self c.push.new.self _ c.in-Ok.slot.page
    c.in-Ok.ensures.page.next c.rows-rows.ensures c.read.ensures.kept c.in-Ok.ensures.page.is c.in_ok-push.ensures.done)
    c.in_ok-run.ensures.done

pub run-requires : goal.run-requires
run-requires g c =
    record {
      served = served_push c.args.context.now.names c.args.context.now.query c.read.new.held c.args.batch.now.pages c.push.new.self.pages c.in-Ok.slot.page
          (ap (λ (e : Pending). e.pages) c.in_ok-push.ensures.done ∙ ap (λ (e : Pending). e.pages ++ c.in-Ok.slot.page ∷ []) c.read.ensures.kept) c.read.ensures.served c.in-Ok.ensures.page.ready;
    }

pub returns-clause-served : goal.returns-clause-served
returns-clause-served g c = served_none c.args.context.now.names c.args.context.now.query c.read.new.held c.run.new.self.pages c.read.ensures.served.serves c.in_ok-run.ensures.empty
