use Rattle.std.proofs.Common.{◌++◌, rules, refl, subst}
use Rattle.sink_pieces.specs.Output.{GrewByFront, Moves}
use Rattle.search_walk.proofs.AnswerLemmas.{on_err}
use Rattle.search_engine.proofs.SlotLemmas.{front_all, on_ok, print_damaged_from, slot_passes, slot_refused, slot_stops}
use Rattle.search_engine.proofs.gathering.gather.Goals as goal

pub returns-in_err-flush-clause-stopped : goal.returns-in_err-flush-clause-stopped
returns-in_err-flush-clause-stopped g c =
    on_err c.from_residual.result _ (λ n q messages worked are. slot_refused c.args.slot.now _ _ _ _ _ _ n q messages c.in_err-flush.ensures.err refl)

pub returns-in-Err-clause-stopped : goal.returns-in-Err-clause-stopped
returns-in-Err-clause-stopped g c = λ n q messages worked are. slot_refused c.args.slot.now _ _ _ _ _ _ n q messages (front_all _ _ _ c.in_ok-flush.ensures.ok) refl

pub returns-in-Err-clause-damaged : goal.returns-in-Err-clause-damaged
returns-in-Err-clause-damaged g c = λ is n q messages worked are. worked.damaged (search (rules, is, print_damaged_from)) messages are

pub returns-in_err-put_text-clause-stopped : goal.returns-in_err-put_text-clause-stopped
returns-in_err-put_text-clause-stopped g c =
    on_err c.from_residual-in_err-put_text.result _
    (λ n q messages worked are.
    slot_stops c.args.slot.now _ _ _ _ _ _ n q messages (on_ok c.args.slot.now.answer tt _ (search rules) worked.done)
    (subst (λ l. GrewByFront (g.K.Sink.written c.args.out.now) (g.K.Sink.written c.put_text.new.out) (c.args.gathered.now.items ++ l)) c.text.ensures c.in_err-put_text.ensures.stopped) refl are)

pub returns-clause-done : goal.returns-clause-done
returns-clause-done g c = λ n q messages worked are.
    slot_passes c.args.slot.now _ _ _ _ _ _ _ _ n q messages (on_ok c.args.slot.now.answer tt _ (search rules) worked.done)
    (subst (λ l. Moves (g.K.Sink.written c.args.out.now) (g.K.Sink.written c.put_text.new.out) (c.args.gathered.now.items ++ l) c.put_text.new.gathered.items) c.text.ensures c.in_ok-put_text.ensures.done)
    (λ fits. search (rules, fits)) (λ fits. search (rules, fits)) (search rules) are
