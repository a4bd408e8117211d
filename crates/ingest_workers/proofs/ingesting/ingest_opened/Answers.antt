use Rattle.std.proofs.Common.{◌∙◌, ◌∷◌, ◌++◌, [], arith, ap, refl}
use Rattle.ingest_workers.proofs.FollowLemmas.{begins_always}
use Rattle.ingest_workers.proofs.LentLemmas.{known_alone}
use Rattle.ingest_workers.proofs.OrderLemmas.{causes_by_plan, done_by_plan, in_turn_by_plan, lone_gone, may_begin, on_ok}
use Rattle.ingest_workers.proofs.ingesting.ingest_opened.Goals as goal

pub returns-in_default-clause-opener : goal.returns-in_default-clause-opener
returns-in_default-clause-opener g c = (c.requires.idle, (g.met.O.Opens g.world.𝓛 g.world.𝓜 g.world.𝓡 ((λ s x. x), (λ x. x), (λ x. x), λ x. x)).rests c.args.opener)

pub by_crew-done-requires-clause-begin : goal.by_crew-done-requires-clause-begin
by_crew-done-requires-clause-begin g c κs within = may_begin c.order_for-order.result c.args.journal c.args.rows c.args.jobs.now
    (omega (arith, c.order_for-order.ensures.workers), omega (arith, c.order_for-order.ensures.workers))
    c.order_for-order.ensures.plan c.order_for-order.ensures.first c.requires.rows c.requires.journal c.requires.jobs

pub by_crew-done-requires-clause-types : goal.by_crew-done-requires-clause-types
by_crew-done-requires-clause-types g c κs within = record { counted = c.order_for-order.ensures.saved.0; are = c.requires.books.types_are }

pub by_crew-done-requires-clause-words : goal.by_crew-done-requires-clause-words
by_crew-done-requires-clause-words g c κs within = record { counted = c.order_for-order.ensures.saved.1; are = c.requires.books.words_are }

pub by_crew-done-requires-clause-beside : goal.by_crew-done-requires-clause-beside
by_crew-done-requires-clause-beside g c κs within = begins_always _ c.args.journal refl refl refl (λ h es hs. tt)

pub returns-clause-opener : goal.returns-clause-opener
returns-clause-opener g c =
    let l = lone_gone g.O.Opens.idle g.O.Opens.goes _ _ _ c.args.opener c.in-Some.opener (c.push_reserved.ensures.items ∙ ap (λ l. l ++ c.args.opener ∷ []) c.in-Ok.ensures.items) c.by_crew-done.ensures.gone c.in-Some.ensures.items in
    (l.closed, l.gone)

pub returns-clause-known : goal.returns-clause-known
returns-clause-known g c ok =
    let l = lone_gone g.O.Opens.idle g.O.Opens.goes _ _ _ c.args.opener c.in-Some.opener (c.push_reserved.ensures.items ∙ ap (λ l. l ++ c.args.opener ∷ []) c.in-Ok.ensures.items) c.by_crew-done.ensures.gone c.in-Some.ensures.items in
    known_alone g.O.Opens.knows _ c.in-Some.opener c.args.jobs.now c.by_crew-done.new.jobs l.alone l.first (on_ok c.by_crew-done.result c.by_crew-done.ensures.known ok)

pub returns-clause-done : goal.returns-clause-done
returns-clause-done g c = done_by_plan g.O.Opens.left g.O.Opens.name g.O.Opens.faults c.order_for-order.result _ c.order_for-order.ensures.plan c.args.journal c.args.jobs.now c.by_crew-done.new.jobs c.by_crew-done.result c.by_crew-done.ensures.done

pub returns-clause-causes : goal.returns-clause-causes
returns-clause-causes g c = causes_by_plan g.O.Opens.left g.O.Opens.name g.O.Opens.faults c.order_for-order.result _ c.order_for-order.ensures.plan c.args.journal c.args.jobs.now c.by_crew-done.new.jobs c.by_crew-done.result c.by_crew-done.ensures.done

pub returns-clause-in_turn : goal.returns-clause-in_turn
returns-clause-in_turn g c ok = in_turn_by_plan g.O.Opens.left g.O.Opens.name g.O.Opens.faults c.order_for-order.result _ c.order_for-order.ensures.plan c.args.journal c.args.jobs.now c.by_crew-done.new.jobs c.by_crew-done.result c.by_crew-done.ensures.done
    c.order_for-order.ensures.workers ok
