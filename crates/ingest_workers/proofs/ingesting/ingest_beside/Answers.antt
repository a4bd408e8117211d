use Rattle.std.proofs.Common.{◌∙◌, arith, sym}
use Rattle.ingest_workers.proofs.OrderLemmas.{causes_by_plan, done_by_plan, in_turn_by_plan, may_begin}
use Rattle.ingest_workers.proofs.ingesting.ingest_beside.Goals as goal

pub by_crew-requires-clause-begin : goal.by_crew-requires-clause-begin
by_crew-requires-clause-begin g c κs within = may_begin c.order_for-order.result c.args.journal c.args.split.rows c.args.jobs.now
    (omega (arith, c.requires.split.workers.0, c.order_for-order.ensures.workers, c.min.ensures, c.max-count.ensures), omega (arith, c.requires.split.workers.0, c.requires.split.workers.1, c.order_for-order.ensures.workers, c.min.ensures, c.max-count.ensures))
    c.order_for-order.ensures.plan c.order_for-order.ensures.first c.requires.split.rows c.requires.journal c.requires.jobs

pub by_crew-requires-clause-openers : goal.by_crew-requires-clause-openers
by_crew-requires-clause-openers g c κs within = record { counted = c.in-Ok.ensures ∙ sym c.order_for-order.ensures.workers; closed = λ n w at. tt }

pub by_crew-requires-clause-types : goal.by_crew-requires-clause-types
by_crew-requires-clause-types g c κs within = record { counted = c.order_for-order.ensures.saved.0; are = c.requires.books.types_are }

pub by_crew-requires-clause-words : goal.by_crew-requires-clause-words
by_crew-requires-clause-words g c κs within = record { counted = c.order_for-order.ensures.saved.1; are = c.requires.books.words_are }

pub returns-clause-done : goal.returns-clause-done
returns-clause-done g c = done_by_plan g.S.Source.left g.S.Source.name g.S.Source.faults c.order_for-order.result _ c.order_for-order.ensures.plan c.args.journal c.args.jobs.now c.by_crew.new.jobs c.by_crew.result c.by_crew.ensures.done

pub returns-clause-causes : goal.returns-clause-causes
returns-clause-causes g c = causes_by_plan g.S.Source.left g.S.Source.name g.S.Source.faults c.order_for-order.result _ c.order_for-order.ensures.plan c.args.journal c.args.jobs.now c.by_crew.new.jobs c.by_crew.result c.by_crew.ensures.done

pub returns-clause-in_turn : goal.returns-clause-in_turn
returns-clause-in_turn g c one ok = in_turn_by_plan g.S.Source.left g.S.Source.name g.S.Source.faults c.order_for-order.result _ c.order_for-order.ensures.plan c.args.journal c.args.jobs.now c.by_crew.new.jobs c.by_crew.result c.by_crew.ensures.done
    (omega (arith, one, c.order_for-order.ensures.workers, c.min.ensures, c.max-count.ensures)) ok
