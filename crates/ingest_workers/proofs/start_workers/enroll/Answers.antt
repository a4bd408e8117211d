use Rattle.std.proofs.Common.{◌∙◌, arith, subst, sym}
use Rattle.turn_lock.specs.Words.{IsFreshOf}
use Rattle.ingest_workers.specs.declared.open_worker.OpenWorker.{OpenWorker}
use Rattle.ingest_workers.proofs.LentLemmas.{enroll_more, lent_more}
use Rattle.ingest_workers.proofs.start_workers.enroll.Goals as goal

pub loop-opener-preserved : goal.loop-opener-preserved
loop-opener-preserved g c = let i = c.loop-opener.invariant in
    let worker : OpenWorker g.row.O.Denot = record { worker = c.new-worker.result; opener = c.in-Some.opener } in
    let more = enroll_more _ _ _ _ _ _ _ c.loop-opener.workers.items worker _ i.4 c.new-worker.ensures.plan c.new-worker.ensures.passes
    (record { still = c.pass-of_types.ensures.still; made = c.pass-of_types.ensures.made; fresh = subst (λ p. IsFreshOf c.loop-opener.types p) (sym c.new-passes.ensures.types) c.pass-of_types.ensures.pass })
    (record { still = c.pass-of_words.ensures.still; made = c.pass-of_words.ensures.made; fresh = subst (λ p. IsFreshOf c.loop-opener.words p) (sym c.new-passes.ensures.words) c.pass-of_words.ensures.pass }) in
    let lent = lent_more c.loop-opener.workers.items c.loop-opener.openers.items c.pop.new.self.items _ worker c.in-Some.ensures.items i.3 in (
      c.push_reserved.ensures.capacity ∙ i.0,
      c.in-Some.ensures.capacity ∙ i.1,
      omega (arith, c.push_reserved.ensures.len, c.in-Some.ensures.len, i.2),
      rw c.push_reserved.ensures.items lent,
      rw c.push_reserved.ensures.items more,
    )
