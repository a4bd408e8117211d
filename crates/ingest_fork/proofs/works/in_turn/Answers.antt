use Rattle.std.proofs.Common.{refl, arith, ◌∙◌, sym}
use Rattle.std.proofs.lemmas.Option.{slice_get-get_or}
use Rattle.ingest_fork.proofs.WorkLemmas.{next_job, in_turn_init, in_turn_step, in_turn_went, in_turn_end}
use Rattle.ingest_fork.proofs.works.in_turn.Goals as goal

pub work-requires-clause-fits : goal.work-requires-clause-fits
work-requires-clause-fits g c = let t = c.loop-i.invariant.1 in let jobs_same = t.jobs in let keepers_same = t.keepers in
    let job = slice_get-get_or c.loop-i.jobs c.loop-i.i c.index-jobs-i.result (omega arith) in
    let keeper = slice_get-get_or c.loop-i.keepers c.loop-i.i c.index-keepers-i.result (omega arith) in
    g.met.W.Works.fits_on t.past t.past' c.args.worker.now c.loop-i.worker _ _ t.went_on
    (c.requires.fits 0 c.loop-i.i c.args.worker.now _ _ refl (next_job g.W.Works.went g.W.Works.did _ _ _ _ _ _ _ _ t job).3 (sym (t.rest_keepers c.loop-i.i (omega arith)) ∙ keeper))

pub loop-i-init : goal.loop-i-init
loop-i-init g c = (c.requires.ready, in_turn_init g.W.Works.went g.W.Works.did _ _ _ (g.met.W.Works.rests _ _ _ c.requires.ready))

pub loop-i-preserved : goal.loop-i-preserved
loop-i-preserved g c = let t = c.loop-i.invariant.1 in let jobs_same = t.jobs in let keepers_same = t.keepers in
    let job = slice_get-get_or c.loop-i.jobs c.loop-i.i c.index-jobs-i.result (omega arith) in
    let keeper = slice_get-get_or c.loop-i.keepers c.loop-i.i c.index-keepers-i.result (omega arith) in
    (c.work.ensures.ready, in_turn_step g.W.Works.went g.W.Works.did g.W.Works.ready g.met.W.Works.rests g.met.W.Works.goes_on g.met.W.Works.wider _ _ _ _ _ _ _ _ _ _ _ _ t job keeper (omega arith) c.work.ensures.ready c.work.ensures.went c.work.ensures.did)

pub returns-clause-went : goal.returns-clause-went
returns-clause-went g c = in_turn_went g.W.Works.went g.W.Works.did _ _ _ _ _ _ _ c.loop-i.invariant.1 (omega arith)

pub returns-clause-did : goal.returns-clause-did
returns-clause-did g c = in_turn_end g.W.Works.went g.W.Works.did _ _ _ _ _ _ _ c.loop-i.invariant.1 (omega arith)
