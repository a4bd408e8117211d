use Rattle.std.proofs.Common.{refl, sym, ◌≡◌, Some}
use Rattle.ingest_workers.specs.WorkerLaws.{did_job, did_one, idle_with, passes_is}
use Rattle.ingest_workers.proofs.worker.Worker.work.Goals as goal

pub do_job-passes-requires-clause-may : goal.do_job-passes-requires-clause-may
do_job-passes-requires-clause-may g c = let had : c.args.self.now.passes ≡ Some c.in-Some.passes = cc (c.take.ensures.value, c.in-Some.is) in
    let same = passes_is c.args.self.now c.in-Some.passes had in rw (sym same) c.requires.ready

pub do_job-passes-requires-clause-with : goal.do_job-passes-requires-clause-with
do_job-passes-requires-clause-with g c = let had : c.args.self.now.passes ≡ Some c.in-Some.passes = cc (c.take.ensures.value, c.in-Some.is) in
    let same = passes_is c.args.self.now c.in-Some.passes had in rw (sym same) c.requires.fits.fits

pub returns-clause-ready : goal.returns-clause-ready
returns-clause-ready g c = idle_with _ _ c.do_job-passes.result c.replace.ensures.after c.do_job-passes.ensures.may

pub returns-clause-went : goal.returns-clause-went
returns-clause-went g c = let had : c.args.self.now.passes ≡ Some c.in-Some.passes = cc (c.take.ensures.value, c.in-Some.is) in
    did_one g.S.Source.left c.args.job.now _ c.args.self.now _ c.in-Some.passes c.do_job-passes.result had c.replace.ensures.after refl c.do_job-passes.ensures.names

pub returns-clause-did : goal.returns-clause-did
returns-clause-did g c = let had : c.args.self.now.passes ≡ Some c.in-Some.passes = cc (c.take.ensures.value, c.in-Some.is) in
    did_job g.D.Disk.state g.S.Source.left g.S.Source.name g.S.Source.faults c.args.job.now _ c.args.keeper.now _ c.args.self.now _ c.in-Some.passes c.do_job-passes.result had c.replace.ensures.after c.do_job-passes.ensures.names c.do_job-passes.ensures.done
