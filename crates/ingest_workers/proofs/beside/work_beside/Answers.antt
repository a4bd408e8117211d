use Rattle.std.proofs.Common.{subst, sym}
use Rattle.disk_seal.specs.Beside.{HasFollowed}
use Rattle.ingest_workers.proofs.LentLemmas.{fit_each, openers_know, openers_went, workers_done, workers_went}
use Rattle.ingest_workers.proofs.beside.work_beside.Goals as goal

pub by_workers_beside-requires-clause-fits : goal.by_workers_beside-requires-clause-fits
by_workers_beside-requires-clause-fits g c κs within = fit_each g.D.Disk.state c.args.workers.now.items _ _ c.requires.fits

pub returns-clause-went : goal.returns-clause-went
returns-clause-went g c = workers_went g.D.Disk.state g.O.Opens.left g.O.Opens.name g.O.Opens.faults g.O.Opens.idle g.O.Opens.goes c.args.workers.now.items c.by_workers_beside.new.workers.items _ _ c.by_workers_beside.ensures.went

pub returns-clause-did : goal.returns-clause-did
returns-clause-did g c = workers_done g.D.Disk.state g.O.Opens.left g.O.Opens.name g.O.Opens.faults g.O.Opens.idle g.O.Opens.goes c.args.workers.now.items c.by_workers_beside.new.workers.items _ _ g.O.Opens.knows _ _ c.by_workers_beside.ensures.did

pub returns-clause-served : goal.returns-clause-served
returns-clause-served g c = record {
  gone = openers_went g.D.Disk.state g.O.Opens.left g.O.Opens.name g.O.Opens.faults g.O.Opens.idle g.O.Opens.goes c.args.workers.now.items c.by_workers_beside.new.workers.items _ _ c.by_workers_beside.ensures.went;
  known = openers_know g.D.Disk.state g.O.Opens.left g.O.Opens.name g.O.Opens.faults g.O.Opens.idle g.O.Opens.goes c.args.workers.now.items c.by_workers_beside.new.workers.items _ _ g.O.Opens.knows _ _
      (g.met.O.Opens g.world.𝓛 g.world.𝓜 g.world.𝓡 ((λ s x. x), (λ x. x), (λ x. x), λ x. x)).knows_on (sym c.requires.same) c.by_workers_beside.ensures.did;
}

pub returns-clause-followed : goal.returns-clause-followed
returns-clause-followed g c =
    let same = c.beside-1.given.1 (sym c.by_workers_beside.ensures.followed.0) in
    subst (λ b. HasFollowed g.D.Disk.state (g.B.Beside.known c.args.beside.now) (g.B.Beside.known b) c.args.reader.now c.by_workers_beside.new.pass) (sym same) c.by_workers_beside.ensures.followed.1
