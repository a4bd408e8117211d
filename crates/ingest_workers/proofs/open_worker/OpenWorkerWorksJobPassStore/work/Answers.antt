use Rattle.std.proofs.Common.{◌≡◌, refl, rules, sym, subst, ◌∙◌, false}
use Rattle.ingest_workers.proofs.OpenLemmas.{IsOpened, did_only, did_same, name_same, undone}
use Rattle.ingest_workers.proofs.open_worker.OpenWorkerWorksJobPassStore.work.Goals as goal

pub returns-then-not-job-clause-did : goal.returns-then-not-job-clause-did
returns-then-not-job-clause-did g c =
    let closed : c.args.job.now.is_open ≡ false = search rules in
    record {
      job = undone g.D.Disk.state g.O.Opens.left g.O.Opens.name g.O.Opens.faults c.args.self.now.worker c.args.job.now c.args.keeper.now c.requires.ready.0 c.requires.fits closed;
      known = λ opened t has. absurd (cc (opened, closed));
    }

pub returns-clause-went : goal.returns-clause-went
returns-clause-went g c =
    let job = c.args.job.now in
    let asked = c.in-Some.asked in
    let source = c.open-source.result in
    let after = c.into_parts-source.result.0 in
    let state = g.D.Disk.state in
    let named = name_same state g.O.Opens.left g.O.Opens.name g.O.Opens.faults g.O.Src.Source.left g.O.Src.Source.name g.O.Src.Source.faults c.with_source-opened.result c.work.new.job source after
    c.work.ensures.did.done.source c.with_source-opened.ensures.source c.into_parts-source.ensures.source in
    let lends = subst (λ n. g.O.Opens.lends c.open-source.new.self asked n) (sym named) c.open-source.ensures.lends in
    let is : IsOpened g.O.Opens.left g.O.Opens.name g.O.Opens.faults g.O.Src.Source.left g.O.Src.Source.faults job (record job { source = c.replace-left.new.self; outcome = c.into_parts-source.result.1; full = c.job-1.given.0 }) c.with_source-opened.result c.work.new.job = record {
      before = asked;
      after = c.close-asked.result;
      source = source;
      source' = after;
      had = sym c.take.ensures.value ∙ c.in-Some.is;
      has = c.replace-left.ensures.after;
      opened = c.with_source-opened.ensures.source;
      closed = c.into_parts-source.ensures.source;
      left_is = c.open-source.ensures.left;
      left_then = c.close-asked.ensures.left;
      faults_is = c.open-source.ensures.faults;
      faults_then = c.close-asked.ensures.faults;
      named = c.close-asked.ensures.name asked lends;
      file = c.with_source-opened.ensures.file;
      file' = refl;
      part = c.with_source-opened.ensures.part;
      open_is = search rules;
      opened_is = c.with_source-opened.ensures.opened;
      outcome = c.into_parts-source.ensures.outcome;
    } in
    record {
      worker = did_only state g.O.Opens.left g.O.Opens.name g.O.Opens.faults g.O.Src.Source.left g.O.Src.Source.name g.O.Src.Source.faults c.args.self.now.worker c.work.new.self job _ c.with_source-opened.result c.work.new.job c.args.keeper.now c.work.new.keeper
          c.work.ensures.went.plan is c.work.ensures.did;
      opener = g.met.O.Opens.goes_on _ _ _ c.open-source.ensures.goes c.close-asked.ensures.goes;
    }

pub returns-clause-did : goal.returns-clause-did
returns-clause-did g c =
    let job = c.args.job.now in
    let asked = c.in-Some.asked in
    let source = c.open-source.result in
    let after = c.into_parts-source.result.0 in
    let state = g.D.Disk.state in
    let named = name_same state g.O.Opens.left g.O.Opens.name g.O.Opens.faults g.O.Src.Source.left g.O.Src.Source.name g.O.Src.Source.faults c.with_source-opened.result c.work.new.job source after
    c.work.ensures.did.done.source c.with_source-opened.ensures.source c.into_parts-source.ensures.source in
    let lends = subst (λ n. g.O.Opens.lends c.open-source.new.self asked n) (sym named) c.open-source.ensures.lends in
    let is : IsOpened g.O.Opens.left g.O.Opens.name g.O.Opens.faults g.O.Src.Source.left g.O.Src.Source.faults job (record job { source = c.replace-left.new.self; outcome = c.into_parts-source.result.1; full = c.job-1.given.0 }) c.with_source-opened.result c.work.new.job = record {
      before = asked;
      after = c.close-asked.result;
      source = source;
      source' = after;
      had = sym c.take.ensures.value ∙ c.in-Some.is;
      has = c.replace-left.ensures.after;
      opened = c.with_source-opened.ensures.source;
      closed = c.into_parts-source.ensures.source;
      left_is = c.open-source.ensures.left;
      left_then = c.close-asked.ensures.left;
      faults_is = c.open-source.ensures.faults;
      faults_then = c.close-asked.ensures.faults;
      named = c.close-asked.ensures.name asked lends;
      file = c.with_source-opened.ensures.file;
      file' = refl;
      part = c.with_source-opened.ensures.part;
      open_is = search rules;
      opened_is = c.with_source-opened.ensures.opened;
      outcome = c.into_parts-source.ensures.outcome;
    } in
    record {
      job = did_same state g.O.Opens.left g.O.Opens.name g.O.Opens.faults g.O.Src.Source.left g.O.Src.Source.name g.O.Src.Source.faults c.args.self.now.worker c.work.new.self job _ c.with_source-opened.result c.work.new.job c.args.keeper.now c.work.new.keeper
          is c.work.ensures.did;
      known = λ opened t has. let same : c.close-asked.result ≡ t = cc (c.replace-left.ensures.after, has) in subst (λ x. g.O.Opens.knows c.close-asked.new.self x) same c.close-asked.ensures.knows;
    }
