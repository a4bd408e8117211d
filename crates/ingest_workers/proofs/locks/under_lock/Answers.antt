use Rattle.std.proofs.Common.{◌∙◌, length, sym}
use Rattle.ingest_workers.specs.OpenWorker.{workers_in}
use Rattle.ingest_workers.proofs.FollowLemmas.{may_first, may_last, was_beside}
use Rattle.ingest_workers.proofs.LockLemmas.{are_still, joinable}
use Rattle.ingest_workers.proofs.PassedLemmas.{Drained, Forked, about_end, about_same, ended_with, seen_then, sees_all}
use Rattle.ingest_workers.proofs.locks.under_lock.Goals as goal

-- ---- the jobs, and the first pass of the follower

pub work_beside-requires-clause-fits : goal.work_beside-requires-clause-fits
work_beside-requires-clause-fits g c κs within = c.requires.may _ _ c.fill.ensures.made

pub work_beside-requires-clause-may : goal.work_beside-requires-clause-may
work_beside-requires-clause-may g c κs within = may_first g.D.Disk.state _ _ _ _ _ _ c.requires.beside c.fill.ensures.made c.pass-reader.ensures.pass

pub join-requires-clause-lock : goal.join-requires-clause-lock
join-requires-clause-lock g c = (c.work_beside.ensures.followed.turned.still.lock ∙ c.pass-reader.ensures.pass.lock) ∙ sym c.pass-reader.ensures.still.lock

pub join-requires-clause-ready : goal.join-requires-clause-ready
join-requires-clause-ready g c = c.work_beside.ensures.followed.turned.ready

pub join_all-requires : goal.join_all-requires
join_all-requires g c = record {
  all = λ i p at. let r = joinable g.D.Disk.state g.O.Opens.left g.O.Opens.name g.O.Opens.faults _ _ (workers_in c.args.workers.now.items) (workers_in c.work_beside.new.workers.items) _ _ _ _ c.fill.ensures.made
      c.work_beside.ensures.did i p at in
      (r.0 ∙ sym (c.join.ensures.lock ∙ c.pass-reader.ensures.still.lock), r.1);
}

-- ---- its second pass

pub pass-last-requires-clause-lock : goal.pass-last-requires-clause-lock
pass-last-requires-clause-lock g c = c.join_all.ensures.joined.lock ∙ (c.join.ensures.lock ∙ (c.pass-reader.ensures.still.lock ∙ (c.fill.ensures.made.still.lock ∙ c.requires.lock)))

pub drain-requires : goal.drain-requires
drain-requires g c =
    let forked : Forked c.args.maker.now c.fill.new.maker c.pass-reader.new.self c.join.new.self c.join_all.new.maker c.fill.new.passes.items c.work_beside.new.keepers.items (length c.args.jobs.now)
    c.pass-reader.result c.work_beside.new.reader = record {
      fresh = c.fill.ensures.made;
      still = are_still g.D.Disk.state g.O.Opens.left g.O.Opens.name g.O.Opens.faults (workers_in c.args.workers.now.items) (workers_in c.work_beside.new.workers.items) _ _ _ _ c.fill.ensures.made.counted c.work_beside.ensures.did;
      made = c.pass-reader.ensures.still;
      one_more = c.pass-reader.ensures.made;
      reader = c.pass-reader.ensures.pass;
      turned = c.work_beside.ensures.followed.turned;
      joins = record {
        lock = c.join.ensures.lock;
        about_is = c.join.ensures.about;
        made = c.join.ensures.made;
        own = c.join.ensures.own;
        ended = c.join.ensures.ended;
        learned = c.join.ensures.learned;
        taken = c.join.ensures.taken;
      };
      joined = c.join_all.ensures.joined;
    } in
    let opening = (may_first g.D.Disk.state _ _ _ _ _ _ c.requires.beside c.fill.ensures.made c.pass-reader.ensures.pass).opening in
    let new = c.pass-last.ensures.pass in record {
      may = may_last g.D.Disk.state _ _ _ _ _ opening c.work_beside.ensures.followed new.ready (about_same _ _ _ _ _ _ _ _ _ _ forked _ new) (seen_then _ _ _ _ _ _ _ _ _ _ forked _ new);
    }

pub join-requires-2-clause-lock : goal.join-requires-2-clause-lock
join-requires-2-clause-lock g c = (c.drain.ensures.followed.turned.still.lock ∙ c.pass-last.ensures.pass.lock) ∙ sym c.pass-last.ensures.still.lock

pub join-requires-2-clause-ready : goal.join-requires-2-clause-ready
join-requires-2-clause-ready g c = c.drain.ensures.followed.turned.ready

-- ---- all done

pub returns-clause-lock : goal.returns-clause-lock
returns-clause-lock g c = c.join-2.ensures.lock ∙ (c.pass-last.ensures.still.lock ∙ (c.join_all.ensures.joined.lock ∙ (c.join.ensures.lock ∙ (c.pass-reader.ensures.still.lock ∙ c.fill.ensures.made.still.lock))))

pub returns-clause-done : goal.returns-clause-done
returns-clause-done g c =
    let forked : Forked c.args.maker.now c.fill.new.maker c.pass-reader.new.self c.join.new.self c.join_all.new.maker c.fill.new.passes.items c.work_beside.new.keepers.items (length c.args.jobs.now)
    c.pass-reader.result c.work_beside.new.reader = record {
      fresh = c.fill.ensures.made;
      still = are_still g.D.Disk.state g.O.Opens.left g.O.Opens.name g.O.Opens.faults (workers_in c.args.workers.now.items) (workers_in c.work_beside.new.workers.items) _ _ _ _ c.fill.ensures.made.counted c.work_beside.ensures.did;
      made = c.pass-reader.ensures.still;
      one_more = c.pass-reader.ensures.made;
      reader = c.pass-reader.ensures.pass;
      turned = c.work_beside.ensures.followed.turned;
      joins = record {
        lock = c.join.ensures.lock;
        about_is = c.join.ensures.about;
        made = c.join.ensures.made;
        own = c.join.ensures.own;
        ended = c.join.ensures.ended;
        learned = c.join.ensures.learned;
        taken = c.join.ensures.taken;
      };
      joined = c.join_all.ensures.joined;
    } in
    let drained : Drained c.join_all.new.maker c.pass-last.new.self c.join-2.new.self c.pass-last.result c.drain.new.pass = record {
      made = c.pass-last.ensures.still;
      one_more = c.pass-last.ensures.made;
      reader = c.pass-last.ensures.pass;
      turned = c.drain.ensures.followed.turned;
      joins = record {
        lock = c.join-2.ensures.lock;
        about_is = c.join-2.ensures.about;
        made = c.join-2.ensures.made;
        own = c.join-2.ensures.own;
        ended = c.join-2.ensures.ended;
        learned = c.join-2.ensures.learned;
        taken = c.join-2.ensures.taken;
      };
    } in
    record {
      middle = c.fill.new.maker;
      passes = c.fill.new.passes.items;
      passes' = c.work_beside.new.keepers.items;
      fresh = c.fill.ensures.made;
      went = c.work_beside.ensures.went;
      done = c.work_beside.ensures.did;
      ended = ended_with _ _ _ _ _ _ _ _ _ _ forked _ _ _ _ drained c.requires.first.0 c.requires.first.1;
    }

pub returns-clause-beside : goal.returns-clause-beside
returns-clause-beside g c =
    let forked : Forked c.args.maker.now c.fill.new.maker c.pass-reader.new.self c.join.new.self c.join_all.new.maker c.fill.new.passes.items c.work_beside.new.keepers.items (length c.args.jobs.now)
    c.pass-reader.result c.work_beside.new.reader = record {
      fresh = c.fill.ensures.made;
      still = are_still g.D.Disk.state g.O.Opens.left g.O.Opens.name g.O.Opens.faults (workers_in c.args.workers.now.items) (workers_in c.work_beside.new.workers.items) _ _ _ _ c.fill.ensures.made.counted c.work_beside.ensures.did;
      made = c.pass-reader.ensures.still;
      one_more = c.pass-reader.ensures.made;
      reader = c.pass-reader.ensures.pass;
      turned = c.work_beside.ensures.followed.turned;
      joins = record {
        lock = c.join.ensures.lock;
        about_is = c.join.ensures.about;
        made = c.join.ensures.made;
        own = c.join.ensures.own;
        ended = c.join.ensures.ended;
        learned = c.join.ensures.learned;
        taken = c.join.ensures.taken;
      };
      joined = c.join_all.ensures.joined;
    } in
    let drained : Drained c.join_all.new.maker c.pass-last.new.self c.join-2.new.self c.pass-last.result c.drain.new.pass = record {
      made = c.pass-last.ensures.still;
      one_more = c.pass-last.ensures.made;
      reader = c.pass-last.ensures.pass;
      turned = c.drain.ensures.followed.turned;
      joins = record {
        lock = c.join-2.ensures.lock;
        about_is = c.join-2.ensures.about;
        made = c.join-2.ensures.made;
        own = c.join-2.ensures.own;
        ended = c.join-2.ensures.ended;
        learned = c.join-2.ensures.learned;
        taken = c.join-2.ensures.taken;
      };
    } in
    was_beside g.D.Disk.state _ _ _ c.args.maker.now c.join-2.new.self _ _ _ _ c.work_beside.ensures.followed c.drain.ensures.followed c.drain.ensures.through
    (about_end _ _ _ _ _ _ _ _ _ _ forked _ _ _ _ drained) (sees_all _ _ _ _ _ _ _ _ _ _ forked _ _ _ _ drained)
