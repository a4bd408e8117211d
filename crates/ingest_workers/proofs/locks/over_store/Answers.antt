use Rattle.ingest_workers.proofs.FollowLemmas.{begins_by, beside_over}
use Rattle.ingest_workers.proofs.LockLemmas.{has_worked, may_do_all}
use Rattle.ingest_workers.proofs.locks.over_store.Goals as goal

pub under_lock-requires-clause-may : goal.under_lock-requires-clause-may
under_lock-requires-clause-may g c κs within = may_do_all g.D.Disk.state g.O.Opens.left g.O.Opens.name g.O.Opens.faults _ _ _ _ _ c.in-Ok.ensures.maker c.requires.may

pub under_lock-requires-clause-beside : goal.under_lock-requires-clause-beside
under_lock-requires-clause-beside g c κs within = begins_by g.D.Disk.state _ _ _ c.args.store c.in-Ok.ensures.maker c.requires.beside

pub close-requires-clause-ended : goal.close-requires-clause-ended
close-requires-clause-ended g c = c.in-Ok-under_lock.ensures.done.ended.all

pub returns-in-Ok-under_lock-clause-done : goal.returns-in-Ok-under_lock-clause-done
returns-in-Ok-under_lock-clause-done g c = has_worked g.D.Disk.state g.O.Opens.left g.O.Opens.name g.O.Opens.faults _ _ _ _ _ _ _ _ c.in-Ok.ensures.maker (record {
  end = c.under_lock.new.maker;
  done = c.in-Ok-under_lock.ensures.done;
  entries = c.close.ensures.entries;
  fixed = c.close.ensures.fixed;
  owned = c.close.ensures.owned;
})

pub returns-in-Ok-under_lock-clause-beside : goal.returns-in-Ok-under_lock-clause-beside
returns-in-Ok-under_lock-clause-beside g c = beside_over g.D.Disk.state _ _ _ c.under_lock.new.maker _ c.args.store c.close.result c.in-Ok.ensures.maker c.in-Ok-under_lock.ensures.beside c.close.ensures.entries
