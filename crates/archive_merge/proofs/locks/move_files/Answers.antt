use Rattle.archive_merge.proofs.LockLemmas.{all_ended, has_moved, may_move_all}
use Rattle.archive_merge.proofs.locks.move_files.Goals as goal

pub under_lock-requires-clause-may : goal.under_lock-requires-clause-may
under_lock-requires-clause-may g c = may_move_all g.M.Names.types g.M.Names.words g.M.Names.version g.D.Disk.state g.E.Disk.state _ _ _ _ _ c.in-Ok.ensures.maker c.requires.may

pub close-requires-clause-ended : goal.close-requires-clause-ended
close-requires-clause-ended g c = all_ended g.M.Names.types g.M.Names.words g.M.Names.version g.D.Disk.state g.E.Disk.state _ _ _ _ _ _ c.in-Ok.ensures.maker.made c.in-Ok-under_lock.ensures.done

pub returns-in-Ok-under_lock-clause-done : goal.returns-in-Ok-under_lock-clause-done
returns-in-Ok-under_lock-clause-done g c = has_moved g.M.Names.types g.M.Names.words g.M.Names.version g.D.Disk.state g.E.Disk.state _ _ _ _ _ _ _ _ c.in-Ok.ensures.maker (record {
  end = c.under_lock.new.maker;
  done = c.in-Ok-under_lock.ensures.done;
  entries = c.close.ensures.entries;
  fixed = c.close.ensures.fixed;
  owned = c.close.ensures.owned;
})
