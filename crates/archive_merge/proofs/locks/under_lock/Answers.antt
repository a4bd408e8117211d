use Rattle.archive_merge.proofs.LockLemmas.{joinable}
use Rattle.archive_merge.proofs.locks.under_lock.Goals as goal

pub in_turn_of-requires-clause-fits : goal.in_turn_of-requires-clause-fits
in_turn_of-requires-clause-fits g c = c.requires.may _ _ c.fill.ensures.made

pub join_all-requires : goal.join_all-requires
join_all-requires g c = record { all = joinable g.M.Names.types g.M.Names.words g.M.Names.version g.D.Disk.state g.E.Disk.state _ _ _ _ _ _ _ _ c.fill.ensures.made c.in_turn_of.ensures.did }
