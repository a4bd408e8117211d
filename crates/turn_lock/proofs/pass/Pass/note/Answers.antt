use Rattle.std.proofs.Common.{rules}
use Rattle.turn_lock.proofs.RuleKeptLemmas.{copies_step}
use Rattle.turn_lock.proofs.pass.Pass.note.Goals as goal

pub split_seat-seat-requires : goal.split_seat-seat-requires
split_seat-seat-requires g c = (search rules, search rules, copies_step _ _ _ _ _ _ _)
