use Rattle.std.proofs.Common.{rules, ap, ◌∙◌, subst}
use Rattle.turn_lock.proofs.RuleKeptLemmas.{joins_step, learns_step}
use Rattle.turn_lock.specs.StepPlays.{Learned}
use Rattle.turn_lock.proofs.LearnedLemmas.{both_learned}
use Rattle.turn_lock.proofs.steps.join.Goals as goal

pub join_seat-requires : goal.join_seat-requires
join_seat-requires g c = let in_ = c.requires.takes in let free = c.requires.free in let empty = in_.empty in (
  search rules,
  search rules,
  free.2,
  search rules,
  joins_step _ _ _ _ _ c.args.seat.now.id c.args.other.id c.args.seat.now.me.0 c.args.other.me.0 free.0 free.1 in_.bare.0 empty.0 empty.1 in_.bare.1 empty.2 in_.kept,
)

pub load-requires : goal.load-requires
load-requires g c = (
  search rules,
  search rules,
  learns_step _ _ _ _ _ _ c.join_seat.new.seat.id c.join_seat.new.seat.me (ap (λ m. m.0.inside) c.join_seat.ensures.2 ∙ c.requires.takes.out),
)

pub returns-clause-view : goal.returns-clause-view
returns-clause-view g c = subst (λ m. Learned m c.load.new.seat.me) c.join_seat.ensures.2 c.load.ensures.2

pub returns-clause-learned : goal.returns-clause-learned
returns-clause-learned g c = both_learned _ _ (subst (λ m. Learned m c.load.new.seat.me) c.join_seat.ensures.2 c.load.ensures.2)
