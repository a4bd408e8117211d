use Rattle.std.proofs.Common.{rules, ap, ◌∙◌}
use Rattle.turn_lock.specs.History.{own}
use Rattle.turn_lock.proofs.RuleKeptLemmas.{numbers_step, deals_step}
use Rattle.turn_lock.proofs.OwnLemmas.{own_none}
use Rattle.turn_lock.proofs.maker.Maker.pass.Goals as goal

pub fetch_add-number-requires : goal.fetch_add-number-requires
fetch_add-number-requires g c = let m = c.args.self.now in (
  search rules,
  search rules,
  numbers_step _ _ _ _ _ _ m.seat.id m.seat.me m.made m.free.1 m.maker.0 m.maker.2 c.requires.room,
)

pub split_seat-seat-requires : goal.split_seat-seat-requires
split_seat-seat-requires g c = (
  search rules,
  search rules,
  deals_step _ _ _ _ _ _ _ (ap (λ m. m.0.inside) c.fetch_add-number.ensures.2.0 ∙ c.args.self.now.free.1),
)

pub returns-clause-pass : goal.returns-clause-pass
returns-clause-pass g c = let n = c.fetch_add-number.result in let step = c.fetch_add-number.ensures.2 in record {
  lock = search rules;
  about_is = search rules;
  ready = search rules;
  number = search rules;
  seen_is = search rules;
  own_is = ap (λ m. own n m.0.seen) c.split_seat-seat.ensures.4 ∙ (ap (λ m. own n m.0.seen) step.0 ∙ own_none n 0 c.args.self.now.seat.me.0.seen step.2);
}
