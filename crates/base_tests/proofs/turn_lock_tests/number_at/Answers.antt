use Rattle.std.proofs.Common.{◌∙◌, ap, sym, slice_get, arith}
use Rattle.base_tests.proofs.turn_lock_tests.number_at.Goals as goal

pub returns-clause-fair : goal.returns-clause-fair
returns-clause-fair g c = λ a is le. let other = c.take-turn.ensures.others a c.args.place c.at-number.result is le (ap (λ l. slice_get l c.args.place) (sym c.take-turn.ensures.entries) ∙ c.at-number.ensures) in
    let low = other.1 in let high = other.3 in omega arith
