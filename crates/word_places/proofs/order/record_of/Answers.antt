use Rattle.std.proofs.Common.{◌≡◌, ◌≤◌, ◌+◌, ◌-◌, ℕ, ap, subst, arith}
use Rattle.word_places.specs.declared.place.WordsPlace.{WordsPlace}
use Rattle.word_places.specs.StepsHeld.{StartsPast}
use Rattle.word_places.proofs.OrderLemmas.{no_words, past_words}
use Rattle.word_places.proofs.order.record_of.Goals as goal

pub returns-then-behind-eq0-clause-none : goal.returns-then-behind-eq0-clause-none
returns-then-behind-eq0-clause-none c = λ is_none. no_words c.args.records.now c.args.number c.requires (subst (λ (n : ℕ). StartsPast c.args.records.now n c.args.number) c.if-behind-eq0.true c.records_up_to-behind.ensures.high)

pub returns-else-number-place-clause-none : goal.returns-else-number-place-clause-none
returns-else-number-place-clause-none c = λ is_none.
    let r = c.place_at-place.ensures in
    let first = ap (λ (p : WordsPlace). p.first) r.2 in
    let count = ap (λ (p : WordsPlace). p.count) r.2 in
    let some : 1 ≤ c.records_up_to-behind.result = omega (arith, c.if-behind-eq0.false) in
    let low = c.records_up_to-behind.ensures.low (omega (arith, some)) r.0 r.1 in
    let next : c.records_up_to-behind.result ≡ c.records_up_to-behind.result - 1 + 1 = omega (arith, some) in
    past_words c.args.records.now (c.records_up_to-behind.result - 1) c.args.number r.0 c.requires r.1 (subst (λ (n : ℕ). StartsPast c.args.records.now n c.args.number) next c.records_up_to-behind.ensures.high)
    (omega (arith, some, c.records_up_to-behind.ensures.within)) (omega (arith, c.if-number-place.false, first, count, low))
