use Rattle.std.proofs.Common.{◌++◌, ◌∙◌, ℕ, refl, ap}
use Rattle.record_format.specs.Lists.{four_bytes}
use Rattle.record_format.proofs.ListLemmas.{no_front}
use Rattle.word_places.proofs.RecordLemmas.{spells_parts}
use Rattle.word_places.proofs.place.WordsPlace.texts_in.Goals as goal

pub returns-in_default-clause-none : goal.returns-in_default-clause-none
returns-in_default-clause-none c = λ texts spells. no_front c.args.payload.now (c.in_default.ensures.none refl) c.args.self.now.first texts spells.spelled

pub returns-then-not-has_numbers-clause-none : goal.returns-then-not-has_numbers-clause-none
returns-then-not-has_numbers-clause-none c = λ texts spells.
    let parts = spells_parts c.args.self.now c.args.payload.now c.in-Some.front.rest.now texts c.in-Some.front.first c.in-Some.front.count spells c.in-Some.ensures.first c.in-Some.ensures.count c.in-Some.ensures.some in
    absurd (cc (c.has_numbers.ensures.1 (parts.0, parts.1), c.if-not-has_numbers.true))

pub returns-clause-some : goal.returns-clause-some
returns-clause-some c =
    let front = c.in-Some.front in
    let numbers = c.has_numbers.ensures.0 c.if-not-has_numbers.false in
    c.in-Some.ensures.some ∙ ap (λ (n : ℕ). four_bytes n ++ (four_bytes front.count ++ front.rest.now)) numbers.0
    ∙ ap (λ (n : ℕ). four_bytes c.args.self.now.first ++ (four_bytes n ++ front.rest.now)) numbers.1
