use Rattle.std.proofs.Common.{◌≡◌, ℕ, refl, arith, subst}
use Rattle.std.specs.Prelude.{Option}
use Rattle.word_places.proofs.HolderLemmas.{IsPassed, passed_all, passed_last, passed_more, passed_stops}
use Rattle.word_places.proofs.pass.add_holders.Goals as goal

pub returns-in_default-clause-added : goal.returns-in_default-clause-added
returns-in_default-clause-added c = λ is_true texts are len is.
    passed_last c.args.bytes.now c.args.first c.args.count c.args.fit c.args.finder.now c.args.numbers.now.items c.loop-place.rest.now c.loop-place.numbers.items c.loop-place.place
    (subst (λ (h : Option ℕ). IsPassed c.args.bytes.now c.args.first c.args.count c.args.fit c.args.finder.now c.args.numbers.now.items c.loop-place.rest.now c.loop-place.numbers.items h c.loop-place.place)
    c.in_default.is c.loop-place.invariant) (omega arith) texts are len is

pub returns-in_default-next_text-clause-none : goal.returns-in_default-next_text-clause-none
returns-in_default-next_text-clause-none c = λ is_false texts are len is.
    passed_stops c.args.bytes.now c.args.first c.args.count c.args.fit c.args.finder.now c.args.numbers.now.items c.loop-place.rest.now c.loop-place.numbers.items c.loop-place.hit c.loop-place.place
    c.loop-place.invariant (omega arith) (omega arith) (c.in_default-next_text.ensures.none refl) texts are len is

pub loop-place-preserved : goal.loop-place-preserved
loop-place-preserved c =
    passed_more c.args.bytes.now c.args.first c.args.count c.args.fit c.args.finder.now c.args.numbers.now.items c.loop-place.rest.now c.loop-place.numbers.items c.loop-place.hit c.loop-place.place
    _ c.in-Some-next_text.text.now c.in-Some-next_text.after.now c.pass_text.new.numbers.items c.in_ok-hit.hit
    c.loop-place.invariant refl c.in-Some-next_text.ensures.fits c.in-Some-next_text.ensures.some c.in_ok-hit.ensures.found c.in_ok-hit.ensures.added

pub returns-clause-added : goal.returns-clause-added
returns-clause-added c = λ is_true texts are len is.
    let all : c.loop-place.place ≡ c.args.count = omega arith in
    passed_all c.args.bytes.now c.args.first c.args.count c.args.fit c.args.finder.now c.args.numbers.now.items c.loop-place.rest.now c.loop-place.numbers.items c.loop-place.hit
    (subst (λ (n : ℕ). IsPassed c.args.bytes.now c.args.first c.args.count c.args.fit c.args.finder.now c.args.numbers.now.items c.loop-place.rest.now c.loop-place.numbers.items c.loop-place.hit n)
    all c.loop-place.invariant) texts are len is
