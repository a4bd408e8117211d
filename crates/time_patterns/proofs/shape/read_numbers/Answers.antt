use Rattle.std.proofs.Common.{◌≡◌, ◌<◌, ◌++◌, ◌∙◌, length, get_or, take, None, refl, sym, ap, arith, rules, append_assoc}
use Rattle.std.proofs.lemmas.List.{length-set, get_or_default}
use Rattle.time_patterns.specs.declared.field.Field.{Field}
use Rattle.time_patterns.specs.Digits.{fields_text, field_text, AreWithin}
use Rattle.time_patterns.proofs.FieldLemmas.{fields_text-set, AreWithin-set, next_field}
use Rattle.time_patterns.proofs.shape.read_numbers.Goals as goal

pub loop-place-init : goal.loop-place-init
unfolding fields_text AreWithin
loop-place-init c = record { read = refl; within = (refl, (refl, (refl, (refl, (refl, (refl, tt)))))); six = refl }

pub returns-in_err-number-clause-none : goal.returns-in_err-number-clause-none
returns-in_err-number-clause-none c =
    rw c.from_residual.ensures (λ xs rest e.
    let fs = c.args.fields.now in
    let i = c.loop-place.place in
    let d : Field = record { before = None; digits = 0 } in
    let here : i < length fs = omega arith in
    let next = next_field fs c.loop-place.numbers xs c.loop-place.rest.now rest i (get_or fs i d) here (get_or_default fs i d (get_or fs i d) here)
    (sym c.loop-place.invariant.read ∙ e) in
    c.in_err-number.ensures.none next.0 next.1 next.2)

pub loop-place-preserved : goal.loop-place-preserved
loop-place-preserved c =
    let fs = c.args.fields.now in
    let i = c.loop-place.place in
    let d : Field = record { before = None; digits = 0 } in
    let f = get_or fs i d in
    let here : i < length fs = omega arith in
    let long : length c.args.fields.now ≡ 6 = search rules in
    let there : i < length c.loop-place.numbers = omega (arith, long, c.loop-place.invariant.six) in
    let is = get_or_default fs i d f here in
    let xs = c.loop-place.numbers in
    let x = c.in_ok-number.number in
    let after = c.in_ok-number.after.now in
    record {
      read = c.loop-place.invariant.read
          ∙ ap (λ t. fields_text (take i fs) xs ++ t) c.in_ok-number.ensures.some.0
          ∙ sym (append_assoc (fields_text (take i fs) xs) (field_text f x) after)
          ∙ ap (λ t. t ++ after) (sym (fields_text-set fs xs i x f here there is));
      within = AreWithin-set fs xs i x f here there is c.in_ok-number.ensures.some.1 c.loop-place.invariant.within;
      six = length-set xs i x ∙ c.loop-place.invariant.six;
    }
