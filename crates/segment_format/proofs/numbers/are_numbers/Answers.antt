use Rattle.std.proofs.Common.{◌≡◌, ◌-◌, ◌*◌, ℕ, List, length, drop, get_or, ◌∙◌, subst, sym, arith}
use native.Mathlib.Decide.{ℕ_discrete}
use mathlib.Core.Logic.{dite}
use Rattle.std.proofs.lemmas.List.{get_or_default}
use Rattle.byteorder.specs.Numbers.{little_from-take}
use Rattle.segment_format.proofs.FrontLemmas.{number_told, numbers_told}
use Rattle.segment_format.proofs.PagesLemmas.{number_at}
use Rattle.segment_format.proofs.numbers.are_numbers.Goals as goal

pub returns-then-read_u32-numbers-clause-no : goal.returns-then-read_u32-numbers-clause-no
returns-then-read_u32-numbers-clause-no c = λ e.
    let bytes : List ℕ = c.args.bytes.now in
    let i = c.loop-place.place in
    let number : c.read_u32.result ≡ number_at bytes i =
    c.read_u32.ensures ∙ little_from-take 0 4 (length bytes - 4 * i) (drop (4 * i) bytes) (omega (arith, c.loop-place-test.true, c.requires)) in
    absurd (c.if-read_u32-numbers.true (number
    ∙ number_told bytes c.args.numbers.now (λ k. omega (arith, c.type_inv.bytes k)) (λ k d lt. omega (arith, get_or_default c.args.numbers.now k d 0 lt, c.type_inv.numbers k)) c.requires e i c.loop-place-test.true))

pub loop-place-preserved : goal.loop-place-preserved
loop-place-preserved c = λ k lt.
    let bytes : List ℕ = c.args.bytes.now in
    let i = c.loop-place.place in
    let number : c.read_u32.result ≡ number_at bytes i =
    c.read_u32.ensures ∙ little_from-take 0 4 (length bytes - 4 * i) (drop (4 * i) bytes) (omega (arith, c.loop-place-test.true, c.requires)) in
    dite (ℕ_discrete k i)
    (λ is. subst (λ (j : ℕ). number_at bytes j ≡ get_or c.args.numbers.now j 0) (sym is) (sym number ∙ c.if-read_u32-numbers.false))
    (λ other. c.loop-place.invariant k (omega (arith, lt, other)))

pub returns-clause-yes : goal.returns-clause-yes
returns-clause-yes c = λ _.
    numbers_told c.args.bytes.now c.args.numbers.now (λ k. omega (arith, c.type_inv.bytes k)) c.requires
    (λ k lt. c.loop-place.invariant k (omega (arith, lt, c.loop-place-test.false, c.loop-place.auto.place-end)))
