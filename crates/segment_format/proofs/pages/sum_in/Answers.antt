use Rattle.std.proofs.Common.{◌≡◌, ◌-◌, ◌*◌, ℕ, List, length, drop, ◌∙◌, arith}
use Rattle.byteorder.specs.Numbers.{little_from-take}
use Rattle.segment_format.proofs.PagesLemmas.{number_at, numbers_in, sum_more, numbers_in_are}
use Rattle.segment_format.proofs.pages.sum_in.Goals as goal

pub overflow_add-total : goal.overflow_add-total
overflow_add-total c =
    omega (arith, c.loop-place.invariant.1, c.from-total.ensures, c.read_u32.type_inv, c.loop-place-test.true, c.requires.few)

pub loop-place-preserved : goal.loop-place-preserved
loop-place-preserved c =
    let bytes : List ℕ = c.args.bytes.now in
    let i = c.loop-place.place in
    let number : c.read_u32.result ≡ number_at bytes i =
    c.read_u32.ensures ∙ little_from-take 0 4 (length bytes - 4 * i) (drop (4 * i) bytes) (omega (arith, c.loop-place-test.true, c.requires.whole)) in (
      omega (arith, c.loop-place.invariant.0, c.from-total.ensures, number, sum_more bytes i),
      omega (arith, c.loop-place.invariant.1, c.from-total.ensures, c.read_u32.type_inv),
    )

pub returns : goal.returns
returns c =
    let bytes : List ℕ = c.args.bytes.now in
    let i = c.loop-place.place in
    let are = numbers_in_are bytes i (λ k. omega (arith, c.type_inv.bytes k)) (omega (arith, c.loop-place-test.false, c.loop-place.auto.place-end, c.requires.whole)) in
    (numbers_in i bytes, are.0, are.1, c.loop-place.invariant.0)
