use Rattle.std.proofs.Common.{◌≡◌, ℕ, ◌+◌, ◌<◌, ◌≤◌, false, get_or, length, sym, ap, ◌∙◌, arith}
use Rattle.std.proofs.lemmas.Simd.{get_or-chunk}
use Rattle.logtype_text.specs.TypeText.{is_escaped}
use Rattle.logtype_text.proofs.LaneLemmas.{front_wider}
use Rattle.logtype_text.proofs.plain.plain_front.Goals as goal

pub returns-then-plain-lt-WIDTH-clause-plain : goal.returns-then-plain-lt-WIDTH-clause-plain
returns-then-plain-lt-WIDTH-clause-plain c =
    let text = c.args.text.now in
    let end = c.loop-end.end in
    let few = c.if-plain-lt-WIDTH.true in
    let wide = c.loop-end-test.true in
    let shown : (k : ℕ) → k < c.first_escaped-plain.result → is_escaped (get_or text (end + k) 0) ≡ false =
    λ k l. let in_lanes : k < 16 = omega (arith, few, l) in sym (ap is_escaped (get_or-chunk end 16 text k 0 in_lanes)) ∙ c.first_escaped-plain.ensures.plain k in_lanes l in
    front_wider (λ b. is_escaped b ≡ false) text end c.first_escaped-plain.result (omega (arith, few, wide)) c.loop-end.invariant.plain shown

pub returns-then-plain-lt-WIDTH-clause-most : goal.returns-then-plain-lt-WIDTH-clause-most
returns-then-plain-lt-WIDTH-clause-most c within =
    sym (ap is_escaped (get_or-chunk c.loop-end.end 16 c.args.text.now c.first_escaped-plain.result 0 c.if-plain-lt-WIDTH.true)) ∙ c.first_escaped-plain.ensures.stop c.if-plain-lt-WIDTH.true

pub loop-end-preserved : goal.loop-end-preserved
loop-end-preserved c =
    let text = c.args.text.now in
    let end = c.loop-end.end in
    let wide = c.loop-end-test.true in
    let none = c.if-plain-lt-WIDTH.false in
    let within : end + 16 ≤ length text = omega (arith, wide, c.loop-end.invariant.in_range) in
    let shown : (k : ℕ) → k < 16 → is_escaped (get_or text (end + k) 0) ≡ false =
    λ k l. sym (ap is_escaped (get_or-chunk end 16 text k 0 l)) ∙ c.first_escaped-plain.ensures.plain k l (omega (arith, none, l)) in
    record {
      in_range = within;
      plain = front_wider (λ b. is_escaped b ≡ false) text end 16 within c.loop-end.invariant.plain shown;
    }
