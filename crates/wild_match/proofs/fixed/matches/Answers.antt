use Rattle.std.proofs.Common.{◌≡◌, ◌<◌, ◌+◌, length, take, arith, sym, subst, ◌∙◌, refl, IsTrue, nat_eq}
use Rattle.std.proofs.lemmas.Bool.{false≢true, eqb-true, eq-eqb}
use Rattle.std.proofs.lemmas.List.{take_rest, take_all}
use Rattle.wild_match.specs.Matches.{Match, IsFixed, Fits}
use Rattle.wild_match.proofs.Matching.{front_some, Match-fixed, fixed-Match, Match-start}
use Rattle.wild_match.proofs.fixed.matches.Goals as goal

pub returns-then-not-fits : goal.returns-then-not-fits
returns-then-not-fits c =
    let n = c.fixed_len-front.result in
    let fits = c.if-not-fits.ensures.fits in (
      λ no. absurd (false≢true no),
      λ m. absurd (false≢true (fits.1 (Match-start c.as_slice-items.result.now c.args.bytes.now n c.fixed_len-front.ensures.fixed (subst (λ p. Match p c.args.bytes.now) (sym c.as_slice-items.ensures) m)))),
    )

pub returns-then-front-items : goal.returns-then-front-items
returns-then-front-items c =
    let n = c.fixed_len-front.result in
    let items = c.as_slice-items.result.now in
    let fits = c.if-not-fits.ensures.fits in
    let all : take n items ≡ items = take_all n items (omega arith) in
    let f : Fits items c.args.bytes.now = subst (λ p. Fits p c.args.bytes.now) all (fits.0 refl) in
    subst (λ p. (IsTrue (nat_eq (length c.args.bytes.now) n) → Match p c.args.bytes.now) × (Match p c.args.bytes.now → IsTrue (nat_eq (length c.args.bytes.now) n))) c.as_slice-items.ensures (
      λ yes. fixed-Match items c.args.bytes.now f (eqb-true _ _ yes ∙ c.if-front-items.true),
      λ m. eq-eqb _ _ ((Match-fixed items c.args.bytes.now (subst IsFixed all c.fixed_len-front.ensures.fixed) m).1 ∙ sym c.if-front-items.true),
    )

pub returns : goal.returns
returns c =
    let n = c.fixed_len-front.result in
    let items = c.as_slice-items.result.now in
    let fits = c.if-not-fits.ensures.fits in
    let lt : n < length items = omega arith in
    let both = front_some items c.args.bytes.now n c.fixed_len-front.ensures.within c.fixed_len-front.ensures.fixed (c.fixed_len-front.ensures.many lt) in
    let after = rw (take_rest items (n + 1), take_rest c.args.bytes.now n) at c.matches_after.ensures in
    subst (λ p. (IsTrue c.matches_after.result → Match p c.args.bytes.now) × (Match p c.args.bytes.now → IsTrue c.matches_after.result)) c.as_slice-items.ensures
    (λ yes. both.1 (fits.0 refl) (after.0 yes), λ m. after.1 (both.0 m).1)
