use Rattle.std.proofs.Common.{◌+◌, ◌≤◌, length, arith, refl, subst, length-drop}
use Rattle.std.proofs.lemmas.Bool.{false≢true}
use Rattle.std.proofs.lemmas.List.{take_rest}
use Rattle.memchr.specs.Find.{Nowhere}
use Rattle.wild_match.specs.Matches.{FitsAt}
use Rattle.wild_match.proofs.Searching.{passed, passed_all, too_few, one_more}
use Rattle.wild_match.proofs.fixed.find_with.Goals as goal

pub returns-in_err-at-clause-first : goal.returns-in_err-at-clause-first
returns-in_err-at-clause-first c =
    let h = rw (take_rest c.args.bytes.now (c.loop-from.from + c.args.skip)) at c.in_err-at.ensures in
    rw c.from_residual.ensures (passed_all c.args.fixed.now c.args.bytes.now c.args.finder.now c.args.skip c.requires.within c.requires.needle c.loop-from.from c.loop-from.invariant.none h)

pub returns-then-fits-clause-first : goal.returns-then-fits-clause-first
returns-then-fits-clause-first c =
    let start = c.loop-from.from + c.in_ok-at.at in
    let h = rw (take_rest c.args.bytes.now (c.loop-from.from + c.args.skip)) at c.in_ok-at.ensures in
    let f = rw (take_rest c.args.bytes.now start) at c.if-fits.ensures.fits in
    let occurs = h.1.fits in
    let le : start ≤ length c.args.bytes.now = omega (arith, length-drop (c.loop-from.from + c.args.skip) c.args.bytes.now) in (
      record {
        low = omega arith;
        high = omega arith;
        before = passed c.args.fixed.now c.args.bytes.now c.args.finder.now c.args.skip c.requires.within c.requires.needle c.loop-from.from c.loop-from.invariant.none c.in_ok-at.at _ h.0;
      },
      (le, f.0 refl),
    )

pub returns-then-start-bytes-clause-first : goal.returns-then-start-bytes-clause-first
returns-then-start-bytes-clause-first c =
    let start = c.loop-from.from + c.in_ok-at.at in
    let h = rw (take_rest c.args.bytes.now (c.loop-from.from + c.args.skip)) at c.in_ok-at.ensures in
    let f = rw (take_rest c.args.bytes.now start) at c.if-fits.ensures.fits in
    let before = passed c.args.fixed.now c.args.bytes.now c.args.finder.now c.args.skip c.requires.within c.requires.needle c.loop-from.from c.loop-from.invariant.none c.in_ok-at.at _ h.0 in
    subst (λ n. Nowhere (FitsAt c.args.fixed.now c.args.bytes.now) 0 (n + 1)) c.if-start-bytes.true
    (one_more (FitsAt c.args.fixed.now c.args.bytes.now) start before (λ p. false≢true (f.1 p.1)))

pub loop-from-preserved : goal.loop-from-preserved
loop-from-preserved c =
    let start = c.loop-from.from + c.in_ok-at.at in
    let h = rw (take_rest c.args.bytes.now (c.loop-from.from + c.args.skip)) at c.in_ok-at.ensures in
    let f = rw (take_rest c.args.bytes.now start) at c.if-fits.ensures.fits in
    let before = passed c.args.fixed.now c.args.bytes.now c.args.finder.now c.args.skip c.requires.within c.requires.needle c.loop-from.from c.loop-from.invariant.none c.in_ok-at.at _ h.0 in
    let occurs = h.1.fits in
    record {
      within = omega (arith, length-drop (c.loop-from.from + c.args.skip) c.args.bytes.now);
      none = one_more (FitsAt c.args.fixed.now c.args.bytes.now) start before (λ p. false≢true (f.1 p.1));
    }

pub returns-clause-first : goal.returns-clause-first
returns-clause-first c = too_few c.args.fixed.now c.args.bytes.now c.loop-from.from c.loop-from-test.false c.loop-from.invariant.none
