use Rattle.std.proofs.Common.{ℕ, arith, subst}
use Rattle.time_patterns.specs.Stamps.{IsPrintable}
use Rattle.stamp_templates.proofs.BetweenLemmas.{in_range}
use Rattle.stamp_templates.proofs.between.printed_by.Goals.{in-10, in-0-to-5, in-6-to-9, in-11-to-16, in-17-to-21, in-22-to-25, in_default}
use Rattle.stamp_templates.proofs.between.printed_by.Goals as goal

pub returns-clause-range : goal.returns-clause-range
returns-clause-range c = λ m is.
    let law = c.patterns_print_whole_moments.ensures in
    let k = c.args.pattern in
    let known = law.patterns k m is in
    elim c.match-pattern.branch [
      | in-0-to-5 w ↦ rw w.first-is (in_range k m _ _ _ (law.milliseconds k known.0 (omega (arith, w.in-0-to-5))) is)
      | in-6-to-9 w ↦ rw w.first-is (in_range k m _ _ _ (law.seconds k (omega (arith, w.in-6-to-9)) (omega (arith, w.in-6-to-9))) is)
      | in-10 w ↦ rw w.first-is (in_range 10 m _ _ _ law.short_years (subst (λ (n : ℕ). IsPrintable n m) (omega (arith, w.in-10)) is))
      | in-11-to-16 w ↦ rw w.first-is (in_range k m _ _ _ (law.micro_microseconds k (omega (arith, w.in-11-to-16)) (omega (arith, w.in-11-to-16))) is)
      | in-17-to-21 w ↦ rw w.first-is (in_range k m _ _ _ (law.micro_milliseconds k (omega (arith, w.in-17-to-21)) (omega (arith, w.in-17-to-21))) is)
      | in-22-to-25 w ↦ rw w.first-is (in_range k m _ _ _ (law.micro_seconds k (omega (arith, w.in-22-to-25)) (omega (arith, w.in-22-to-25))) is)
      | in_default w ↦ rw w.first-is (in_range 26 m _ _ _ law.micro_short_years (subst (λ (n : ℕ). IsPrintable n m) (omega (arith, w.in_default, known)) is))
    ]
