use Rattle.std.proofs.Common.{rules, ℤ, pos, ◌*ℤ◌, Option, Some, None, FitsSigned, w64, to_z-of_z}
use Rattle.std.specs.Prelude.{◌≢◌, IfNone, SomeIff}
use Rattle.time_patterns.specs.declared.civil_time.CivilTime.{CivilTime}
use Rattle.time_patterns.specs.CivilTime.{micros_of}
use Rattle.time_patterns.proofs.CivilLemmas.{micros_fit}
use Rattle.time_patterns.proofs.form.Form.micros.Goals as goal

none_counts : (o : Option ℤ) (z v : ℤ) → SomeIff o (FitsSigned w64 z) v → IfNone o ((t : CivilTime) → micros_of t ≢ z)
none_counts None z v h = λ t e. h (rw (← e) (micros_fit t))
none_counts (Some n) z v h = tt

pub returns-clause-none : goal.returns-clause-none
returns-clause-none c =
    let small : FitsSigned w64 c.from.result = search rules in
    let told = rw (to_z-of_z c.ranges.moment, to_z-of_z small, c.from.ensures) at c.checked_mul.ensures in
    none_counts c.checked_mul.result (c.args.moment *ℤ pos c.args.self.now.tick) _ told
