use Rattle.std.proofs.Common.{◌-◌, arith}
use Rattle.time_patterns.proofs.PlaceLemmas.{form_at, IsForm_bound}
use Rattle.time_patterns.proofs.patterns.form_of.Goals.{then-pattern-eq0-via-then-pattern-eq0, then-pattern-eq0-via-else-pattern-eq0+then-pattern-gt26}
use Rattle.time_patterns.proofs.patterns.form_of.Goals as goal

pub returns-then-pattern-eq0-clause-none : goal.returns-then-pattern-eq0-clause-none
returns-then-pattern-eq0-clause-none c = λ form is.
    let bound = IsForm_bound c.args.pattern form is in
    elim c.then-pattern-eq0.branch [
      | then-pattern-eq0-via-then-pattern-eq0 w ↦ omega (arith, w.if-pattern-eq0.true)
      | then-pattern-eq0-via-else-pattern-eq0+then-pattern-gt26 w ↦ omega (arith, w.if-pattern-gt26.true)
    ]

pub returns-clause-some : goal.returns-clause-some
returns-clause-some c = form_at c.args.pattern (c.from.result - 1) _ (omega arith) (omega arith) (omega arith)
