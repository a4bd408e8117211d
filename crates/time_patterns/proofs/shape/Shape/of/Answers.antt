use Rattle.std.proofs.Common.{None, Some, inl, inr, refl, arith}
use Rattle.time_patterns.specs.declared.shape.Shape.TheVariants.{Dashed, Lettered, Bracketed, Slashed, Short}
use Rattle.time_patterns.proofs.ShapeLemmas.{by_front}
use Rattle.time_patterns.proofs.shape.Shape.of.Goals as goal

pub returns-then-line-lt-SHORTEST-clause-only : goal.returns-then-line-lt-SHORTEST-clause-only
returns-then-line-lt-SHORTEST-clause-only c =
    by_front c.args.line.now None
    (λ f. absurd (omega (arith, f.0.long)))
    (λ f. absurd (omega (arith, f.0.long)))
    (λ f. absurd (omega (arith, f.0)))
    (λ f. absurd (omega (arith, f.0.long)))
    (λ f. absurd (omega (arith, f.0.long)))

pub returns-then-first-eq91-clause-only : goal.returns-then-first-eq91-clause-only
returns-then-first-eq91-clause-only c =
    by_front c.args.line.now (Some Bracketed)
    (λ f. absurd (omega (arith, f.0.first)))
    (λ f. absurd (omega (arith, f.0.first)))
    (λ f. refl)
    (λ f. absurd (omega (arith, f.0.first)))
    (λ f. absurd (omega (arith, f.0.first)))

pub returns-then-not-is_ascii_digit-clause-only : goal.returns-then-not-is_ascii_digit-clause-only
returns-then-not-is_ascii_digit-clause-only c =
    by_front c.args.line.now None
    (λ f. absurd (elim c.if-not-is_ascii_digit.ensures.cases [ inl low ↦ omega (arith, f.0.first) | inr high ↦ omega (arith, f.0.first) ]))
    (λ f. absurd (elim c.if-not-is_ascii_digit.ensures.cases [ inl low ↦ omega (arith, f.0.first) | inr high ↦ omega (arith, f.0.first) ]))
    (λ f. absurd (omega (arith, f.1)))
    (λ f. absurd (elim c.if-not-is_ascii_digit.ensures.cases [ inl low ↦ omega (arith, f.0.first) | inr high ↦ omega (arith, f.0.first) ]))
    (λ f. absurd (elim c.if-not-is_ascii_digit.ensures.cases [ inl low ↦ omega (arith, f.0.first) | inr high ↦ omega (arith, f.0.first) ]))

pub returns-then-line-eq47-clause-only : goal.returns-then-line-eq47-clause-only
returns-then-line-eq47-clause-only c =
    by_front c.args.line.now (Some Short)
    (λ f. absurd (omega (arith, f.1)))
    (λ f. absurd (omega (arith, f.1)))
    (λ f. absurd (omega (arith, f.1)))
    (λ f. absurd (omega (arith, f.1)))
    (λ f. refl)

pub returns-then-line-eq47-2-clause-only : goal.returns-then-line-eq47-2-clause-only
returns-then-line-eq47-2-clause-only c =
    by_front c.args.line.now (Some Slashed)
    (λ f. absurd (omega (arith, f.2)))
    (λ f. absurd (omega (arith, f.2)))
    (λ f. absurd (omega (arith, f.1)))
    (λ f. refl)
    (λ f. absurd (omega (arith, f.1)))

pub returns-then-line-eq84-clause-only : goal.returns-then-line-eq84-clause-only
returns-then-line-eq84-clause-only c =
    by_front c.args.line.now (Some Lettered)
    (λ f. absurd (omega (arith, f.3)))
    (λ f. refl)
    (λ f. absurd (omega (arith, f.1)))
    (λ f. absurd (omega (arith, f.2)))
    (λ f. absurd (omega (arith, f.1)))

pub returns-else-line-eq84-clause-only : goal.returns-else-line-eq84-clause-only
returns-else-line-eq84-clause-only c =
    by_front c.args.line.now (Some Dashed)
    (λ f. refl)
    (λ f. absurd (omega (arith, f.3)))
    (λ f. absurd (omega (arith, f.1)))
    (λ f. absurd (omega (arith, f.2)))
    (λ f. absurd (omega (arith, f.1)))
