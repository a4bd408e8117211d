use Rattle.std.proofs.Common.{◌≡◌, ℕ, ◌-◌, ◌≤◌, [], refl, sym, subst, arith, rules}
use Rattle.time_patterns.specs.Digits.{digits, fields_text}
use Rattle.stamp_templates.specs.Templates.{template_of}
use Rattle.stamp_templates.proofs.TableLemmas.{no_template, short_at, table_at}
use Rattle.stamp_templates.proofs.templates.template.Goals.{then-pattern-eq0-via-then-pattern-eq0, then-pattern-eq0-via-else-pattern-eq0+then-pattern-gt-PATTERNS}
use Rattle.stamp_templates.proofs.templates.template.Goals as goal

none_at : (k : ℕ) → k ≡ 0 → template_of k ≡ []
none_at k e = subst (λ x. template_of x ≡ []) (sym e) refl

pub returns-then-pattern-eq0-clause-text : goal.returns-then-pattern-eq0-clause-text
returns-then-pattern-eq0-clause-text c =
    elim c.then-pattern-eq0.branch [
      | then-pattern-eq0-via-then-pattern-eq0 w ↦ sym (none_at c.args.pattern w.if-pattern-eq0.true)
      | then-pattern-eq0-via-else-pattern-eq0+then-pattern-gt-PATTERNS w ↦ sym (no_template c.args.pattern (omega (arith, w.if-pattern-gt-PATTERNS.true)))
    ]

pub returns-clause-text : goal.returns-clause-text
unfolding digits fields_text
returns-clause-text c =
    let low : 1 ≤ c.args.pattern = omega arith in
    let high : c.args.pattern ≤ 26 = omega arith in
    let place : c.from.result - 1 ≡ c.args.pattern - 1 = omega arith in
    search (rules, table_at)

pub returns-clause-short : goal.returns-clause-short
unfolding digits fields_text
returns-clause-short c =
    let low : 1 ≤ c.args.pattern = omega arith in
    let high : c.args.pattern ≤ 26 = omega arith in
    let place : c.from.result - 1 ≡ c.args.pattern - 1 = omega arith in
    search (rules, short_at)
