use Rattle.std.proofs.Common.{◌<◌, ◌+◌, ℕ, length, arith, sym, subst}
use Rattle.wild_match.specs.declared.runs.Run.{Run}
use Rattle.wild_match.specs.declared.pattern.Item.TheVariants.{Byte}
use Rattle.wild_match.proofs.Literal.{literal_is, not_literal, Kept, Kept-longer, Kept-byte, Kept-other}
use Rattle.wild_match.proofs.runs.longest_run.Goals as goal
use Rattle.wild_match.proofs.runs.longest_run.Goals.{in-Byte+then-len-best, in-Byte+else-len-best, in_default}

pub loop-i-init : goal.loop-i-init
loop-i-init c = record {
  begun = omega arith;
  within = omega arith;
  here = λ k low high. absurd (omega arith);
  best_is = λ k low high. absurd (omega arith);
  earliest = λ a le h. omega arith;
  longest = λ a n le h. omega arith;
}

pub loop-i-preserved : goal.loop-i-preserved
loop-i-preserved c =
    let p = c.args.items.now in
    let i = c.loop-i.i in
    let here : i < length p = c.loop-i-test.true in
    let old : Kept p c.loop-i.start c.loop-i.best.start c.loop-i.best.len i = c.loop-i.invariant in
    let P : ℕ → Run → Type 0 = λ start best. Kept p start best.start best.len (i + 1) in
    elim c.match-items-i.branch [
      | in-Byte+then-len-best w ↦ (
          subst (λ n. P n c.match-items-i.best) (sym w.start-is)
          (subst (P c.loop-i.start) (sym w.best-is) (Kept-longer p _ _ _ i old (literal_is p i w.in-Byte.field-0 (Byte 0) here w.in-Byte.is) w.if-len-best.true))
          )
      | in-Byte+else-len-best w ↦ (
          subst (λ n. P n c.match-items-i.best) (sym w.start-is)
          (subst (P c.loop-i.start) (sym w.best-is) (Kept-byte p _ _ _ i old (literal_is p i w.in-Byte.field-0 (Byte 0) here w.in-Byte.is) w.if-len-best.false))
          )
      | in_default w ↦ (
          subst (λ n. P n c.match-items-i.best) (sym w.start-is)
          (subst (P (i + 1)) (sym w.best-is) (Kept-other p _ _ _ i old (not_literal p i (Byte 0) here w.in_default.not-Byte)))
          )
    ]

pub returns-clause-longest : goal.returns-clause-longest
returns-clause-longest c start len within literal = c.loop-i.invariant.longest start len (omega arith) literal
