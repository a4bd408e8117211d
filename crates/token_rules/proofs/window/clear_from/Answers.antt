use Rattle.std.proofs.Common.{◌+◌, ◌<◌, ◌/◌, ◌^◌, ◌∙◌, sym, arith, inl, inr}
use Rattle.std.proofs.lemmas.Bool.{both_ways, cases_lt}
use Rattle.std.specs.Int.Count.{count_trailing_zeros}
use Rattle.token_rules.specs.StepsOfWindows.{test}
use Rattle.std.proofs.Math.Nat.{div-le_self}
use Rattle.token_rules.proofs.BitLemmas.{lowest_set, test-above, bit_at-moved, zero_is_clear, one_is_set}
use Rattle.token_rules.proofs.window.clear_from.Goals as goal

small : (c : goal.Start) → c.args.bits / 2 ^ c.args.from < 2 ^ 64
small c = omega (arith, div-le_self c.args.bits (2 ^ c.args.from), c.ranges.bits.fits)

pub returns-clause-clear : goal.returns-clause-clear
returns-clause-clear c k l = zero_is_clear _ _ (sym (bit_at-moved c.args.bits c.args.from k) ∙ (lowest_set _ (small c)).1 k l)

pub returns-clause-set : goal.returns-clause-set
returns-clause-set c low = one_is_set _ _ (sym (bit_at-moved c.args.bits c.args.from _) ∙ (lowest_set _ (small c)).2 low)

-- a set bit is one of the 64
pub returns-clause-inside : goal.returns-clause-inside
returns-clause-inside c low =
    let place = c.args.from + count_trailing_zeros 64 (c.args.bits / 2 ^ c.args.from) in
    elim (cases_lt place 64) [
      | inl within ↦ within
      | inr past ↦ absurd (both_ways (test c.args.bits place) (test-above c.args.bits place c.ranges.bits.fits past) (returns-clause-set c low))
    ]
