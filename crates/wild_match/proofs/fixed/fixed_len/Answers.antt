use Rattle.std.proofs.Common.{rules, ◌≢◌, ◌≤◌, ◌<◌, ℕ, length, get_or}
use Rattle.wild_match.specs.declared.pattern.Item.TheVariants.{Byte, Many}
use Rattle.wild_match.proofs.Stepping.{fixed_before}
use Rattle.wild_match.proofs.fixed.fixed_len.Goals as goal

pub returns-clause-fixed : goal.returns-clause-fixed
returns-clause-fixed c =
    let within : c.unwrap_or.result ≤ length c.args.items.now = search rules in
    let before : (k : ℕ) → k < c.unwrap_or.result → get_or c.args.items.now k (Byte 0) ≢ Many = search rules in
    fixed_before c.args.items.now c.unwrap_or.result (Byte 0) within before
