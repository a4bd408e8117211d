use Rattle.std.proofs.Common.{rules}
use Rattle.row_rename.proofs.naming.is_fair_type.Goals as goal

pub returns-then-text-le-MAX_TYPE_LEN : goal.returns-then-text-le-MAX_TYPE_LEN
returns-then-text-le-MAX_TYPE_LEN c = (λ yes. record { good = c.text_ok.ensures.good.0 yes; short = search rules }, λ fair. c.text_ok.ensures.good.1 fair.good)
