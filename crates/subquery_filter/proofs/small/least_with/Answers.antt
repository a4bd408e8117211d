use Rattle.std.proofs.Common.{◌-◌, arith}
use Rattle.subquery_filter.proofs.SmallLemmas.{few_digits, pow_most}
use Rattle.subquery_filter.proofs.small.least_with.Goals as goal

pub pow-requires : goal.pow-requires
pow-requires c = omega (arith, pow_most (c.args.digits - 1) (omega arith))

pub returns-then-digits-gt18 : goal.returns-then-digits-gt18
returns-then-digits-gt18 c = λ n below. let few = few_digits 18 n (omega arith) (omega arith) below in (few.0, omega (arith, few.1))

pub returns : goal.returns
returns c = λ n below. let few = few_digits (c.args.digits - 1) n (omega arith) (omega arith) (omega (arith, below, c.pow.ensures)) in (few.0, omega (arith, few.1))
