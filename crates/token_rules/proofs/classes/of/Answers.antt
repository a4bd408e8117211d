use Rattle.std.proofs.Common.{arith}
use Rattle.token_rules.proofs.TableLemmas.{class_of-small, class_of-delimiter, class_of-digit, class_of-letter, class_of-hexadecimal}
use Rattle.token_rules.proofs.classes.of.Goals as goal

pub returns-clause-delimiter : goal.returns-clause-delimiter
returns-clause-delimiter c = rw c.from.ensures (class_of-delimiter c.args.byte (omega arith))

pub returns-clause-small : goal.returns-clause-small
returns-clause-small c = rw c.from.ensures (class_of-small c.args.byte (omega arith))

pub returns-clause-digit : goal.returns-clause-digit
returns-clause-digit c = rw c.from.ensures (class_of-digit c.args.byte (omega arith))

pub returns-clause-letter : goal.returns-clause-letter
returns-clause-letter c = rw c.from.ensures (class_of-letter c.args.byte (omega arith))

pub returns-clause-hexadecimal : goal.returns-clause-hexadecimal
returns-clause-hexadecimal c = rw c.from.ensures (class_of-hexadecimal c.args.byte (omega arith))
