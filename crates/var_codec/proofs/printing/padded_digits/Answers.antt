-- What is left of the zeros stands before the digits.
use Rattle.std.proofs.Common.{arith}
use Rattle.std.proofs.lemmas.Fmt.{length-decimal-le}
use Rattle.var_codec.proofs.Printed.{padded_by}
use Rattle.var_codec.proofs.printing.padded_digits.Goals as goal

pub write_digits-requires : goal.write_digits-requires
write_digits-requires c = (length-decimal-le 16 c.args.number (omega arith) (omega arith) (omega arith), omega arith)

pub returns : goal.returns
returns c = padded_by c.args.number c.write_digits.result c.write_digits.new.buf c.write_digits.ensures.start c.write_digits.ensures.written c.write_digits.ensures.before
