use Rattle.std.proofs.Common.{arith, ap, length}
use Rattle.std.proofs.lemmas.List.{length-append}
use Rattle.std.proofs.lemmas.Fmt.{length-decimal-le}
use Rattle.generated_logs.proofs.text.push_number.Goals as goal

pub push-requires : goal.push-requires
push-requires c = omega (arith, ap length c.as_bytes.ensures.value, ap length c.format.ensures.text, length-decimal-le 3 c.args.number (omega arith) c.requires.small (omega (arith, c.requires.small)), c.requires.room)

pub returns-clause-length : goal.returns-clause-length
returns-clause-length c = omega (arith, ap length c.as_bytes.ensures.value, ap length c.format.ensures.text, length-decimal-le 3 c.args.number (omega arith) c.requires.small (omega (arith, c.requires.small)), ap length c.push.ensures, length-append c.args.line.now c.as_bytes.result.now)
