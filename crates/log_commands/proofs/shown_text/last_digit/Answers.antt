use Rattle.std.proofs.Common.{◌%◌, arith}
use Rattle.log_commands.proofs.ShownLemmas.{digit_at}
use Rattle.log_commands.proofs.shown_text.last_digit.Goals as goal

pub returns : goal.returns
returns c = digit_at (c.args.number % 16) (omega arith)
