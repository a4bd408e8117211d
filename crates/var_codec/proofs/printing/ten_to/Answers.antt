-- The table was read through once.
use Rattle.var_codec.proofs.Printed.{ten_at}
use Rattle.var_codec.proofs.printing.ten_to.Goals as goal

pub returns : goal.returns
returns c = ten_at c.args.count c.requires
