-- What is copied begins with the number.
use Rattle.std.proofs.Common.{rules}
use Rattle.var_codec.proofs.Wide.{kept_front}
use Rattle.var_codec.proofs.printing.append_from.Goals as goal

pub returns-clause-put : goal.returns-clause-put
returns-clause-put c =
    kept_front c.args.out.now.items c.args.text.now c.in-Some.wide.now c.extend_from_slice.new.self.items c.truncate.new.self.items c.args.start _ c.in-Some.ensures.cases.same c.requires (search rules) c.in_ok-extend_from_slice.ensures.items c.truncate.ensures.items
