use Rattle.std.proofs.Common.{take, sym, rules}
use Rattle.row_codec.proofs.RunLemmas.{kept_front}
use Rattle.row_codec.proofs.runs.put_wide.Goals as goal

pub returns-clause-front : goal.returns-clause-front
returns-clause-front c = (
  take c.args.len c.args.wide.now,
  sym (kept_front c.args.out.now.items c.args.wide.now c.extend_from_slice.new.self.items c.truncate.new.self.items _ c.args.len (search rules) c.in_ok-extend_from_slice.ensures.items c.truncate.ensures.items),
)
