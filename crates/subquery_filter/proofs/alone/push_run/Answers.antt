use Rattle.std.proofs.Common.{rules}
use Rattle.subquery_filter.proofs.AloneLemmas.{runs_push}
use Rattle.subquery_filter.proofs.alone.push_run.Goals as goal

pub returns : goal.returns
returns c = runs_push c.args.pieces.now c.args.place c.args.text.now c.args.runs.now.items c.push.new.self.items _ c.requires (search rules) c.in_ok-push.ensures.items
