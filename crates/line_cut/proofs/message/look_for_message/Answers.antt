use Rattle.line_cut.proofs.GroupLemmas.{begins_whole}
use Rattle.line_cut.proofs.message.look_for_message.Goals as goal

pub returns-then-not-may_give-clause-finds : goal.returns-then-not-may_give-clause-finds
returns-then-not-may_give-clause-finds g c =
    (c.if-not-may_give.true, begins_whole c.args.max_line c.first_line.new.window.held (g.S.Source.left c.first_line.new.source) c.in-Ok-Whole.len c.in-Ok-Whole.ended (rw c.in-Ok-Whole.field-0-is at c.in-Ok-Whole.ensures.stands))
