use Rattle.query_plan.proofs.StandingLemmas.{space_at}
use Rattle.query_plan.proofs.slots.plain_delimiter.Goals as goal

pub returns : goal.returns
returns c = space_at c.args.text.now c.memchr.result c.memchr.ensures
