use Rattle.column_store.specs.Row.{row_of}
use Rattle.group_count.proofs.JudgeLemmas.{found_certain, left_rejected}
use Rattle.group_count.proofs.judging.judge_stored.Goals as goal

pub returns-in-Rejected-clause-found : goal.returns-in-Rejected-clause-found
returns-in-Rejected-clause-found g c =
    left_rejected c.args.plan.now (g.N.Names.types c.args.names.now) (g.N.Names.words c.args.names.now) (row_of c.args.row) c.wide_is_wider.ensures.wider c.args.verdict c.in-Rejected.is

pub returns-in-Certain-clause-found : goal.returns-in-Certain-clause-found
returns-in-Certain-clause-found g c =
    found_certain c.args.plan.now (g.N.Names.types c.args.names.now) (g.N.Names.words c.args.names.now) (row_of c.args.row) c.wide_is_wider.ensures.wider c.wide_is_wider.ensures.exact
    c.means_one.ensures.spells c.args.verdict c.in-Certain.is
