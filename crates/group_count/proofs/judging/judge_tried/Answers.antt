use Rattle.column_store.specs.Row.{row_of}
use Rattle.group_count.proofs.JudgeLemmas.{none_fits, told_tried}
use Rattle.group_count.proofs.judging.judge_tried.Goals as goal

pub returns-then-not-row_fits-clause-damaged : goal.returns-then-not-row_fits-clause-damaged
returns-then-not-row_fits-clause-damaged g c = λ _.
    let types = g.N.Names.types c.args.names.now in
    let words = g.N.Names.words c.args.names.now in
    none_fits c.args.plan.now types words (row_of c.args.row) c.wide_is_wider.ensures.wider c.wide_is_wider.ensures.exact c.means_one.ensures.spells (λ has. absurd (cc (c.row_fits.ensures.1 has)))

pub returns-clause-found : goal.returns-clause-found
returns-clause-found g c =
    told_tried c.args.plan.now (g.N.Names.types c.args.names.now) (g.N.Names.words c.args.names.now) (row_of c.args.row) c.wide_is_wider.ensures.wider c.wide_is_wider.ensures.exact
    c.means_one.ensures.spells c.accepts.result c.accepts.ensures.matched
