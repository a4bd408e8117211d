use Rattle.std.proofs.Common.{rules, subst}
use Rattle.std.specs.Prelude.{All}
use Rattle.search_walk.specs.Held.{Named}
use Rattle.search_walk.specs.Ready.{IsRuledOut}
use Rattle.search_walk.proofs.PassLemmas.{none_read, page_over, rest_over}
use Rattle.search_walk.proofs.passing.pass_page.Goals as goal

pub returns-then-is_empty-clause-reads : goal.returns-then-is_empty-clause-reads
returns-then-is_empty-clause-reads g c = none_read c.args.pages.now (g.D.Disk.state c.args.disk.now)

pub returns-then-not-rules_out-clause-reads : goal.returns-then-not-rules_out-clause-reads
returns-then-not-rules_out-clause-reads g c = none_read c.args.pages.now (g.D.Disk.state c.args.disk.now)

pub returns-then-is_empty-clause-over : goal.returns-then-is_empty-clause-over
returns-then-is_empty-clause-over g c =
    rest_over _ c.args.pages.now c.pass_rest.new.self c.args.context.now.names c.args.context.now.query c.args.left.now c.rows_left-rows.result c.wide_is_wider.ensures.wider c.left_are_counted.ensures c.requires.page c.requires.told
    (search rules) c.pass_rest.ensures.end c.pass_rest.ensures.left c.rows_left-rows.ensures

pub returns-clause-over : goal.returns-clause-over
returns-clause-over g c =
    let n : Named = c.args.context.now.names in
    let q = c.args.context.now.query in
    let after = c.in_ok-rows.ensures.after in
    page_over _ _ c.args.pages.now c.pass_page.new.self n q c.args.left.now after.0 c.page_rows-count.result c.in_ok-rows.rows c.wide_is_wider.ensures.wider c.left_are_counted.ensures (search rules) c.requires.page c.page_rows-count.ensures.is c.requires.told
    (λ told. subst (All (IsRuledOut n q)) c.first_of.ensures (c.rules_out.ensures (search rules) told)) c.in_ok-rows.ensures.behind after.1 c.in_ok-rows.ensures.count
