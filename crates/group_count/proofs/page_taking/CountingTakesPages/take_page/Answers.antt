use Rattle.std.proofs.Common.{rules, subst, sym}
use Rattle.search_walk.proofs.AnswerLemmas.{if_ok_to, on_err, on_err_to}
use Rattle.search_walk.proofs.PageLemmas.{page_gone}
use Rattle.group_count.specs.StepsServed.{IsServed}
use Rattle.group_count.proofs.ColumnLemmas.{on_ok}
use Rattle.group_count.proofs.WalkedLemmas.{page_unread}
use Rattle.group_count.proofs.page_taking.CountingTakesPages.take_page.Goals as goal

pub returns-clause-gone : goal.returns-clause-gone
returns-clause-gone g c = if_ok_to c.count_next.result _ _ (λ rows gone. page_gone c.args.pages.now c.count_next.new.pages rows c.requires.left.page gone) c.count_next.ensures.gone

pub returns-clause-done : goal.returns-clause-done
returns-clause-done g c = if_ok_to c.count_next.result _ _ (λ rows past. past c.args._label.name.now c.args._label.number) c.count_next.ensures.done

pub returns-clause-stopped : goal.returns-clause-stopped
returns-clause-stopped g c = on_err_to c.count_next.result _ _ (λ stops. stops c.args._label.name.now c.args._label.number) c.count_next.ensures.stopped

pub count_next-requires-clause-next : goal.count_next-requires-clause-next
count_next-requires-clause-next g c = record { page = c.requires.left.page; told = c.requires.told }

pub count_rest-requires-clause-next : goal.count_rest-requires-clause-next
count_rest-requires-clause-next g c = record { page = c.requires.left.page; told = c.requires.told }

pub count_rest-requires-clause-all : goal.count_rest-requires-clause-all
count_rest-requires-clause-all g c = c.requires.served.way.all (search rules)

pub returns-then-finds_all-clause-served : goal.returns-then-finds_all-clause-served
returns-then-finds_all-clause-served g c =
    on_ok c.count_rest.result _ (subst (IsServed c.args.context.now c.args.held.now) (sym c.count_rest.ensures.way) c.requires.served)

pub returns-then-finds_all-clause-done : goal.returns-then-finds_all-clause-done
returns-then-finds_all-clause-done g c =
    if_ok_to c.count_rest.result _ _ (λ rows past. past c.args._label.name.now c.args._label.number c.args.self.now.expanded.now) c.count_rest.ensures.done

pub returns-then-finds_all-clause-stopped : goal.returns-then-finds_all-clause-stopped
returns-then-finds_all-clause-stopped g c =
    on_err c.count_rest.result _
    (page_unread _ c.args.pages.now c.args.context.now.names c.args.context.now.query c.args.self.now.expanded.now c.args._label.name.now c.args._label.number)
