use Rattle.std.proofs.Common.{[], rules, subst, sym}
use Rattle.std.specs.Prelude.{IfOk, Some}
use Rattle.segment_pages.specs.Paged.{Paged}
use Rattle.printed_lines.specs.Lines.{numbered}
use Rattle.search_walk.specs.Held.{Named}
use Rattle.search_walk.specs.PagesRead.{IsOfPage, ReadsPage}
use Rattle.search_walk.specs.Takes.{IsLeft}
use Rattle.search_walk.specs.Walked.{PagesGone, WentOver}
use Rattle.search_walk.proofs.AnswerLemmas.{if_ok_to, on_err, on_err_to}
use Rattle.search_walk.proofs.PageLemmas.{left_all}
use Rattle.search_walk.proofs.PagesReadLemmas.{such_on}
use Rattle.search_walk.proofs.PassLemmas.{here_left, here_past, none_passed, over_reaches}
use Rattle.search_walk.proofs.passing.take_next.Goals as goal

pub returns-in_err-passed-clause-stopped : goal.returns-in_err-passed-clause-stopped
returns-in_err-passed-clause-stopped g c =
    let n : Named = c.args.context.now.names in
    let q = c.args.context.now.query in
    let w = c.args.work.now in
    on_err c.from_residual.result _
    (left_all (g.W.TakesPages.halts w w n q) (g.D.Disk.state c.args.disk.now).seen c.args.pages.now n c.args.label.name.now c.args.label.number (λ xs. g.met.W.TakesPages.stops_within w w n q [] xs (g.met.W.TakesPages.stops_here w n q)))

pub returns-in-Some-clause-done : goal.returns-in-Some-clause-done
returns-in-Some-clause-done g c =
    let n : Named = c.args.context.now.names in
    let q = c.args.context.now.query in
    let w = c.args.work.now in
    over_reaches (g.W.TakesPages.reaches w w n q) (g.D.Disk.state c.args.disk.now).seen c.args.pages.now c.pass_next.new.pages n q c.args.label.name.now c.args.label.number c.in-Some.rows (λ all found tried. g.met.W.TakesPages.passes_over w n q all found tried)
    (search rules)

pub returns-in-Some-clause-gone : goal.returns-in-Some-clause-gone
returns-in-Some-clause-gone g c =
    let over : WentOver (g.D.Disk.state c.args.disk.now).seen c.args.pages.now c.args.context.now.names c.args.context.now.query c.pass_next.new.pages (Some c.in-Some.rows) = search rules in
    over.0

-- where nothing was passed the page is taken from where the reader stood
pub take_page-requires-clause-left : goal.take_page-requires-clause-left
take_page-requires-clause-left g c =
    let same = none_passed (g.D.Disk.state c.args.disk.now).seen c.args.pages.now c.args.context.now.names c.args.context.now.query c.pass_next.new.pages c.in_ok-passed.passed c.in-None.is c.in_ok-passed.ensures.over in
    subst (λ (p : Paged). IsLeft p c.args.label.number) (sym same) c.requires.left

pub returns-in-None-clause-reads : goal.returns-in-None-clause-reads
returns-in-None-clause-reads g c =
    let n : Named = c.args.context.now.names in
    let same = none_passed (g.D.Disk.state c.args.disk.now).seen c.args.pages.now n c.args.context.now.query c.pass_next.new.pages c.in_ok-passed.passed c.in-None.is c.in_ok-passed.ensures.over in
    such_on (IsOfPage n c.args.pages.now) (g.D.Disk.state c.args.disk.now) (g.D.Disk.state c.pass_next.new.disk) (g.D.Disk.state c.take_page.new.disk) c.pass_next.ensures.reads
    (subst (λ (p : Paged). ReadsPage n p (g.D.Disk.state c.pass_next.new.disk) (g.D.Disk.state c.take_page.new.disk)) same c.take_page.ensures.reads)

pub returns-in-None-clause-gone : goal.returns-in-None-clause-gone
returns-in-None-clause-gone g c =
    let same = none_passed (g.D.Disk.state c.args.disk.now).seen c.args.pages.now c.args.context.now.names c.args.context.now.query c.pass_next.new.pages c.in_ok-passed.passed c.in-None.is c.in_ok-passed.ensures.over in
    subst (λ (p : Paged). IfOk c.take_page.result (λ rows. PagesGone p c.take_page.new.pages rows)) same c.take_page.ensures.gone

pub returns-in-None-clause-done : goal.returns-in-None-clause-done
returns-in-None-clause-done g c =
    let n : Named = c.args.context.now.names in
    let q = c.args.context.now.query in
    let w = c.args.work.now in
    let d = c.take_page.new.self in
    let same = none_passed (g.D.Disk.state c.args.disk.now).seen c.args.pages.now n q c.pass_next.new.pages c.in_ok-passed.passed c.in-None.is c.in_ok-passed.ensures.over in
    if_ok_to c.take_page.result _ _
    (λ rows past. here_past (g.W.TakesPages.reaches w d n q) (g.D.Disk.state c.args.disk.now).seen (g.D.Disk.state c.pass_next.new.disk).seen c.args.pages.now c.pass_next.new.pages c.take_page.new.pages n c.args.label.name.now c.args.label.number rows
    c.pass_next.ensures.reads.rests.seen same past) c.take_page.ensures.done

pub returns-in-None-clause-stopped : goal.returns-in-None-clause-stopped
returns-in-None-clause-stopped g c =
    let n : Named = c.args.context.now.names in
    let q = c.args.context.now.query in
    let w = c.args.work.now in
    let d = c.take_page.new.self in
    let same = none_passed (g.D.Disk.state c.args.disk.now).seen c.args.pages.now n q c.pass_next.new.pages c.in_ok-passed.passed c.in-None.is c.in_ok-passed.ensures.over in
    on_err_to c.take_page.result _ _
    (here_left (λ messages. g.W.TakesPages.halts w d n q (numbered c.args.label.name.now c.args.label.number messages)) (g.D.Disk.state c.args.disk.now).seen (g.D.Disk.state c.pass_next.new.disk).seen c.args.pages.now c.pass_next.new.pages n
    c.pass_next.ensures.reads.rests.seen same) c.take_page.ensures.stopped

pub returns-in-None-clause-damaged : goal.returns-in-None-clause-damaged
returns-in-None-clause-damaged g c = λ is stands.
    let n : Named = c.args.context.now.names in
    let same = none_passed (g.D.Disk.state c.args.disk.now).seen c.args.pages.now n c.args.context.now.query c.pass_next.new.pages c.in_ok-passed.passed c.in-None.is c.in_ok-passed.ensures.over in
    here_left (λ _. ⊥) (g.D.Disk.state c.args.disk.now).seen (g.D.Disk.state c.pass_next.new.disk).seen c.args.pages.now c.pass_next.new.pages n c.pass_next.ensures.reads.rests.seen same (c.take_page.ensures.damaged is stands)
