use Rattle.std.proofs.Common.{◌≡◌, ◌*◌, ◌∙◌, ap, refl, rules, subst, sum, take}
use Rattle.std.proofs.lemmas.Result.{err_from_is_err_and}
use Rattle.segment_format.specs.Pages.{FitsPage}
use Rattle.segment_pages.specs.Paged.{Paged}
use Rattle.segment_pages.proofs.ColumnLemmas.{stands_as}
use Rattle.segment_pages.proofs.PassLemmas.{asking_of, behind_told, counts_here, counts_reads, counts_short, none_told, passed_view}
use Rattle.segment_pages.proofs.pages.SegmentPages.pass_page.Goals as goal

pub returns-in_err-read_part-clause-reads : goal.returns-in_err-read_part-clause-reads
returns-in_err-read_part-clause-reads g c =
    let r = asking_of c.self.inside.at c.self.inside.passed c.self.inside.pages c.in-Some.ask c.args.self.now c.self.view_is c.in-Some.ensures.stands c.in-Some.ensures.some c.in-Some.ensures.left c.self.invariant.1 in
    counts_reads c.self.inside.at c.in-Some.ask c.args.self.now r (g.D.Disk.state c.args.disk.now) (g.D.Disk.state c.read_part.new.disk) c.read_part.ensures.reads

pub returns-in_default-pass_page-clause-reads : goal.returns-in_default-pass_page-clause-reads
returns-in_default-pass_page-clause-reads g c =
    let r = asking_of c.self.inside.at c.self.inside.passed c.self.inside.pages c.in-Some.ask c.args.self.now c.self.view_is c.in-Some.ensures.stands c.in-Some.ensures.some c.in-Some.ensures.left c.self.invariant.1 in
    counts_reads c.self.inside.at c.in-Some.ask c.args.self.now r (g.D.Disk.state c.args.disk.now) (g.D.Disk.state c.read_part.new.disk) c.read_part.ensures.reads

pub returns-clause-reads : goal.returns-clause-reads
returns-clause-reads g c =
    let r = asking_of c.self.inside.at c.self.inside.passed c.self.inside.pages c.in-Some.ask c.args.self.now c.self.view_is c.in-Some.ensures.stands c.in-Some.ensures.some c.in-Some.ensures.left c.self.invariant.1 in
    counts_reads c.self.inside.at c.in-Some.ask c.args.self.now r (g.D.Disk.state c.args.disk.now) (g.D.Disk.state c.read_part.new.disk) c.read_part.ensures.reads

pub returns-in_err-read_part-clause-damaged : goal.returns-in_err-read_part-clause-damaged
returns-in_err-read_part-clause-damaged g c = λ is.
    let r = asking_of c.self.inside.at c.self.inside.passed c.self.inside.pages c.in-Some.ask c.args.self.now c.self.view_is c.in-Some.ensures.stands c.in-Some.ensures.some c.in-Some.ensures.left c.self.invariant.1 in
    let q = err_from_is_err_and c.from_residual.result c.from_residual.ensures.1 in
    counts_short c.self.inside.at c.in-Some.ask c.args.self.now r (g.D.Disk.state c.args.disk.now).seen (c.in_err-read_part.ensures.damaged (search (rules, is, q.1, q.2)))

pub returns-in_default-pass_page-clause-damaged : goal.returns-in_default-pass_page-clause-damaged
returns-in_default-pass_page-clause-damaged g c = λ _.
    let r = asking_of c.self.inside.at c.self.inside.passed c.self.inside.pages c.in-Some.ask c.args.self.now c.self.view_is c.in-Some.ensures.stands c.in-Some.ensures.some c.in-Some.ensures.left c.self.invariant.1 in
    let is = stands_as c.self.inside.at c.self.inside.passed c.self.inside.pages _ c.self.view_is c.in-Some.ensures.stands in
    let text : c.split_at.result.0.now ≡ take (4 * c.in-Some.ask.rows) c.read_part.new.buffer.items = c.split_at.ensures.front ∙ ap (take (4 * c.in-Some.ask.rows)) c.as_slice.ensures.value in
    none_told _ c.args.self.now c.split_at.result.0.now r.goes
    (counts_here c.self.inside.at c.in-Some.ask c.args.self.now r _ c.read_part.new.buffer.items c.split_at.result.0.now text c.in_ok-read_part.ensures.filled)
    (λ ns fit spelled fits. c.in_default-pass_page.ensures.none refl ns fit spelled (subst (λ (q : Paged). FitsPage q.pages (sum ns)) is fits))

pub returns-clause-behind : goal.returns-clause-behind
returns-clause-behind g c =
    let r = asking_of c.self.inside.at c.self.inside.passed c.self.inside.pages c.in-Some.ask c.args.self.now c.self.view_is c.in-Some.ensures.stands c.in-Some.ensures.some c.in-Some.ensures.left c.self.invariant.1 in
    let text : c.split_at.result.0.now ≡ take (4 * c.in-Some.ask.rows) c.read_part.new.buffer.items = c.split_at.ensures.front ∙ ap (take (4 * c.in-Some.ask.rows)) c.as_slice.ensures.value in
    let found = c.in-Some-pass_page.ensures.some in
    behind_told _ c.args.self.now _ _ c.split_at.result.0.now found.0 r.goes
    (counts_here c.self.inside.at c.in-Some.ask c.args.self.now r _ c.read_part.new.buffer.items c.split_at.result.0.now text c.in_ok-read_part.ensures.filled) found.1 found.2
    (passed_view c.self.inside.at c.self.inside.passed c.self.inside.pages _ _ _ c.self.view_is c.in-Some.ensures.stands found.4) (search rules)

pub returns-clause-after : goal.returns-clause-after
returns-clause-after g c =
    let found = c.in-Some-pass_page.ensures.some in
    (sum found.0, passed_view c.self.inside.at c.self.inside.passed c.self.inside.pages _ _ _ c.self.view_is c.in-Some.ensures.stands found.4)
