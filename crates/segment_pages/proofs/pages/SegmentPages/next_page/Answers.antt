use Rattle.std.proofs.Common.{Bool, ◌≡◌, rules, sym, ap, subst, ◌∙◌, take}
use Rattle.std.proofs.lemmas.Result.{err_from_is_err_and}
use Rattle.segment_format.specs.Pages.{IsPage}
use Rattle.segment_pages.specs.Paged.{AreNextTold, HoldsNoneTold, paged}
use Rattle.segment_pages.specs.StepsLoaded.{passing}
use Rattle.segment_pages.proofs.ColumnLemmas.{stands_as}
use Rattle.segment_pages.proofs.PageLemmas.{malformed_told, next_told}
use Rattle.segment_pages.proofs.ReadLemmas.{format_damaged}
use Rattle.segment_pages.proofs.pages.SegmentPages.next_page.Goals as goal

pub returns-in_err-page-clause-damaged : goal.returns-in_err-page-clause-damaged
returns-in_err-page-clause-damaged g c = λ is.
    let q = err_from_is_err_and c.from_residual-in_err-page.result c.from_residual-in_err-page.ensures.1 in
    let none = c.in_err-page.ensures.malformed (search (rules, is, q.1, q.2, format_damaged)) in
    let text : c.split_at.result.0.now ≡ take c.in_ok-size.size c.load.new.buffer.items = c.split_at.ensures.front ∙ ap (take c.in_ok-size.size) c.as_slice.ensures.value in
    subst (HoldsNoneTold _) (sym (stands_as c.self.inside.at c.self.inside.passed c.self.inside.pages _ c.self.view_is c.in-Some.ensures.stands))
    (malformed_told _ (paged c.self.inside.at c.self.inside.pages) _ (record { left = c.in-Some.ensures.left; few = c.self.invariant.1 }) c.in_ok-size.ensures.loaded
    (λ rows page. none rows (subst (λ l. IsPage c.self.inside.pages l rows) (sym text) page)))

pub returns-clause-page : goal.returns-clause-page
returns-clause-page g c =
    let text : c.split_at.result.0.now ≡ take c.in_ok-size.size c.load.new.buffer.items = c.split_at.ensures.front ∙ ap (take c.in_ok-size.size) c.as_slice.ensures.value in
    let not = c.in-Some.ensures.stands in
    let later = ap (λ (b : Bool). paged c.self.inside.at (passing b c.fill_page.new.self)) (sym not) in
    subst (λ q. AreNextTold (g.D.Disk.state c.args.disk.now).seen c.args.self.now q c.in_ok-page.page.rows) later
    (subst (λ q. AreNextTold (g.D.Disk.state c.args.disk.now).seen q (paged c.self.inside.at c.fill_page.new.self) c.in_ok-page.page.rows) (sym (stands_as c.self.inside.at c.self.inside.passed c.self.inside.pages _ c.self.view_is not))
    (next_told _ (paged c.self.inside.at c.self.inside.pages) _ (take c.in_ok-size.size c.load.new.buffer.items) c.in_ok-page.page.rows (record { left = c.in-Some.ensures.left; few = c.self.invariant.1 }) c.in_ok-size.ensures.loaded
    (subst (λ l. IsPage c.self.inside.pages l c.in_ok-page.page.rows) text c.in_ok-page.ensures.page) (ap (paged c.self.inside.at) c.in_ok-page.ensures.after)))
