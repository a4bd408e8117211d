use Rattle.std.proofs.Common.{sym, subst, ◌∙◌}
use Rattle.segment_format.specs.Pages.{FitsPage}
use Rattle.segment_format.proofs.PagesLemmas.{sums_same}
use Rattle.segment_format.proofs.pages.PageReader.words_by.Goals as goal

pub returns-else-takes-clause-none : goal.returns-else-takes-clause-none
returns-else-takes-clause-none c = λ _ ns fit e fits.
    let found = c.sum_in-count.ensures in
    let same = sums_same ns found.0 fit found.1 (sym e ∙ found.2) ∙ sym found.3 in
    let yes = c.if-takes.ensures.no (subst (FitsPage c.args.self.now) same fits) in
    absurd cc
