use Rattle.std.proofs.Common.{ap, rules, ℕ, ◌+◌}
use Rattle.search_walk.specs.Held.{Named}
use Rattle.search_walk.proofs.AnswerLemmas.{on_err}
use Rattle.search_walk.proofs.LoadedLemmas.{loaded_first}
use Rattle.search_walk.proofs.PagesReadLemmas.{rests_same}
use Rattle.search_walk.proofs.SearchedLemmas.{barren_done, opened_done, opened_stops, unmatched_done}
use Rattle.search_walk.proofs.SegmentLemmas.{columns_read, left_none, nothing_read, of_none}
use Rattle.search_walk.proofs.segments.search_segment.Goals as goal

pub returns-then-is_barren-clause-reads : goal.returns-then-is_barren-clause-reads
returns-then-is_barren-clause-reads g c = λ p is. nothing_read _ _ c.args.context.now.files c.args.context.now.query _ _ _ (search rules)

pub returns-then-is_barren-clause-rests : goal.returns-then-is_barren-clause-rests
returns-then-is_barren-clause-rests g c = rests_same _

pub returns-then-is_barren-clause-done : goal.returns-then-is_barren-clause-done
returns-then-is_barren-clause-done g c = λ p is.
    let n : Named = c.args.context.now.names in
    let q = c.args.context.now.query in
    let w = c.args.work.now in
    let told = c.is_barren.ensures.told p is in
    barren_done (g.W.TakesPages.reaches w w n q) _ n c.args.context.now.files q p c.is_barren.result _ (λ all found tried. g.met.W.TakesPages.passes_over w n q all found tried)
    c.wide_is_wider.ensures.wider c.barren_has_no_match.ensures c.is_barren.ensures.searched told (search rules)

pub returns-in_err-finish-clause-rests : goal.returns-in_err-finish-clause-rests
returns-in_err-finish-clause-rests g c = rests_same _

pub returns-in_err-finish-clause-reads : goal.returns-in_err-finish-clause-reads
returns-in_err-finish-clause-reads g c = λ p is. nothing_read _ _ c.args.context.now.files c.args.context.now.query _ _ _ (search rules)

pub returns-in_err-finish-clause-stopped : goal.returns-in_err-finish-clause-stopped
returns-in_err-finish-clause-stopped g c = on_err c.from_residual.result _ (λ p is. of_none _ _ c.args.context.now.files _ _ (c.begin_segment.ensures.none (search rules) p is _ _))

pub returns-in_err-finish-clause-damaged : goal.returns-in_err-finish-clause-damaged
returns-in_err-finish-clause-damaged g c = λ _ _ p is. c.begin_segment.ensures.none (search rules) p is _ _

pub returns-in_default-clause-rests : goal.returns-in_default-clause-rests
returns-in_default-clause-rests g c = rests_same _

pub returns-in_default-clause-reads : goal.returns-in_default-clause-reads
returns-in_default-clause-reads g c = λ p is. nothing_read _ _ c.args.context.now.files c.args.context.now.query _ _ _ (search rules)

pub returns-in_default-clause-stopped : goal.returns-in_default-clause-stopped
returns-in_default-clause-stopped g c = λ p is. of_none _ _ c.args.context.now.files _ _ (c.begin_segment.ensures.none (search rules) p is _ _)

pub returns-in_default-clause-damaged : goal.returns-in_default-clause-damaged
returns-in_default-clause-damaged g c = λ _ _ p is. c.begin_segment.ensures.none (search rules) p is _ _

pub returns-in_err-read_pages-clause-reads : goal.returns-in_err-read_pages-clause-reads
returns-in_err-read_pages-clause-reads g c = λ p is.
    let n : Named = c.args.context.now.names in
    let own = c.in-Some.ensures.some p is in
    columns_read _ n c.args.context.now.files c.args.context.now.query p c.is_barren.result c.in-Some.pages _ _ (c.is_barren.ensures.told p is) (search rules) own.start own.size c.read_pages.ensures.reads

pub returns-in_err-read_pages-clause-stopped : goal.returns-in_err-read_pages-clause-stopped
returns-in_err-read_pages-clause-stopped g c =
    let n : Named = c.args.context.now.names in
    let q = c.args.context.now.query in
    on_err c.from_residual-in_err-read_pages.result _
    (λ p is.
    let own = c.in-Some.ensures.some p is in
    opened_stops (g.W.TakesPages.halts c.args.work.now c.read_pages.new.work n q) _ n c.args.context.now.files c.in-Some.file.now q p c.is_barren.result c.in-Some.pages c.as_slice-name.result.now _ _ _ (c.is_barren.ensures.told p is) (search rules) own.file
    (search rules) (ap (λ (k : ℕ). k + 1) (loaded_first q c.args.segment.now p is)) own.holds c.in_err-read_pages.ensures.went.stopped own.ticked)

pub returns-in_err-read_pages-clause-damaged : goal.returns-in_err-read_pages-clause-damaged
returns-in_err-read_pages-clause-damaged g c = λ damaged stands p is.
    left_none _ _ c.args.context.now.files p c.in-Some.pages (c.in-Some.ensures.some p is).holds (c.in_err-read_pages.ensures.went.damaged (search rules) stands)

pub returns-clause-reads : goal.returns-clause-reads
returns-clause-reads g c = λ p is.
    let n : Named = c.args.context.now.names in
    let own = c.in-Some.ensures.some p is in
    columns_read _ n c.args.context.now.files c.args.context.now.query p c.is_barren.result c.in-Some.pages _ _ (c.is_barren.ensures.told p is) (search rules) own.start own.size c.read_pages.ensures.reads

pub returns-clause-done : goal.returns-clause-done
returns-clause-done g c = λ p is.
    let n : Named = c.args.context.now.names in
    let q = c.args.context.now.query in
    let own = c.in-Some.ensures.some p is in
    opened_done (g.W.TakesPages.reaches c.args.work.now c.read_pages.new.work n q) _ n c.args.context.now.files c.in-Some.file.now q p c.is_barren.result c.in-Some.pages c.as_slice-name.result.now _ _ _ (c.is_barren.ensures.told p is) (search rules) own.file
    (search rules) (ap (λ (k : ℕ). k + 1) (loaded_first q c.args.segment.now p is)) own.holds c.in_ok-read_pages.ensures.went.done own.ticked

pub returns-then-not-may_match-clause-reads : goal.returns-then-not-may_match-clause-reads
returns-then-not-may_match-clause-reads g c = λ p is. nothing_read _ _ c.args.context.now.files c.args.context.now.query _ _ _ (search rules)

pub returns-then-not-may_match-clause-rests : goal.returns-then-not-may_match-clause-rests
returns-then-not-may_match-clause-rests g c = rests_same _

pub returns-then-not-may_match-clause-done : goal.returns-then-not-may_match-clause-done
returns-then-not-may_match-clause-done g c = λ p is.
    let n : Named = c.args.context.now.names in
    let q = c.args.context.now.query in
    let w = c.args.work.now in
    let none = c.may_match.ensures (search rules) p is in
    unmatched_done (g.W.TakesPages.reaches w w n q) _ n c.args.context.now.files q p c.is_barren.result _ _ (λ all found tried. g.met.W.TakesPages.passes_over w n q all found tried) c.wide_is_wider.ensures.wider (c.is_barren.ensures.told p is) (search rules)
    none (c.in-Some.ensures.some p is).ticked
