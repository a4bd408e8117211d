use Rattle.std.proofs.Common.{ap, rules, refl, arith}
use Rattle.segment_pages.specs.Paged.{Paged}
use Rattle.search_walk.proofs.LoadedLemmas.{loaded_no_file, loaded_no_first, loaded_no_pages, loaded_no_room, loaded_opened}
use Rattle.search_walk.proofs.opening.open_segment.Goals as goal

pub returns-in_err-file-clause-none : goal.returns-in_err-file-clause-none
returns-in_err-file-clause-none g c = λ _ q. loaded_no_file q c.args.segment.now c.args.files.now (search rules)

pub returns-then-place-gt-MAX_MESSAGES-clause-none : goal.returns-then-place-gt-MAX_MESSAGES-clause-none
returns-then-place-gt-MAX_MESSAGES-clause-none g c = λ _ q. loaded_no_first q c.args.segment.now c.args.files.now (search rules)

pub returns-in_err-at-clause-none : goal.returns-in_err-at-clause-none
returns-in_err-at-clause-none g c = λ _ q. loaded_no_room q c.args.segment.now c.args.files.now (λ le. c.in_err-at.ensures.none refl (omega (arith, le, c.from.ensures)))

pub returns-in_err-pages-clause-none : goal.returns-in_err-pages-clause-none
returns-in_err-pages-clause-none g c = λ _ q.
    let e = c.in_ok-at.ensures.some in
    loaded_no_pages q c.args.segment.now c.args.files.now _ _ (omega (arith, e.0, c.from.ensures)) (omega (arith, e.1, c.from.ensures)) (c.in_err-pages.ensures.none refl)

pub returns-clause-some : goal.returns-clause-some
returns-clause-some g c = λ q.
    let e = c.in_ok-at.ensures.some in
    let p = c.in_ok-pages.ensures in
    loaded_opened q c.args.segment.now c.args.files.now _ _ _ _ _ _ (omega (arith, e.0, c.from.ensures)) (omega (arith, e.1, c.from.ensures)) c.in_ok-file.ensures p.first p.holds p.ticked

pub returns-clause-row : goal.returns-clause-row
returns-clause-row g c = ap (λ (x : Paged). x.pages.row) c.in_ok-pages.ensures.first
