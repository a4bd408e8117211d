use Rattle.std.proofs.Common.{◌≡◌, ◌∙◌, refl, rules, subst}
use Rattle.std.specs.Prelude.{Err, IsErrOf}
use Rattle.std.proofs.lemmas.Result.{err_from_is_err_and}
use Rattle.log_seams.proofs.MomentLemmas.{rests_on}
use Rattle.segment_pages.specs.declared.refusal.PageRefusal.{PageRefusal}
use Rattle.segment_pages.specs.Paged.{AreNextTold, HoldsNoneTold}
use Rattle.row_rename.proofs.PathLemmas.{path_none, path_then}
use Rattle.archive_merge.specs.declared.stop.Stop.TheVariants.{SecondDamaged}
use Rattle.archive_merge.specs.Stops.{stop_by_page}
use Rattle.archive_merge.proofs.HandLemmas.{marks_then}
use Rattle.log_seams.proofs.ReadsLemmas.{rests_same}
use Rattle.archive_merge.proofs.SegmentLemmas.{named_none, named_then, page_damaged, way_done, way_first, way_named, way_none, way_not, way_on}
use Rattle.archive_merge.proofs.segment.take_segment.Goals as goal

pub returns-in_default-clause-damaged : goal.returns-in_default-clause-damaged
returns-in_default-clause-damaged g c = λ is bytes told may. c.in_default.ensures.none refl bytes may.rows may.holds

pub loop-pages-init : goal.loop-pages-init
loop-pages-init g c = record {
  rests = rests_same (g.E.Disk.state c.args.disk.now);
  version = refl;
  named = named_none _ _ _ _ _ c.requires.serves;
  path = path_none g.N.Namer.naming _;
  marks = search rules;
  way = way_first _ _ _ _ _ _ _ c.in-Some.pages c.in-Some.ensures.first c.in-Some.ensures.holds;
  few = search rules;
  disk = refl;
}

pub returns-in_err-page-clause-damaged : goal.returns-in_err-page-clause-damaged
returns-in_err-page-clause-damaged g c = λ same bytes told may.
    let refusal = c.in_err-page.field-0.0 in
    let p = err_from_is_err_and c.from_residual.result c.from_residual.ensures.1 in
    let made : stop_by_page refusal ≡ SecondDamaged = cc (p.1, p.2, same) in
    let damaged : refusal ≡ PageRefusal.Damaged = page_damaged refusal made in
    let was : c.next_page.result ≡ Err refusal = c.in_err-page.was in
    let refused : IsErrOf c.next_page.result PageRefusal.Damaged = cc (was, damaged) in
    let none = subst (λ s. HoldsNoneTold s c.loop-pages.pages) c.loop-pages.invariant.rests.seen (c.next_page.ensures.damaged refused) in
    way_none _ _ _ _ _ _ _ c.loop-pages.pages _ c.loop-pages.hand c.loop-pages.open_end bytes told none c.loop-pages.invariant.way may

pub returns-in_err-open_end-clause-named : goal.returns-in_err-open_end-clause-named
returns-in_err-open_end-clause-named g c =
    let now = c.loop-pages in
    let next = subst (λ s. AreNextTold s now.pages c.next_page.new.self c.in_ok-page.page.rows) now.invariant.rests.seen c.in_ok-page.ensures.page in
    named_then _ _ _ _ _ _ _ _ now.invariant.named (way_named _ _ _ _ _ _ _ now.pages c.next_page.new.self _ c.in_ok-page.page.rows now.hand now.open_end _ _ _ next now.invariant.way c.take_page.ensures.named)

pub returns-in_err-open_end-clause-namer : goal.returns-in_err-open_end-clause-namer
returns-in_err-open_end-clause-namer g c =
    (c.take_page.ensures.namer.0 ∙ c.loop-pages.invariant.version, path_then g.N.Namer.naming _ _ _ c.loop-pages.invariant.path c.take_page.ensures.namer.1)

pub returns-in_err-open_end-clause-damaged : goal.returns-in_err-open_end-clause-damaged
returns-in_err-open_end-clause-damaged g c = λ same bytes told may.
    let refusal = c.in_err-open_end.field-0.0 in
    let p = err_from_is_err_and c.from_residual-in_err-open_end.result c.from_residual-in_err-open_end.ensures.1 in
    let was : c.take_page.result ≡ Err refusal = c.in_err-open_end.was in
    let refused : IsErrOf c.take_page.result SecondDamaged = cc (p.1, p.2, same, was) in
    let next = subst (λ s. AreNextTold s c.loop-pages.pages c.next_page.new.self c.in_ok-page.page.rows) c.loop-pages.invariant.rests.seen c.in_ok-page.ensures.page in
    way_not _ _ _ _ _ _ _ c.loop-pages.pages c.next_page.new.self _ c.in_ok-page.page.rows c.loop-pages.hand c.loop-pages.open_end bytes told next (c.take_page.ensures.damaged refused) c.loop-pages.invariant.way may

pub loop-pages-preserved : goal.loop-pages-preserved
loop-pages-preserved g c =
    let now = c.loop-pages in
    let next = subst (λ s. AreNextTold s now.pages c.next_page.new.self c.in_ok-page.page.rows) now.invariant.rests.seen c.in_ok-page.ensures.page in
    let named = named_then _ _ _ _ _ _ _ _ now.invariant.named (way_named _ _ _ _ _ _ _ now.pages c.next_page.new.self _ c.in_ok-page.page.rows now.hand now.open_end _ _ _ next now.invariant.way c.take_page.ensures.named) in
    record {
      rests = rests_on _ _ _ now.invariant.rests c.in_ok-page.ensures.reads.rests;
      version = c.take_page.ensures.namer.0 ∙ now.invariant.version;
      named = record { more = named.more; serves = record { version_is = named.serves.version_is; judge_is = named.serves.judge_is; tables_are = named.serves.tables_are } };
      path = path_then g.N.Namer.naming _ _ _ now.invariant.path c.take_page.ensures.namer.1;
      marks = marks_then _ _ _ now.invariant.marks c.take_page.ensures.marks;
      way = way_on _ _ _ _ _ _ _ now.pages c.next_page.new.self _ _ c.in_ok-page.page.rows now.hand c.take_page.new.hand now.open_end c.in_ok-open_end.open_end next c.in_ok-page.ensures.after c.in_ok-page.ensures.count c.in_ok-open_end.ensures.taken now.invariant.way;
      few = now.invariant.few;
      disk = c.in_ok-page.ensures.counts.steady ∙ now.invariant.disk;
    }

pub returns-clause-taken : goal.returns-clause-taken
returns-clause-taken g c = way_done _ _ _ _ _ _ _ c.loop-pages.pages _ c.loop-pages.hand c.loop-pages.open_end c.none_are_left.ensures (search rules) c.loop-pages.invariant.way
