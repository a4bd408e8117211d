use Rattle.std.proofs.Common.{rules, ◌≡◌, ℕ, ◌+◌, ◌≤◌, List, length, get_or, set, ◌∙◌, ap, arith, subst, sym}
use Rattle.archive_meaning.specs.declared.entry.SegmentEntry.{SegmentEntry}
use Rattle.archive_meaning.specs.declared.entry.JournalEntry.TheVariants.{Segment}
use Rattle.archive_meaning.specs.declared.sums.FileSum.{FileSum}
use Rattle.archive_meaning.specs.Spelled.{record_of}
use Rattle.archive_meaning.specs.Sums.{AddsRows, Admits, Sums, end_with, no_messages, sum_with}
use Rattle.archive_core.specs.Part.{segment_of}
use Rattle.archive_core.specs.Rows.{AreMessages}
use Rattle.archive_core.proofs.RowsLemmas.{at_none, at_some}
use Rattle.archive_core.proofs.SegmentLemmas.{adds_rows, ends_of, other_default, same_sum}
use Rattle.archive_core.proofs.judge.Judge.admit_segment.Goals as goal

pub returns-in_default-clause-illegal : goal.returns-in_default-clause-illegal
returns-in_default-clause-illegal g c = λ is more admits.
    let rows = g.R.Rows.rows c.args.rows.now in
    let inside = c.self.inside in
    let messages : List (List ℕ) = admits.0.1.0 in
    let there = subst (λ (s : Sums). AreMessages s.header.version s.types s.words rows messages) (sym c.self.view_is) (admits.0.1.1.canonical, admits.0.1.1.each) in
    let here = subst (λ v. AreMessages v inside.books.types.texts inside.books.words.texts rows messages) (sym c.self.invariant.same_version) there in
    at_none c.in_ok-found.found _ c.in_ok-found.ensures.none c.in_default.is messages here

pub returns-then-not-ends_well-clause-illegal : goal.returns-then-not-ends_well-clause-illegal
returns-then-not-ends_well-clause-illegal g c = λ is more admits.
    let rows = g.R.Rows.rows c.args.rows.now in
    let inside = c.self.inside in
    let types = inside.books.types.texts in
    let words = inside.books.words.texts in
    let file = c.args.part.file in
    let segment : SegmentEntry = segment_of c.args.part rows in
    let messages : List (List ℕ) = admits.0.1.0 in
    let sum : c.index-sum.result.now ≡ get_or inside.files.items file no_messages = other_default inside.files.items file c.index-sum.result.now no_messages (search rules) c.index-sum.ensures in
    let there = subst (λ (s : Sums). AddsRows s.header.version (get_or s.files file no_messages) s.types s.words segment messages) (sym c.self.view_is) admits.0.1.1 in
    let here = subst (λ v. AddsRows v (get_or inside.files.items file no_messages) types words segment messages) (sym c.self.invariant.same_version) there in
    let adds = subst (λ (x : FileSum). AddsRows inside.books.version x types words segment messages) (sym sum) here in
    let found = at_some c.in_ok-found.found _ c.in-Some.open_end c.in_ok-found.ensures.some c.in-Some.is in
    let ends = ends_of inside.books.version c.index-sum.result.now types words c.args.part rows messages found.0 c.in-Some.open_end adds found.1 found.2 in
    cc (c.ends_well.ensures.1 ends, c.if-not-ends_well.true)

pub returns-clause-admitted : goal.returns-clause-admitted
returns-clause-admitted g c =
    let rows = g.R.Rows.rows c.args.rows.now in
    let inside = c.self.inside in
    let types = inside.books.types.texts in
    let words = inside.books.words.texts in
    let file = c.args.part.file in
    let segment : SegmentEntry = segment_of c.args.part rows in
    let old : Sums = record { header = inside.header; types = types; words = words; files = inside.files.items; end = inside.end } in
    let sum : c.index-sum.result.now ≡ get_or inside.files.items file no_messages = other_default inside.files.items file c.index-sum.result.now no_messages (search rules) c.index-sum.ensures in
    let found = at_some c.in_ok-found.found _ c.in-Some.open_end c.in_ok-found.ensures.some c.in-Some.is in
    let here = adds_rows inside.books.version c.index-sum.result.now types words c.args.part rows found.0 c.in-Some.open_end (c.may_follow.ensures.0 (search rules)) c.fit.ensures found.1 found.2
    (c.ends_well.ensures.0 (search rules)) in
    let named = subst (λ v. AddsRows v c.index-sum.result.now types words segment found.0) c.self.invariant.same_version here in
    let adds = subst (λ (x : FileSum). AddsRows inside.header.version x types words segment found.0) sum named in
    let long : c.args.payload ≡ length (record_of types (Segment segment)).payload = subst (λ (s : Sums). c.args.payload ≡ length (record_of s.types (Segment segment)).payload) (sym c.self.view_is) c.requires in
    let end : inside.end + (10 + c.args.payload) ≡ end_with old (Segment segment) = omega (arith, long) in
    let now : FileSum = record { messages = c.index-sum.result.now.messages + c.count.result; whole = c.args.part.last; open_end = c.in-Some.open_end } in
    let placed : now ≡ sum_with (get_or inside.files.items file no_messages) segment found.0 =
    same_sum c.index-sum.result.now c.args.part rows found.0 c.count.result c.in-Some.open_end c.count.ensures found.2 ∙ ap (λ (x : FileSum). sum_with x segment found.0) sum in
    let files : set inside.files.items file now ≡ set inside.files.items file (sum_with (get_or inside.files.items file no_messages) segment found.0) = ap (λ (x : FileSum). set inside.files.items file x) placed in
    let new : Sums = record { header = inside.header; types = types; words = words; files = set inside.files.items file now; end = inside.end + (10 + c.args.payload) } in
    let same : new ≡ record old { files = set old.files file (sum_with (get_or old.files file no_messages) segment found.0); end = end_with old (Segment segment) } =
    λ i. record { header = inside.header; types = types; words = words; files = files i; end = end i } in
    let room : new.end ≤ old.header.length_limit = search rules in
    subst (λ (s : Sums). Admits s (Segment segment) new) c.self.view_is ((search rules, (found.0, adds, same)), room)
