use Rattle.std.proofs.Common.{rules, refl, ◌≡◌, subst, sym}
use Rattle.std.proofs.lemmas.Result.{err_from_is_err_and}
use Rattle.archive_open.proofs.HeadLemmas.{fixed_ranges, not_fixed, too_long, too_short}
use Rattle.archive_open.proofs.ReadLemmas.{load_damaged}
use Rattle.archive_open.proofs.TakenLemmas.{head_reads_of, none_without_head}
use Rattle.archive_open.specs.Walk.{KeepsTold}
use Rattle.archive_places.specs.Fronts.{fixed_in}
use Rattle.archive_places.specs.StepsPlaced.{Placing, PlacesOf, placing_of, with_segment}
use Rattle.archive_places.proofs.PlacedLemmas.{IsFrontAt, no_segment, segment_placed}
use Rattle.archive_places.proofs.keeping.keep_segment.Goals as goal

pub returns-then-place-lt-FIXED_LEN-clause-refused : goal.returns-then-place-lt-FIXED_LEN-clause-refused
returns-then-place-lt-FIXED_LEN-clause-refused g c = λ no. none_without_head c.args.place _ (PlacesOf (placing_of c.args.opening.now)) c.requires.kind (too_short c.args.place _ c.requires.whole (search rules))

pub returns-in_err-bytes-clause-ranges : goal.returns-in_err-bytes-clause-ranges
returns-in_err-bytes-clause-ranges g c = head_reads_of c.args.place _ _ _ c.requires.kind (fixed_ranges c.args.place _ (g.D.Disk.state c.args.journal.now.disk.now) (g.D.Disk.state c.load.new.self.disk.now) c.load.ensures.reads.ranges)

pub returns-in_err-bytes-clause-damaged : goal.returns-in_err-bytes-clause-damaged
returns-in_err-bytes-clause-damaged g c = λ at is.
    let p = err_from_is_err_and c.from_residual.result c.from_residual.ensures.1 in
    (c.in_err-bytes.ensures.damaged at (search (rules, is, p.1, p.2, load_damaged))).untold

pub returns-in_default-clause-ranges : goal.returns-in_default-clause-ranges
returns-in_default-clause-ranges g c = head_reads_of c.args.place _ _ _ c.requires.kind (fixed_ranges c.args.place _ (g.D.Disk.state c.args.journal.now.disk.now) (g.D.Disk.state c.load.new.self.disk.now) c.load.ensures.reads.ranges)

pub returns-in_default-clause-refused : goal.returns-in_default-clause-refused
returns-in_default-clause-refused g c = λ no.
    none_without_head c.args.place _ (PlacesOf (placing_of c.args.opening.now)) c.requires.kind (not_fixed c.args.place _ c.as_slice.result.now c.requires.whole (search rules) (c.in_default.ensures.none refl))

pub returns-then-head_len-place-clause-ranges : goal.returns-then-head_len-place-clause-ranges
returns-then-head_len-place-clause-ranges g c = head_reads_of c.args.place _ _ _ c.requires.kind (fixed_ranges c.args.place _ (g.D.Disk.state c.args.journal.now.disk.now) (g.D.Disk.state c.load.new.self.disk.now) c.load.ensures.reads.ranges)

pub returns-then-head_len-place-clause-refused : goal.returns-then-head_len-place-clause-refused
returns-then-head_len-place-clause-refused g c = λ no.
    none_without_head c.args.place _ (PlacesOf (placing_of c.args.opening.now)) c.requires.kind
    (too_long c.args.place _ c.as_slice.result.now c.head_len.result c.requires.whole (search rules) (fixed_in c.in-Some.front, c.in-Some.ensures.fits, c.in-Some.ensures.spelled, c.head_len.ensures) (search rules))

pub returns-in_err-add_segment-clause-ranges : goal.returns-in_err-add_segment-clause-ranges
returns-in_err-add_segment-clause-ranges g c = head_reads_of c.args.place _ _ _ c.requires.kind (fixed_ranges c.args.place _ (g.D.Disk.state c.args.journal.now.disk.now) (g.D.Disk.state c.load.new.self.disk.now) c.load.ensures.reads.ranges)

pub returns-clause-ranges : goal.returns-clause-ranges
returns-clause-ranges g c = head_reads_of c.args.place _ _ _ c.requires.kind (fixed_ranges c.args.place _ (g.D.Disk.state c.args.journal.now.disk.now) (g.D.Disk.state c.load.new.self.disk.now) c.load.ensures.reads.ranges)

pub returns-clause-kept : goal.returns-clause-kept
returns-clause-kept g c = λ yes.
    let seen = (g.D.Disk.state c.args.journal.now.disk.now).seen in
    let old : Placing = placing_of c.args.opening.now in
    let front = c.in-Some.front in
    let e = c.in-Some.ensures in
    let added = c.in_ok-add_segment.ensures in
    let at : IsFrontAt c.args.place seen front = record {
      whole = c.requires.whole;
      kind = c.requires.kind;
      long = search rules;
      text = c.as_slice.result.now;
      these = search rules;
      at = e.place.0;
      payload = e.place.1;
      size = e.place.2;
      fits = e.fits;
      spells = e.spelled;
    } in
    let added_to : Placing = record old { files = c.add_segment.new.files.items; segments = c.add_segment.new.segments.items } in
    let new : added_to ≡ with_segment front old = λ i. record old { files = added.files yes i; segments = added.segments yes i } in
    subst (λ (p : Placing). KeepsTold c.args.place seen (PlacesOf old) (PlacesOf p)) (sym new) (segment_placed c.args.place seen front old at)

pub returns-clause-refused : goal.returns-clause-refused
returns-clause-refused g c = λ no.
    let seen = (g.D.Disk.state c.args.journal.now.disk.now).seen in
    let front = c.in-Some.front in
    let e = c.in-Some.ensures in
    let at : IsFrontAt c.args.place seen front = record {
      whole = c.requires.whole;
      kind = c.requires.kind;
      long = search rules;
      text = c.as_slice.result.now;
      these = search rules;
      at = e.place.0;
      payload = e.place.1;
      size = e.place.2;
      fits = e.fits;
      spells = e.spelled;
    } in
    no_segment c.args.place seen front (placing_of c.args.opening.now) at (c.in_ok-add_segment.ensures.refused no)
