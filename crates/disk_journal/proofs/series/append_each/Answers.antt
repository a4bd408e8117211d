use Rattle.std.proofs.Common.{◌≡◌, ◌∙◌, List, ℕ, length, get_or, arith, refl, ap}
use Rattle.record_format.specs.declared.header.Header.{Header}
use Rattle.disk_journal.specs.Journal.{state_of}
use Rattle.disk_journal.specs.Series.{saved_all}
use Rattle.disk_journal.proofs.SeriesLemmas.{added_none, leaves_none, added_all, one_more, one_leaves, one_stopped, size_within}
use Rattle.disk_journal.proofs.series.append_each.Goals as goal

pub loop-text-init : goal.loop-text-init
loop-text-init g c =
    let j = state_of c.args.journal.now in
    let at_end = c.requires.at_end in
    record {
      goes_on = record { name = refl; header = refl; closed = at_end.closed; tells = refl; ranges = refl };
      added = added_none j at_end;
      moments = leaves_none (saved_all c.args.texts.now) j (g.met.D.Disk.lawful c.args.journal.now.disk.now) at_end;
      counts = refl;
    }

pub returns-clause-added : goal.returns-clause-added
returns-clause-added g c = added_all c.args.texts.now c.loop-text.text-index (state_of c.args.journal.now) (state_of c.loop-text.journal) c.loop-text-test.false c.loop-text.invariant.added

pub returns-in-Err-DiskFault-clause-stopped : goal.returns-in-Err-DiskFault-clause-stopped
returns-in-Err-DiskFault-clause-stopped g c =
    let inv = c.loop-text.invariant in
    one_stopped c.args.texts.now c.loop-text.text-index c.text-item.result c.as_slice.result.now c.loop-text-test.true (c.as_slice.ensures ∙ c.text-item.is)
    (state_of c.args.journal.now) (state_of c.loop-text.journal) inv.goes_on inv.added
    (state_of c.append.new.self) (g.met.D.Disk.lawful c.append.new.self.disk.now) c.in-Err-DiskFault.ensures.stays c.append.ensures.moments

pub returns-in-Err-DiskFault-clause-moments : goal.returns-in-Err-DiskFault-clause-moments
returns-in-Err-DiskFault-clause-moments g c =
    let inv = c.loop-text.invariant in
    one_leaves c.args.texts.now c.loop-text.text-index c.text-item.result c.as_slice.result.now c.loop-text-test.true (c.as_slice.ensures ∙ c.text-item.is)
    (state_of c.args.journal.now) (state_of c.loop-text.journal) inv.goes_on inv.added
    (state_of c.append.new.self) (g.met.D.Disk.lawful c.append.new.self.disk.now) inv.moments c.append.ensures.moments

pub unreachable-requires : goal.unreachable-requires
unreachable-requires g c =
    let full = (c.append.ensures.full c.in-Err-ArchiveFull.field-0-0 c.in-Err-ArchiveFull.field-0-1 cc).0 in
    let within = size_within c.args.texts.now c.loop-text.text-index c.text-item.result c.loop-text-test.true in
    let long : length c.as_slice.result.now ≡ length (get_or c.args.texts.now c.loop-text.text-index c.text-item.result) = ap (λ (l : List ℕ). length l) (c.as_slice.ensures ∙ c.text-item.is) in
    let limit : c.loop-text.journal.header.length_limit ≡ c.args.journal.now.header.length_limit = ap (λ (h : Header). h.length_limit) c.loop-text.invariant.goes_on.header in
    omega (arith, full.ends, full.needs, full.past, within, long, limit, c.loop-text.invariant.added.place, c.requires.room)

pub loop-text-preserved : goal.loop-text-preserved
loop-text-preserved g c =
    let inv = c.loop-text.invariant in
    let goes_on = c.append.ensures.goes_on in
    let is : c.as_slice.result.now ≡ get_or c.args.texts.now c.loop-text.text-index c.text-item.result = c.as_slice.ensures ∙ c.text-item.is in
    let old = state_of c.args.journal.now in
    let mid = state_of c.loop-text.journal in
    let new = state_of c.append.new.self in
    record {
      goes_on = record {
        name = goes_on.name ∙ inv.goes_on.name;
        header = goes_on.header ∙ inv.goes_on.header;
        closed = goes_on.closed;
        tells = goes_on.tells ∙ inv.goes_on.tells;
        ranges = goes_on.ranges ∙ inv.goes_on.ranges;
      };
      added = one_more c.args.texts.now c.loop-text.text-index c.text-item.result c.as_slice.result.now c.loop-text-test.true is old mid inv.goes_on inv.added new c.in-Ok.ensures.added;
      moments = one_leaves c.args.texts.now c.loop-text.text-index c.text-item.result c.as_slice.result.now c.loop-text-test.true is old mid inv.goes_on inv.added new (g.met.D.Disk.lawful c.append.new.self.disk.now) inv.moments c.append.ensures.moments;
      counts = c.in-Ok.ensures.counts.steady ∙ inv.counts;
    }
