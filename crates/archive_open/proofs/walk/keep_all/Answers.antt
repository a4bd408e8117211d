use Rattle.std.proofs.Common.{rules, ◌≡◌, ◌≤◌, ◌+◌, ◌∙◌, arith, refl}
use Rattle.disk_journal.specs.Journal.{state_of}
use Rattle.archive_open.specs.StepsNext.{GoesOnTo}
use Rattle.archive_open.proofs.AsideLemmas.{spares_none, spares_on}
use Rattle.archive_open.proofs.OpenLemmas.{goes_first}
use Rattle.archive_open.proofs.ReadLemmas.{looks_on}
use Rattle.archive_open.proofs.walk.keep_all.Goals as goal

pub loop-init : goal.loop-init
loop-init g c =
    let j = state_of c.args.journal.now in
    record {
      looks = search rules;
      ranges = spares_none j.disk.seen j.disk.ranges;
      goes = goes_first (g.K.KeepsRecords.kept c.args.keeping.now) j c.requires.first c.requires.begins c.requires.none;
      sound = c.requires.sound;
      counts = refl;
      far = omega (arith, c.requires.first.place, c.requires.first.count);
      counted = omega arith;
    }

pub returns-in_err-keep_next-clause-ranges : goal.returns-in_err-keep_next-clause-ranges
returns-in_err-keep_next-clause-ranges g c =
    spares_on _ _ _ _ _ c.loop.invariant.looks.rests.seen c.loop.invariant.ranges c.keep_next.ensures.ranges

pub returns-then-not-branch-clause-ranges : goal.returns-then-not-branch-clause-ranges
returns-then-not-branch-clause-ranges g c =
    spares_on _ _ _ _ _ c.loop.invariant.looks.rests.seen c.loop.invariant.ranges c.keep_next.ensures.ranges

pub loop-preserved : goal.loop-preserved
loop-preserved g c =
    let old = state_of c.args.journal.now in
    let mid = state_of c.loop.journal in
    let new = state_of c.keep_next.new.journal in
    let inv = c.loop.invariant in
    let on : GoesOnTo mid (g.K.KeepsRecords.kept c.keep_next.new.keeping) new = c.in_ok-keep_next.ensures.on (search rules) in
    let count : c.keep_next.new.journal.count ≡ c.loop.journal.count + 1 = on.count in
    let place : c.loop.journal.place + 10 ≤ c.keep_next.new.journal.place = on.place in
    record {
      looks = looks_on old mid new inv.looks c.keep_next.ensures.looks;
      ranges = spares_on old.disk.seen mid.disk.seen old.disk.ranges mid.disk.ranges new.disk.ranges inv.looks.rests.seen inv.ranges c.keep_next.ensures.ranges;
      goes = on.goes;
      counts = c.in_ok-keep_next.ensures.counts.steady ∙ inv.counts;
      sound = c.in_ok-keep_next.ensures.sound inv.sound;
      far = omega (arith, count, place, inv.far);
      counted = omega (arith, count, inv.counted);
    }

pub unreachable-requires : goal.unreachable-requires
unreachable-requires g c =
    let fits = c.gate_of-above_the_count.type_inv in
    omega (arith, c.loop-test.false, c.loop.invariant.counted, c.loop.invariant.far, c.gate_of-above_the_count.ensures, fits)
