use Rattle.std.proofs.Common.{rules, ◌≡◌, subst}
use Rattle.std.proofs.lemmas.Result.{err_from_is_err_and}
use Rattle.disk_journal.specs.Journal.{state_of}
use Rattle.disk_journal.specs.Calls.{HasEnded, HasPassed}
use Rattle.archive_open.specs.Shown.{RefusedAt}
use Rattle.archive_open.proofs.ReadLemmas.{walk_damaged_from}
use Rattle.archive_open.proofs.StepLemmas.{gate_read, load_refused, record_read, walk_damaged, walk_ended, walk_on, walk_refused}
use Rattle.archive_open.proofs.walk.keep_next.Goals as goal

pub returns-in_err-place-clause-ranges : goal.returns-in_err-place-clause-ranges
returns-in_err-place-clause-ranges g c =
    gate_read (g.K.KeepsRecords.kept c.args.keeping.now) (state_of c.args.journal.now) (state_of c.next_place.new.self) c.requires c.next_place.ensures.reads

pub returns-in_err-place-clause-damaged : goal.returns-in_err-place-clause-damaged
returns-in_err-place-clause-damaged g c = λ at is.
    let p = err_from_is_err_and c.from_residual.result c.from_residual.ensures.1 in
    walk_damaged (g.K.KeepsRecords.kept c.args.keeping.now) (state_of c.args.journal.now) (state_of c.next_place.new.self) c.requires c.next_place.ensures.reads
    at (c.in_err-place.ensures.damaged at (search (rules, is, p.1, p.2, walk_damaged_from)))

pub returns-in_default-clause-ranges : goal.returns-in_default-clause-ranges
returns-in_default-clause-ranges g c =
    gate_read (g.K.KeepsRecords.kept c.args.keeping.now) (state_of c.args.journal.now) (state_of c.next_place.new.self) c.requires c.next_place.ensures.reads

pub returns-in_default-clause-ended : goal.returns-in_default-clause-ended
returns-in_default-clause-ended g c = λ no.
    let ended : HasEnded (state_of c.args.journal.now) (state_of c.next_place.new.self) = search rules in
    walk_ended (g.K.KeepsRecords.kept c.args.keeping.now) (state_of c.args.journal.now) (state_of c.next_place.new.self) c.requires c.next_place.ensures.reads ended

pub returns-in_err-keep-clause-ranges : goal.returns-in_err-keep-clause-ranges
returns-in_err-keep-clause-ranges g c =
    let passed : HasPassed c.in-Some.place (state_of c.args.journal.now) (state_of c.next_place.new.self) = search rules in
    record_read (g.K.KeepsRecords.kept c.args.keeping.now) (state_of c.args.journal.now) (state_of c.next_place.new.self) c.requires c.next_place.ensures.reads
    c.in-Some.place passed (state_of c.keep.new.journal) c.keep.ensures.ranges

pub returns-in_err-keep-clause-damaged : goal.returns-in_err-keep-clause-damaged
returns-in_err-keep-clause-damaged g c = λ at is.
    load_refused (g.K.KeepsRecords.kept c.args.keeping.now) (state_of c.args.journal.now) (state_of c.next_place.new.self) c.requires c.next_place.ensures.reads
    at (c.keep.ensures.damaged at (search (rules, is)))

pub returns-then-not-branch-clause-ranges : goal.returns-then-not-branch-clause-ranges
returns-then-not-branch-clause-ranges g c =
    let passed : HasPassed c.in-Some.place (state_of c.args.journal.now) (state_of c.next_place.new.self) = search rules in
    record_read (g.K.KeepsRecords.kept c.args.keeping.now) (state_of c.args.journal.now) (state_of c.next_place.new.self) c.requires c.next_place.ensures.reads
    c.in-Some.place passed (state_of c.keep.new.journal) c.keep.ensures.ranges

pub returns-then-not-branch-clause-damaged : goal.returns-then-not-branch-clause-damaged
returns-then-not-branch-clause-damaged g c = λ at is.
    let passed : HasPassed c.in-Some.place (state_of c.args.journal.now) (state_of c.next_place.new.self) = search rules in
    let same : c.in-Some.place.at ≡ at = cc (is) in
    subst (λ n. RefusedAt n (g.D.Disk.state c.args.journal.now.disk.now).seen) same
    (walk_refused (g.K.KeepsRecords.kept c.args.keeping.now) (state_of c.args.journal.now) (state_of c.next_place.new.self) c.requires c.next_place.ensures.reads
    c.in-Some.place passed (c.in_ok-keep.ensures.refused (search rules)))

pub returns-clause-ranges : goal.returns-clause-ranges
returns-clause-ranges g c =
    let passed : HasPassed c.in-Some.place (state_of c.args.journal.now) (state_of c.next_place.new.self) = search rules in
    record_read (g.K.KeepsRecords.kept c.args.keeping.now) (state_of c.args.journal.now) (state_of c.next_place.new.self) c.requires c.next_place.ensures.reads
    c.in-Some.place passed (state_of c.keep.new.journal) c.keep.ensures.ranges

pub returns-clause-on : goal.returns-clause-on
returns-clause-on g c = λ yes.
    let passed : HasPassed c.in-Some.place (state_of c.args.journal.now) (state_of c.next_place.new.self) = search rules in
    walk_on (g.K.KeepsRecords.kept c.args.keeping.now) (state_of c.args.journal.now) (state_of c.next_place.new.self) c.requires c.next_place.ensures.reads
    c.in-Some.place passed (g.K.KeepsRecords.kept c.keep.new.self) (state_of c.keep.new.journal) c.keep.ensures.looks c.keep.ensures.stays
    (c.in_ok-keep.ensures.kept (search rules))
