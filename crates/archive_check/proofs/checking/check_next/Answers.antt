use Rattle.std.proofs.Common.{rules, ◌≡◌, Err, ◌∙◌, ap, arith, drop, subst, take}
use Rattle.std.specs.Prelude.{IfSome}
use Rattle.archive_core.proofs.RowsLemmas.{at_some}
use Rattle.check_meaning.specs.Checked.{DamagedAt}
use Rattle.archive_check.specs.Taken.{Takes, TakesNone}
use Rattle.archive_check.proofs.CheckLemmas.{damage_told, refused_told, taken_told, untold}
use Rattle.archive_check.proofs.checking.check_next.Goals as goal

pub returns-in-Err-clause-damaged : goal.returns-in-Err-clause-damaged
returns-in-Err-clause-damaged g c = λ at is.
    let old = c.args.journal.now in
    let why = c.of_walk.ensures.damaged at (search (rules, is)) in
    let damage = c.in-Err.ensures.damaged at (ap Err why) in
    damage_told (g.D.Disk.state old.disk.now).seen old.header old.place old.count at c.args.judge.now c.requires damage.here damage.damaged

pub returns-in-Err-load-clause-damaged : goal.returns-in-Err-load-clause-damaged
returns-in-Err-load-clause-damaged g c = λ at is.
    let why = c.of_load.ensures.damaged at (search (rules, is)) in
    let fewer = c.in-Err-load.ensures.damaged at (ap Err why) in
    subst (λ t. IfSome t (DamagedAt at)) c.in-Ok.ensures.reads.rests.seen (untold (g.D.Disk.state c.next_place.new.self.disk.now).seen (DamagedAt at) fewer.untold)

pub returns-in-Ok-take-clause-checked : goal.returns-in-Ok-take-clause-checked
returns-in-Ok-take-clause-checked g c =
    let old = c.args.journal.now in
    let found = c.in-Some.record in
    let text = c.in-Ok-load.payload in
    let passed = at_some c.in-Ok.next _ found c.in-Ok.ensures.passed c.in-Some.is in
    let reads = c.in-Ok.ensures.reads in
    let loads = c.in-Ok-load.ensures in
    let loaded = subst (λ t. IfSome t (λ bytes. text ≡ take found.length (drop found.payload bytes))) reads.rests.seen loads.loaded.these in
    let takes = subst (λ p. Takes c.args.judge.now found.kind p c.take.new.judge) c.as_slice.ensures c.in-Ok-take.ensures.taken in
    taken_told (g.D.Disk.state old.disk.now).seen (g.D.Disk.state c.load.new.self.disk.now).seen old.header c.load.new.self.header old.place old.count found.at found.payload found.kind
    found.length c.load.new.self.place c.load.new.self.count c.args.judge.now c.take.new.judge text c.requires passed.found loaded (omega (arith, passed.at, passed.payload)) loads.loaded.size takes
    (loads.reads.rests.seen ∙ reads.rests.seen) (loads.reads.header ∙ reads.header) (loads.stays.place ∙ passed.place) (loads.stays.count ∙ passed.count)

pub returns-clause-damaged : goal.returns-clause-damaged
returns-clause-damaged g c = λ at is.
    let old = c.args.journal.now in
    let found = c.in-Some.record in
    let text = c.in-Ok-load.payload in
    let passed = at_some c.in-Ok.next _ found c.in-Ok.ensures.passed c.in-Some.is in
    let loads = c.in-Ok-load.ensures in
    let loaded = subst (λ t. IfSome t (λ bytes. text ≡ take found.length (drop found.payload bytes))) c.in-Ok.ensures.reads.rests.seen loads.loaded.these in
    let why = c.of_judge.ensures.damaged at (search (rules, is)) in
    let none = subst (λ p. TakesNone c.args.judge.now found.kind p) c.as_slice.ensures (c.in-Err-take.ensures.illegal (ap Err why.1)) in
    refused_told (g.D.Disk.state old.disk.now).seen old.header old.place old.count at found.payload found.kind found.length c.args.judge.now text c.requires passed.found loaded
    (omega (arith, passed.at, passed.payload)) loads.loaded.size (why.0 ∙ passed.at) none
