use Rattle.std.proofs.Common.{ℕ, List, [], ◌∷◌, ◌++◌, length, sym, ap, subst, None, ◌≡◌}
use Rattle.disk_journal.specs.Record.{saved_of}
use Rattle.disk_journal.specs.Journal.{state_of}
use Rattle.disk_seal.specs.Told.{entry_of}
use Rattle.log_seams.specs.Disk.{LeavesOnly}
use Rattle.disk_seal.specs.View.{StoreView, state_by, journal_of, Image}
use Rattle.disk_seal.specs.Adding.{CanAdd, front_of, HasOneMore, HasStopped}
use Rattle.disk_seal.proofs.KeptLemmas.{leaves_one, kept_added, has_one_more, kept_stopped, has_stopped, carry}
use Rattle.disk_seal.proofs.store.Store.add.Goals as goal

pub invariant_of-self : goal.invariant_of-self
invariant_of-self g c =
    let runs : c.self.inside.stopped ≡ None = subst (λ (v : StoreView _). v.stopped ≡ None) (sym c.self.view_is) c.requires.runs in
    let can = subst (λ (v : StoreView _). CanAdd c.as_slice.result.now c.args.types c.args.words (front_of (state_by g.D.Disk.state v))) (sym c.self.view_is)
    (subst (λ (x : List ℕ). CanAdd x c.args.types c.args.words (front_of (state_by g.D.Disk.state c.args.self.now))) (sym c.as_slice.ensures) c.requires.can) in
    kept_added _ c.self.invariant runs (saved_of c.as_slice.result.now) can.next (state_of c.append.new.self) (g.met.D.Disk.lawful c.append.new.self.disk.now) c.append.ensures.goes_on c.append.ensures.moments
    _ c.args.types c.args.words c.in-Ok.ensures.added c.append.ensures.counts.later can.of_types can.of_words

pub invariant_of-self-in-Err-DiskFault : goal.invariant_of-self-in-Err-DiskFault
invariant_of-self-in-Err-DiskFault g c =
    let runs : c.self.inside.stopped ≡ None = subst (λ (v : StoreView _). v.stopped ≡ None) (sym c.self.view_is) c.requires.runs in
    let can = subst (λ (v : StoreView _). CanAdd c.as_slice.result.now c.args.types c.args.words (front_of (state_by g.D.Disk.state v))) (sym c.self.view_is)
    (subst (λ (x : List ℕ). CanAdd x c.args.types c.args.words (front_of (state_by g.D.Disk.state c.args.self.now))) (sym c.as_slice.ensures) c.requires.can) in
    kept_stopped _ c.self.invariant runs (saved_of c.as_slice.result.now) can.next (state_of c.append.new.self) (g.met.D.Disk.lawful c.append.new.self.disk.now) c.append.ensures.goes_on c.append.ensures.moments
    c.in-Err-DiskFault.ensures.stays c.append.ensures.counts.later (c.append.ensures.counts.failed (cc (c.in-Err-DiskFault.is))) c.faults.result c.faults.ensures

pub returns-in-Ok-clause-moments : goal.returns-in-Ok-clause-moments
returns-in-Ok-clause-moments g c =
    let st = g.D.Disk.state in let now = c.args.self.now in
    let runs : c.self.inside.stopped ≡ None = subst (λ (v : StoreView _). v.stopped ≡ None) (sym c.self.view_is) c.requires.runs in
    let can = subst (λ (v : StoreView _). CanAdd c.as_slice.result.now c.args.types c.args.words (front_of (state_by g.D.Disk.state v))) (sym c.self.view_is)
    (subst (λ (x : List ℕ). CanAdd x c.args.types c.args.words (front_of (state_by g.D.Disk.state c.args.self.now))) (sym c.as_slice.ensures) c.requires.can) in
    subst (λ (x : List ℕ). LeavesOnly (st now.disk) (st c.append.new.self.disk.now) (Image (state_by st now) now.count (journal_of (state_by st now) ++ entry_of (saved_of x) ∷ []))) c.as_slice.ensures
    (subst (λ (v : StoreView _). LeavesOnly (st v.disk) (st c.append.new.self.disk.now) (Image (state_by st v) v.count (journal_of (state_by st v) ++ entry_of (saved_of c.as_slice.result.now) ∷ []))) c.self.view_is
    (leaves_one _ c.self.invariant runs (saved_of c.as_slice.result.now) can.next (state_of c.append.new.self) c.append.ensures.moments))

pub returns-in-Err-DiskFault-clause-moments : goal.returns-in-Err-DiskFault-clause-moments
returns-in-Err-DiskFault-clause-moments g c =
    let st = g.D.Disk.state in let now = c.args.self.now in
    let runs : c.self.inside.stopped ≡ None = subst (λ (v : StoreView _). v.stopped ≡ None) (sym c.self.view_is) c.requires.runs in
    let can = subst (λ (v : StoreView _). CanAdd c.as_slice.result.now c.args.types c.args.words (front_of (state_by g.D.Disk.state v))) (sym c.self.view_is)
    (subst (λ (x : List ℕ). CanAdd x c.args.types c.args.words (front_of (state_by g.D.Disk.state c.args.self.now))) (sym c.as_slice.ensures) c.requires.can) in
    subst (λ (x : List ℕ). LeavesOnly (st now.disk) (st c.append.new.self.disk.now) (Image (state_by st now) now.count (journal_of (state_by st now) ++ entry_of (saved_of x) ∷ []))) c.as_slice.ensures
    (subst (λ (v : StoreView _). LeavesOnly (st v.disk) (st c.append.new.self.disk.now) (Image (state_by st v) v.count (journal_of (state_by st v) ++ entry_of (saved_of c.as_slice.result.now) ∷ []))) c.self.view_is
    (leaves_one _ c.self.invariant runs (saved_of c.as_slice.result.now) can.next (state_of c.append.new.self) c.append.ensures.moments))

pub returns-in-Ok-clause-added : goal.returns-in-Ok-clause-added
returns-in-Ok-clause-added g c =
    let st = g.D.Disk.state in let now = c.args.self.now in
    let runs : c.self.inside.stopped ≡ None = subst (λ (v : StoreView _). v.stopped ≡ None) (sym c.self.view_is) c.requires.runs in
    let can = subst (λ (v : StoreView _). CanAdd c.as_slice.result.now c.args.types c.args.words (front_of (state_by g.D.Disk.state v))) (sym c.self.view_is)
    (subst (λ (x : List ℕ). CanAdd x c.args.types c.args.words (front_of (state_by g.D.Disk.state c.args.self.now))) (sym c.as_slice.ensures) c.requires.can) in
    carry _ _ (state_by st now) c.as_slice.result.now c.args.framed.now (λ o y t. HasOneMore (length y) c.args.types c.args.words (entry_of (saved_of y)) o t) (ap (state_by st) c.self.view_is) c.as_slice.ensures
    (has_one_more _ c.self.invariant runs (saved_of c.as_slice.result.now) can.next (state_of c.append.new.self) (g.met.D.Disk.lawful c.append.new.self.disk.now) c.append.ensures.goes_on c.append.ensures.moments
    _ c.args.types c.args.words c.in-Ok.ensures.added c.append.ensures.counts.later can.of_types can.of_words)

pub returns-in-Err-DiskFault-clause-stopped : goal.returns-in-Err-DiskFault-clause-stopped
returns-in-Err-DiskFault-clause-stopped g c =
    let st = g.D.Disk.state in let now = c.args.self.now in
    let runs : c.self.inside.stopped ≡ None = subst (λ (v : StoreView _). v.stopped ≡ None) (sym c.self.view_is) c.requires.runs in
    let can = subst (λ (v : StoreView _). CanAdd c.as_slice.result.now c.args.types c.args.words (front_of (state_by g.D.Disk.state v))) (sym c.self.view_is)
    (subst (λ (x : List ℕ). CanAdd x c.args.types c.args.words (front_of (state_by g.D.Disk.state c.args.self.now))) (sym c.as_slice.ensures) c.requires.can) in
    carry _ _ (state_by st now) c.as_slice.result.now c.args.framed.now (λ o y t. HasStopped o t) (ap (state_by st) c.self.view_is) c.as_slice.ensures
    (has_stopped _ c.self.invariant runs (saved_of c.as_slice.result.now) can.next (state_of c.append.new.self) (g.met.D.Disk.lawful c.append.new.self.disk.now) c.append.ensures.goes_on c.append.ensures.moments
    c.in-Err-DiskFault.ensures.stays c.append.ensures.counts.later (c.append.ensures.counts.failed (cc (c.in-Err-DiskFault.is))) c.faults.result c.faults.ensures)
