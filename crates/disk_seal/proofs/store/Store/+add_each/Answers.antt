use Rattle.std.proofs.Common.{List, ◌≡◌, ◌+◌, length, sym, subst, arith}
use Rattle.std.proofs.lemmas.Result.{on_ok_weaker, on_err_weaker}
use Rattle.disk_journal.specs.Record.{saved_of}
use Rattle.disk_seal.specs.declared.pieces.Piece.{Piece}
use Rattle.disk_seal.specs.Told.{entry_of}
use Rattle.disk_seal.specs.View.{state_by}
use Rattle.disk_seal.specs.Adding.{front_of, LeavesFirst}
use Rattle.disk_seal.specs.Pieces.{CanFollow, added_by, size_of, AddsAll, AddsSome}
use Rattle.disk_seal.proofs.EachLemmas.{all_more, some_more, some_first, leaves_none, leaves_first, leaves_more, err_always, nil_of, rest_follows, same_tells}
use Rattle.disk_seal.proofs.store.Store.+add_each.Goals as goal

pub returns-in_default-clause-moments : goal.returns-in_default-clause-moments
returns-in_default-clause-moments g t c =
    let s = state_by g.D.Disk.state c.args.self.now in
    subst (λ (ps : List Piece). LeavesFirst (added_by ps) s s) (sym (nil_of c.args.pieces.now c.in_default.ensures.cases))
    (leaves_none s (g.met.D.Disk.lawful c.args.self.now.disk) c.facts.ensures c.requires.runs)

pub returns-in_err-add-clause-moments : goal.returns-in_err-add-clause-moments
returns-in_err-add-clause-moments g t c =
    let s = state_by g.D.Disk.state c.args.self.now in let m = state_by g.D.Disk.state c.add.new.self in
    subst (λ (ps : List Piece). LeavesFirst (added_by ps) s m) (sym c.in-Some.ensures.cases.0)
    (leaves_first s m (entry_of (saved_of c.in-Some.first.now.text)) (added_by c.in-Some.rest.now) c.add.ensures.moments)

pub returns-in_err-add-clause-stopped : goal.returns-in_err-add-clause-stopped
returns-in_err-add-clause-stopped g t c =
    let s = state_by g.D.Disk.state c.args.self.now in let m = state_by g.D.Disk.state c.add.new.self in
    err_always c.from_residual.result (subst (λ (ps : List Piece). AddsSome (added_by ps) s m) (sym c.in-Some.ensures.cases.0)
    (some_first (entry_of (saved_of c.in-Some.first.now.text)) (added_by c.in-Some.rest.now) s m c.in_err-add.ensures.stopped))

pub add_each-requires : goal.add_each-requires
add_each-requires g t c κs within =
    let long : length c.in-Some.rest.now + 1 ≡ length c.args.pieces.now = c.in-Some.ensures.cases.1 in
    let can = subst (λ (ps : List Piece). CanFollow ps (front_of (state_by g.D.Disk.state c.args.self.now))) c.in-Some.ensures.cases.0 c.requires.can in (
      omega (arith, c.decreases, long),
      (
        within,
        (
          c.in_ok-add.ensures.added.stopped,
          rest_follows g.D.Disk.state c.args.self.now c.add.new.self c.in-Some.first.now c.in-Some.rest.now c.add.ensures.stays c.in_ok-add.ensures.added can.1,
        ),
      ),
    )

pub returns-clause-moments : goal.returns-clause-moments
returns-clause-moments g t c =
    let s = state_by g.D.Disk.state c.args.self.now in let m = state_by g.D.Disk.state c.add.new.self in let u = state_by g.D.Disk.state c.add_each.new.self in
    let p = c.in-Some.first.now in
    subst (λ (ps : List Piece). LeavesFirst (added_by ps) s u) (sym c.in-Some.ensures.cases.0)
    (leaves_more s m u (length p.text) p.types p.words (entry_of (saved_of p.text)) (added_by c.in-Some.rest.now) (g.met.D.Disk.lawful c.add_each.new.self.disk) c.in_ok-add.ensures.added
    (same_tells g.D.Disk.state c.args.self.now c.add.new.self c.add.ensures.stays) c.add.ensures.stays.header c.add.ensures.moments c.add_each.ensures.moments)

pub returns-clause-added : goal.returns-clause-added
returns-clause-added g t c =
    let s = state_by g.D.Disk.state c.args.self.now in let m = state_by g.D.Disk.state c.add.new.self in let u = state_by g.D.Disk.state c.add_each.new.self in
    let p = c.in-Some.first.now in let rest = c.in-Some.rest.now in
    on_ok_weaker c.add_each.result (λ all. subst (λ (ps : List Piece). AddsAll (size_of ps) (added_by ps) s u) (sym c.in-Some.ensures.cases.0)
    (all_more (length p.text) (size_of rest) p.types p.words (entry_of (saved_of p.text)) (added_by rest) s m u c.in_ok-add.ensures.added (same_tells g.D.Disk.state c.args.self.now c.add.new.self c.add.ensures.stays) all)) c.add_each.ensures.added

pub returns-clause-stopped : goal.returns-clause-stopped
returns-clause-stopped g t c =
    let s = state_by g.D.Disk.state c.args.self.now in let m = state_by g.D.Disk.state c.add.new.self in let u = state_by g.D.Disk.state c.add_each.new.self in
    let p = c.in-Some.first.now in let rest = c.in-Some.rest.now in
    on_err_weaker c.add_each.result (λ some. subst (λ (ps : List Piece). AddsSome (added_by ps) s u) (sym c.in-Some.ensures.cases.0)
    (some_more (length p.text) (size_of rest) p.types p.words (entry_of (saved_of p.text)) (added_by rest) s m u c.in_ok-add.ensures.added (same_tells g.D.Disk.state c.args.self.now c.add.new.self c.add.ensures.stays) some)) c.add_each.ensures.stopped
