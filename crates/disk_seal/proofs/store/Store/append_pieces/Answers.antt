use Rattle.std.proofs.Common.{◌≡◌, subst, None, Some, inl, inr, refl, sym, ap, ◌∙◌}
use Rattle.disk_seal.specs.View.{StoreView, state_by, Kept}
use Rattle.disk_seal.proofs.EachLemmas.{err_there}
use Rattle.disk_seal.proofs.SealLemmas.{has_fault}
use Rattle.disk_seal.proofs.store.Store.append_pieces.Goals as goal

pub returns-in-Some-clause-halted : goal.returns-in-Some-clause-halted
returns-in-Some-clause-halted g c =
    let halted : c.args.self.now.stopped ≡ Some c.in-Some.now = sym (ap (λ (v : StoreView _). v.stopped) c.self.view_is) ∙ c.in-Some.is in
    inl ((λ none. absurd (cc (none, halted))), refl)

pub returns-then-is_err-clause-halted : goal.returns-then-is_err-clause-halted
returns-then-is_err-clause-halted g c =
    let runs : c.args.self.now.stopped ≡ None = sym (ap (λ (v : StoreView _). v.stopped) c.self.view_is) ∙ c.in_default.is in
    inr (runs, err_there c.add_each.result (sym (c.if-is_err.ensures.value)) c.add_each.ensures.stopped)

pub returns-in-Some-clause-fault : goal.returns-in-Some-clause-fault
returns-in-Some-clause-fault g c =
    has_fault (state_by g.D.Disk.state c.args.self.now) (record { opened = c.self.inside.faults; now = c.in-Some.now }) (subst (λ (v : StoreView _). Kept (state_by g.D.Disk.state v)) c.self.view_is c.self.invariant)
    (ap (λ (v : StoreView _). v.faults) c.self.view_is) (sym (ap (λ (v : StoreView _). v.stopped) c.self.view_is) ∙ c.in-Some.is)

pub returns-then-is_err-clause-fault : goal.returns-then-is_err-clause-fault
returns-then-is_err-clause-fault g c =
    let some = err_there c.add_each.result (sym (c.if-is_err.ensures.value)) c.add_each.ensures.stopped in
    has_fault (state_by g.D.Disk.state c.add_each.new.self) (record { opened = c.self-2.inside.faults; now = c.faults.result }) (subst (λ (v : StoreView _). Kept (state_by g.D.Disk.state v)) c.self-2.view_is c.self-2.invariant)
    (ap (λ (v : StoreView _). v.faults) c.self-2.view_is) (some.stopped ∙ ap (λ n. Some n) (sym (c.faults.ensures ∙ ap (λ (v : StoreView _). (g.D.Disk.state v.disk).faults) c.self-2.view_is)))

pub returns-in-Some-clause-rests : goal.returns-in-Some-clause-rests
returns-in-Some-clause-rests g c = λ halted. refl
