use Rattle.std.proofs.Common.{◌≡◌, None, sym, subst}
use Rattle.std.specs.Prelude.{IfSome, IfNone}
use Rattle.disk_seal.specs.View.{StoreView, state_by}
use Rattle.disk_seal.specs.Found.{IsGateOf, FindsNext, IsLastOf}
use Rattle.disk_seal.proofs.FoundLemmas.{some_gate, found_some, last_none, ends_there}
use Rattle.disk_seal.proofs.store.Store.next_after.Goals as goal

pub returns-then-at-self-clause-last : goal.returns-then-at-self-clause-last
returns-then-at-self-clause-last g c =
    let runs : c.self.inside.stopped ≡ None = c.in_default.is in
    subst (λ (v : StoreView _). IsLastOf c.args.at (state_by g.D.Disk.state v)) c.self.view_is (ends_there _ c.args.at c.self.invariant runs c.if-at-self.true)

pub found_at-requires-clause-gate : goal.found_at-requires-clause-gate
found_at-requires-clause-gate g c =
    some_gate _ c.args.at c.self.invariant (subst (λ (v : StoreView _). IsGateOf c.args.at (state_by g.D.Disk.state v)) (sym c.self.view_is) c.requires.gate)

pub returns-in-Ok-clause-found : goal.returns-in-Ok-clause-found
returns-in-Ok-clause-found g c =
    subst (λ (v : StoreView _). IfSome c.in-Ok.next (λ f. FindsNext c.args.at f (state_by g.D.Disk.state v))) c.self.view_is (found_some _ c.args.at c.in-Ok.next c.self.invariant c.in-Ok.ensures.found)

pub returns-in-Ok-clause-last : goal.returns-in-Ok-clause-last
returns-in-Ok-clause-last g c =
    subst (λ (v : StoreView _). IfNone c.in-Ok.next (IsLastOf c.args.at (state_by g.D.Disk.state v))) c.self.view_is (last_none _ c.args.at c.in-Ok.next c.self.invariant c.in-Ok.ensures.last)
