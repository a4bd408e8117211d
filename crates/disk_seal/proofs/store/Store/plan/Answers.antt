use Rattle.std.proofs.Common.{List, sym, subst}
use Rattle.std.proofs.lemmas.Result.{IfOk-weaker}
use Rattle.disk_seal.specs.declared.pieces.Piece.{Piece}
use Rattle.disk_seal.specs.View.{state_by}
use Rattle.disk_seal.specs.Planned.{HasRoom}
use Rattle.disk_seal.specs.Prepare.{IsPlanned}
use Rattle.disk_seal.proofs.PlanLemmas.{planned_on}
use Rattle.disk_seal.proofs.store.Store.plan.Goals as goal

pub returns-clause-planned : goal.returns-clause-planned
returns-clause-planned g c =
    let after = state_by g.D.Disk.state c.fit.new.self in
    IfOk-weaker c.fit.result _ _ (λ ps fits. subst (λ (l : List Piece). IsPlanned c.args.draft.now l after) (sym fits.0)
    (planned_on g.D.Disk.state c.collect.new.self c.fit.new.self c.args.draft.now c.in_ok-pieces.pieces.items c.fit.ensures.same c.fit.ensures.types c.fit.ensures.words c.in_ok-pieces.ensures.planned
    (subst (λ (l : List Piece). HasRoom l after) fits.0 fits.1))) c.fit.ensures.fits
