use Rattle.std.proofs.Common.{ℕ, ◌∙◌, ap, sym, subst}
use Rattle.archive_machine.specs.declared.state.Core.{Core}
use Rattle.archive_machine.specs.declared.event.Event.{Event}
use Rattle.archive_machine.specs.declared.event.Event.TheVariants.{Name}
use Rattle.archive_machine.specs.Machine.{Steps}
use Rattle.archive_machine.proofs.CodeLemmas.{ok_weaker}
use Rattle.archive_machine.proofs.machine.step.Goals as goal

pub returns-in-Name : goal.returns-in-Name
returns-in-Name c =
    let h = c.args.header.now in
    ok_weaker c.step_name.result
    (λ (d : Core). (worker : ℕ) → Steps h c.args.core (Name worker c.in-Name.book c.as_slice.result.now) d)
    (λ (d : Core). Steps h c.args.core c.args.event.now d)
    (λ d all. subst (λ (e : Event). Steps h c.args.core e d) (ap (λ t. Name c.in-Name.worker c.in-Name.book t) c.as_slice.ensures ∙ sym c.in-Name.is) (all c.in-Name.worker))
    c.step_name.ensures
