use Rattle.std.proofs.Common.{ℕ, IfOk, sym, subst}
use Rattle.archive_machine.specs.declared.event.Event.TheVariants.{Name}
use Rattle.archive_machine.specs.Machine.{Steps}
use Rattle.archive_machine.proofs.machine.step_name.Goals as goal

pub returns-in-Types : goal.returns-in-Types
returns-in-Types c =
    subst (λ b. IfOk c.step_type.result (λ d. (worker : ℕ) → Steps c.args.header.now c.args.core (Name worker b c.args.text.now) d)) (sym c.in-Types.is) c.step_type.ensures

pub returns-in-Words : goal.returns-in-Words
returns-in-Words c =
    subst (λ b. IfOk c.step_word.result (λ d. (worker : ℕ) → Steps c.args.header.now c.args.core (Name worker b c.args.text.now) d)) (sym c.in-Words.is) c.step_word.ensures
