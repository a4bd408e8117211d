use Rattle.std.proofs.Common.{rules, sym, ◌∙◌, ap₂}
use Rattle.std.specs.Prelude.{◌||◌}
use Rattle.archive_machine.proofs.CodeLemmas.{closed_at, closed_more}
use Rattle.archive_machine.proofs.journal.is_ended.Goals as goal

pub returns-then-ends : goal.returns-then-ends
returns-then-ends c = sym (closed_at c.args.file c.args.journal.now c.loop-entry.entry-index c.entry-item.result (search rules) (search rules) (sym c.if-ends.ensures))

pub loop-entry-preserved : goal.loop-entry-preserved
loop-entry-preserved c =
    closed_more c.args.file c.args.journal.now c.loop-entry.entry-index c.entry-item.result (search rules) (search rules)
    ∙ ap₂ (λ a b. a || b) c.loop-entry.invariant (sym c.if-ends.ensures)
