use Rattle.std.proofs.Common.{◌∙◌, Ok, rules}
use Rattle.line_cut.proofs.GivingLemmas.{not_ended, steady_of}
use Rattle.log_commands.proofs.CutterLemmas.{IsPrinting-more, IsPrinting-stopped, IsPrinting-refused, IsPrinting-open}
use Rattle.log_commands.proofs.ReadsLemmas.{counts_cut, counts_done, counts_stopped}
use Rattle.log_commands.proofs.log.print_messages.Goals as goal

pub loop-number-preserved : goal.loop-number-preserved
loop-number-preserved g c =
    let gave = rw c.in-Ok-Some.field-0-is at c.in-Ok-Some.ensures.line in (
      IsPrinting-more _ _ _ _ _ _ _ _ _ _ _ _ c.loop-number.invariant.0 gave c.advance.ensures.stays.max_line c.advance.ensures.stays.max_lines (rw (← c.line-message.ensures) c.in_default.ensures.ok),
      search rules,
      (c.in-Ok-Some.ensures.counts gave.was_open).steady ∙ c.loop-number.invariant.2,
      search rules,
    )

pub returns-in-Err-print_message-clause-reaches : goal.returns-in-Err-print_message-clause-reaches
returns-in-Err-print_message-clause-reaches g c =
    let gave = rw c.in-Ok-Some.field-0-is at c.in-Ok-Some.ensures.line in
    IsPrinting-stopped _ _ _ _ _ _ _ _ _ _ _ _ _ _ c.in-Err-print_message.refusal c.loop-number.invariant.0 gave c.line-message.ensures c.in-Err-print_message.ensures.only (λ e. c.in-Err-print_message.ensures.failed (search rules)) (λ e. c.in-Err-print_message.ensures.memory (search rules))

pub returns-in-Err-clause-reaches : goal.returns-in-Err-clause-reaches
returns-in-Err-clause-reaches g c =
    let is = IsPrinting-open _ _ _ _ _ _ _ _ c.loop-number.invariant.0 (not_ended _ _ _ c.advance.result c.in-Err.cut c.advance.ensures.again c.in-Err.is) in
    rw c.refusal_of.ensures.value (IsPrinting-refused _ _ g.S.Source.faults _ _ _ _ _ _ _ _ is c.loop-number.invariant.0 c.in-Err.ensures.refused)

-- which reads failed
pub returns-in-Ok-None-clause-reads : goal.returns-in-Ok-None-clause-reads
returns-in-Ok-None-clause-reads g c =
    counts_done _ _ (steady_of g.S.Source.faults c.loop-number.cutter.progress c.loop-number.cutter c.advance.new.self (Ok c.in-Ok-None.field-0) c.in-Ok-None.ensures.again c.in-Ok-None.ensures.counts ∙ c.loop-number.invariant.2)

pub returns-in-Err-print_message-clause-reads : goal.returns-in-Err-print_message-clause-reads
returns-in-Err-print_message-clause-reads g c =
    let gave = rw c.in-Ok-Some.field-0-is at c.in-Ok-Some.ensures.line in
    counts_stopped _ _ c.in-Err-print_message.refusal c.in-Err-print_message.ensures.only ((c.in-Ok-Some.ensures.counts gave.was_open).steady ∙ c.loop-number.invariant.2)

pub returns-in-Err-clause-reads : goal.returns-in-Err-clause-reads
returns-in-Err-clause-reads g c =
    let is = IsPrinting-open _ _ _ _ _ _ _ _ c.loop-number.invariant.0 (not_ended _ _ _ c.advance.result c.in-Err.cut c.advance.ensures.again c.in-Err.is) in
    rw c.refusal_of.ensures.value (rw c.loop-number.invariant.2 at (counts_cut _ _ c.in-Err.cut (c.in-Err.ensures.counts is)))
