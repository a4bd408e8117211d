use Rattle.std.proofs.Common.{rules, arith, ◌+◌}
use Rattle.archive_machine.proofs.CodeLemmas.{count_more, count_part}
use Rattle.archive_machine.proofs.journal.messages_in.Goals as goal

pub overflow_add-count : goal.overflow_add-count
overflow_add-count c =
    let es = c.args.journal.now in
    let i = c.loop-entry.entry-index in
    let more = count_more c.args.file es i c.entry-item.result (search rules) (search rules) in
    omega (arith, more, count_part c.args.file es (i + 1), c.requires, c.loop-entry.invariant, c.rows_in.ensures)

pub loop-entry-preserved : goal.loop-entry-preserved
loop-entry-preserved c =
    let es = c.args.journal.now in
    let i = c.loop-entry.entry-index in
    let more = count_more c.args.file es i c.entry-item.result (search rules) (search rules) in
    omega (arith, more, c.loop-entry.invariant, c.rows_in.ensures)
