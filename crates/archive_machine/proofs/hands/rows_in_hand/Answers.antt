use Rattle.std.proofs.Common.{sym, ◌∙◌}
use Rattle.archive_machine.specs.declared.state.Hand.{Hand}
use Rattle.archive_machine.proofs.CodeLemmas.{first_rows, no_rows}
use Rattle.archive_machine.proofs.hands.rows_in_hand.Goals as goal

pub returns-in-Some : goal.returns-in-Some
returns-in-Some c =
    let hand : Hand = c.index-hands-place.result in
    c.as_slice.ensures
    ∙ sym (first_rows c.args.worker c.args.hands.now c.in-Some.place hand c.in-Some.ensures.some)

pub returns-in-None : goal.returns-in-None
returns-in-None c = sym (no_rows c.args.worker c.args.hands.now c.in-None.ensures.none)
