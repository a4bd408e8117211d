use Rattle.std.proofs.Common.{sym, ◌∙◌, ap, length}
use Rattle.archive_machine.specs.declared.state.Hand.{Hand}
use Rattle.archive_machine.proofs.CodeLemmas.{first_rows, no_rows}
use Rattle.archive_machine.proofs.hands.count_in_hand.Goals as goal

pub returns-in-Some : goal.returns-in-Some
returns-in-Some c =
    let hand : Hand = c.index-hands-place.result in
    c.len.ensures
    ∙ sym (ap length (first_rows c.args.worker c.args.hands.now c.in-Some.place hand c.in-Some.ensures.some))

pub returns-in-None : goal.returns-in-None
returns-in-None c = sym (ap length (no_rows c.args.worker c.args.hands.now c.in-None.ensures.none))
