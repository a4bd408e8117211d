use Rattle.logtype_text.specs.Parts.{parts_of}
use Rattle.log_commands.proofs.ShownLemmas.{ShownTo}
use Rattle.log_commands.proofs.shown_text.push_message.Given as goal

abbrev pub invariant-loop-i : goal.invariant-loop-i
invariant-loop-i l = ShownTo l.message (parts_of l.message l.split.symbols l.split.spans) l.split.spans l.fn.gathered.items l.gathered.items l.at l.i
