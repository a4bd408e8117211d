use Rattle.log_messages.proofs.LawLemmas.{messages_empty, messages_line, messages_open}
use Rattle.log_messages.proofs.line_by_line.Goals as goal

pub returns : goal.returns
returns c = record { nothing = messages_empty; line = messages_line; last = messages_open }
