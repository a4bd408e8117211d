use Rattle.log_messages.proofs.ExistenceLemmas.{messages_exist}
use Rattle.log_messages.proofs.LawLemmas.{messages_agree, messages_join}
use Rattle.log_messages.proofs.one_answer.Goals as goal

pub returns : goal.returns
returns c = record {
  exists = λ bytes. let h = messages_exist bytes in (h.messages, h.ended, h.are);
  unique = messages_agree;
  joins = messages_join;
}
