use Rattle.message_reader.proofs.VersionLawLemmas.{messages_agree, messages_exist, messages_join, messages_none}
use Rattle.message_reader.proofs.laws.one_answer.Goals as goal

pub returns : goal.returns
returns c = record { exists = messages_exist; unique = messages_agree; joins = messages_join; nothing = messages_none }
