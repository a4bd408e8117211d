use Rattle.logtype_text.proofs.OneList.{same_type_text}
use Rattle.logtype_text.proofs.TextLemmas.{one_text, good_is_type_text}
use Rattle.logtype_text.proofs.laws.one_type_text.Goals as goal

pub returns : goal.returns
returns c = record { symbols = one_text; parts = same_type_text; good = good_is_type_text }
