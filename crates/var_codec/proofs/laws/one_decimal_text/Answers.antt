-- The word of a decimal has its sign, its digits and their counts.
use Rattle.var_codec.proofs.Words.{same_text}
use Rattle.var_codec.proofs.laws.one_decimal_text.Goals as goal

pub returns : goal.returns
returns c = same_text
