use Rattle.row_codec.proofs.CutTextLemmas.{stops_end}
use Rattle.row_codec.proofs.cutting.past_token_byte.Goals as goal

pub returns-in-None-clause-none : goal.returns-in-None-clause-none
returns-in-None-clause-none c = stops_end c.args.text.now c.in-None.ensures.none
