use Rattle.dict_lock.proofs.LookUpLemmas.{no_mark}
use Rattle.dict_lock.proofs.naming.has_no_mark.Goals as goal

pub returns : goal.returns
returns c = no_mark c.args.numbers.now c.contains.result c.contains.ensures.value
