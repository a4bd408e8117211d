use Rattle.std.proofs.Common.{refl, arith}
use Rattle.record_format.proofs.ListLemmas.{no_text_short, no_text_long}
use Rattle.record_format.proofs.list.next_text.Goals as goal

pub returns-in_err-len-clause-none : goal.returns-in_err-len-clause-none
returns-in_err-len-clause-none c = λ _ t rest fits e. no_text_short c.args.bytes.now (c.in_err-len.ensures.none refl) t rest e

pub returns-then-rest-len-clause-none : goal.returns-then-rest-len-clause-none
returns-then-rest-len-clause-none c = λ _ t rest fits e. no_text_long c.args.bytes.now c.in_ok-len.len c.in_ok-len.rest.now c.in_ok-len.ensures.some c.in_ok-len.ensures.fits (omega arith) t rest fits e
