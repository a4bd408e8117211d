use Rattle.std.proofs.lemmas.Result.{on_ok_weaker}
use Rattle.row_codec.proofs.RunLemmas.{front_of_front}
use Rattle.row_codec.proofs.runs.put_front.Goals as goal

pub returns-in-Some-clause-put : goal.returns-in-Some-clause-put
returns-in-Some-clause-put c =
    on_ok_weaker c.put_wide.result
    (λ put. front_of_front c.args.out.now.items c.args.text.now c.in-Some.wide.now c.put_wide.new.out.items 32 c.args.len c.if-len-le-WIDTH.true c.in-Some.ensures.cases.same put)
    c.put_wide.ensures.put
