use Rattle.std.proofs.Common.{arith}
use Rattle.row_codec.proofs.StoreLemmas.{front_put}
use Rattle.row_codec.proofs.stores.put_front.Goals as goal

pub returns-in-Some-clause-written : goal.returns-in-Some-clause-written
returns-in-Some-clause-written c =
    front_put c.args.out.now c.put_array.new.out c.args.text.now c.in-Some.wide.now c.args.at 32 c.args.len
    (omega (arith, c.told-out, c.requires.room)) c.if-len-le-WIDTH.true c.in-Some.ensures.cases.same c.put_array.ensures
