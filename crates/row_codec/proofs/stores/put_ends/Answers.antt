use Rattle.std.proofs.Common.{◌+◌, ◌-◌, length, refl, arith}
use Rattle.row_codec.proofs.StoreLemmas.{ends_put}
use Rattle.row_codec.proofs.stores.put_ends.Goals as goal

pub returns-clause-written : goal.returns-clause-written
returns-clause-written g c =
    ends_put c.args.out.now c.put_array.new.out c.put_array-2.new.out c.args.bytes.now c.in-Some.first.now c.in-Some-last_chunk.last.now c.args.at g.row.N (c.args.at + (length c.args.bytes.now - g.row.N))
    (omega (arith, c.told-out, c.requires.room)) c.requires.bytes.1 c.in-Some.ensures.cases.same c.in-Some-last_chunk.ensures.cases.1.same refl c.put_array.ensures c.put_array-2.ensures
