use Rattle.std.proofs.Common.{arith}
use Rattle.row_codec.proofs.CutTextLemmas.{token_byte_shorter, token_bytes_more}
use Rattle.row_codec.proofs.cutting.past_token_bytes.Goals as goal

pub loop-after-preserved : goal.loop-after-preserved
loop-after-preserved c =
    let shorter = token_byte_shorter c.loop-after.rest.now c.in-Some.after.now c.in-Some.ensures.some in
    record {
      bytes = token_bytes_more c.args.text.now c.loop-after.rest.now c.in-Some.after.now c.loop-after.invariant.bytes c.in-Some.ensures.some;
      within = omega (arith, c.loop-after.invariant.within);
    }
