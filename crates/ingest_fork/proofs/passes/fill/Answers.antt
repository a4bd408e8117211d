use Rattle.std.proofs.Common.{◌∙◌}
use Rattle.ingest_fork.proofs.PassLemmas.{fresh_more}
use Rattle.ingest_fork.proofs.passes.fill.Goals as goal

pub loop-made-preserved : goal.loop-made-preserved
loop-made-preserved g c = let i = c.loop-made.invariant in
    let more = fresh_more _ _ _ _ _ _ i.1 c.pass-pass.ensures.still c.pass-pass.ensures.made c.pass-pass.ensures.pass in
    (c.push_reserved.ensures.capacity ∙ i.0, rw c.push_reserved.ensures.items more)
