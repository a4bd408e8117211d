use Rattle.std.proofs.Common.{◌∙◌, arith, refl}
use Rattle.merge_command.proofs.LineLemmas.{lines_more}
use Rattle.merge_command.proofs.lines.lines_of.Goals as goal

pub loop-place-preserved : goal.loop-place-preserved
loop-place-preserved c =
    let before = c.loop-place.invariant in
    record {
      room = c.push_reserved.ensures.capacity ∙ before.room;
      count = omega (arith, c.push_reserved.ensures.len, before.count);
      these = lines_more c.args.files.now c.args.merged.now c.loop-place.place c.index-files-place.result _ c.loop-place.lines.items _ _ c.loop-place-test.true c.requires before.these c.push_reserved.ensures.items c.as_slice.ensures refl refl;
    }
