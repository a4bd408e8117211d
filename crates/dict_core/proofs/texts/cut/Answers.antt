use Rattle.std.proofs.Common.{arith, length}
use Rattle.dict_core.proofs.BufferLemmas.{rise_end, rise_start}
use Rattle.dict_core.proofs.texts.cut.Goals as goal

pub slice_bounds-result-count : goal.slice_bounds-result-count
slice_bounds-result-count c =
    let h = rise_start 0 c.args.ends.now (length c.args.bytes.now) c.args.number c.requires.rise c.requires.within in
    omega (arith, h, c.start_of-start.ensures)

pub slice_bounds-result-start : goal.slice_bounds-result-start
slice_bounds-result-start c =
    let h = rise_start 0 c.args.ends.now (length c.args.bytes.now) c.args.number c.requires.rise c.requires.within in
    grind (arith, h, c.start_of-start.ensures)

pub slice_bounds-result-end : goal.slice_bounds-result-end
slice_bounds-result-end c =
    let h = rise_end 0 c.args.ends.now (length c.args.bytes.now) c.args.number c.requires.rise c.requires.within in
    grind (arith, h)
