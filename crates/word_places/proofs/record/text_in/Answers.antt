use Rattle.std.proofs.Common.{◌∙◌, arith, get_or, length}
use Rattle.word_places.proofs.RecordLemmas.{end_within, ends_at, text_cut, text_got}
use Rattle.word_places.proofs.record.text_in.Goals as goal

pub slice_bounds-result-count : goal.slice_bounds-result-count
slice_bounds-result-count c =
    let ends = c.end_of-end.ensures ∙ ends_at c.args.bytes.now (length c.args.bytes.now) c.args.starts.now c.args.at c.requires.beside (omega arith) in
    omega (arith, ends)

pub slice_bounds-result-start : goal.slice_bounds-result-start
slice_bounds-result-start c =
    let ends = c.end_of-end.ensures ∙ ends_at c.args.bytes.now (length c.args.bytes.now) c.args.starts.now c.args.at c.requires.beside (omega arith) in
    omega (arith, ends)

pub slice_bounds-result-end : goal.slice_bounds-result-end
slice_bounds-result-end c =
    let ends = c.end_of-end.ensures ∙ ends_at c.args.bytes.now (length c.args.bytes.now) c.args.starts.now c.args.at c.requires.beside (omega arith) in
    omega (arith, ends, end_within c.args.bytes.now (get_or c.args.starts.now c.args.at 0) (c.requires.starts c.args.at 0 (omega arith)))

pub returns : goal.returns
returns c =
    let start = get_or c.args.starts.now c.args.at 0 in
    let ends = c.end_of-end.ensures ∙ ends_at c.args.bytes.now (length c.args.bytes.now) c.args.starts.now c.args.at c.requires.beside (omega arith) in
    text_got c.args.bytes.now c.args.starts.now _ c.args.at (omega arith) (text_cut c.args.bytes.now start c.end_of-end.result (c.requires.starts c.args.at 0 (omega arith)) ends)
