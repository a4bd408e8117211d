use Rattle.std.proofs.Common.{◌≡◌, ◌<◌, ◌+◌, ◌-◌, ◌++◌, ℕ, List, length, map, take, get_or, ap, ◌∙◌, arith}
use Rattle.std.specs.List.{flat_map}
use Rattle.std.proofs.lemmas.List.{take_all}
use Rattle.std.proofs.lemmas.List.Sums.{sum_by_more}
use Rattle.record_format.specs.Lists.{four_bytes}
use Rattle.column_store.specs.declared.row.Row.{Row}
use Rattle.column_store.specs.Row.{variable_count}
use Rattle.segment_format.proofs.SegmentLemmas.{no_row, length-ends, ends_at, count_put}
use Rattle.segment_format.proofs.segment.put_counts.Goals as goal

pub overflow_sub-end : goal.overflow_sub-end
overflow_sub-end c =
    let rows : List Row = c.args.columns.now.rows in
    let i = c.loop-end.end-index in
    let ends = c.loop-end.invariant.0 in
    let count : length c.ends-end-items.result.now ≡ length rows = ap (λ (l : List ℕ). length l) ends ∙ length-ends 0 rows in
    let lt : i < length rows = omega (arith, count, c.loop-end-test.true) in
    omega (arith, c.loop-end.invariant.1, ap (λ (l : List ℕ). get_or l i 0) ends, ends_at 0 rows i no_row lt)

pub loop-end-preserved : goal.loop-end-preserved
loop-end-preserved c =
    let rows : List Row = c.args.columns.now.rows in
    let i = c.loop-end.end-index in
    let ends = c.loop-end.invariant.0 in
    let end : ℕ = get_or c.ends-end-items.result.now i 0 in
    let count : length c.ends-end-items.result.now ≡ length rows = ap (λ (l : List ℕ). length l) ends ∙ length-ends 0 rows in
    let lt : i < length rows = omega (arith, count, c.loop-end-test.true) in
    let at : end ≡ (0 + variable_count (take i rows)) + length (get_or rows i no_row).words = ap (λ (l : List ℕ). get_or l i 0) ends ∙ ends_at 0 rows i no_row lt in
    let more : variable_count (take (i + 1) rows) ≡ variable_count (take i rows) + length (get_or rows i no_row).words = sum_by_more (λ r. length r.words) rows i no_row lt in
    let n : end - c.loop-end.start ≡ length (get_or rows i no_row).words = omega (arith, at, c.loop-end.invariant.1) in
    let put : c.put_number.new.out.items ≡ c.loop-end.out.items ++ four_bytes (end - c.loop-end.start) = c.in_ok-put_number.ensures in (
      ends,
      omega (arith, at, more),
      put ∙ ap (λ (l : List ℕ). l ++ four_bytes (end - c.loop-end.start)) c.loop-end.invariant.2 ∙ count_put c.args.out.now.items rows i (end - c.loop-end.start) no_row lt n,
    )

pub returns : goal.returns
returns c =
    let rows : List Row = c.args.columns.now.rows in
    let i = c.loop-end.end-index in
    let count : length c.ends-end-items.result.now ≡ length rows = ap (λ (l : List ℕ). length l) c.loop-end.invariant.0 ∙ length-ends 0 rows in
    let all : take i rows ≡ rows = take_all i rows (omega (arith, count, c.loop-end-test.false)) in
    c.loop-end.invariant.2 ∙ ap (λ (l : List Row). c.args.out.now.items ++ flat_map four_bytes (map (λ r. length r.words) l)) all
