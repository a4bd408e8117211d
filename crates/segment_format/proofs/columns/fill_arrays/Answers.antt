use Rattle.std.proofs.Common.{◌≡◌, ◌*◌, ℕ, ℤ, List, length, rules, arith}
use Rattle.segment_format.proofs.RowsLemmas.{spelled_parts, filled_spelled}
use Rattle.segment_format.proofs.columns.fill_arrays.Goals as goal

pub returns : goal.returns
returns c =
    let rows = c.args.rows in
    let patterns : List ℕ = c.extend_from_slice.new.self.items in
    let moments : List ℤ = c.fill_moments.new.out.items in
    let types : List ℕ = c.fill_numbers.new.out.items in
    let counts : List ℕ = c.fill_numbers-2.new.out.items in
    let words : List ℕ = c.fill_longs.new.out.items in
    let first : c.split_at.result.0.now ≡ patterns = search rules in
    let e4 = spelled_parts (4 * rows) c.split_at-3.result.1.now c.split_at-4.result.0.now c.split_at-4.result.1.now _ _ c.split_at-4.ensures.front c.split_at-4.ensures.back
    c.in_ok-fill_numbers-2.ensures.spelled c.in_ok-fill_longs.ensures.spelled in
    let e3 = spelled_parts (4 * rows) c.split_at-2.result.1.now c.split_at-3.result.0.now c.split_at-3.result.1.now _ _ c.split_at-3.ensures.front c.split_at-3.ensures.back
    c.in_ok-fill_numbers.ensures.spelled e4 in
    let e2 = spelled_parts (8 * rows) c.split_at.result.1.now c.split_at-2.result.0.now c.split_at-2.result.1.now _ _ c.split_at-2.ensures.front c.split_at-2.ensures.back
    c.in_ok-fill_moments.ensures.spelled e3 in
    let e1 = spelled_parts rows c.args.bytes.now c.split_at.result.0.now c.split_at.result.1.now _ _ c.split_at.ensures.front c.split_at.ensures.back first e2 in
    let long : length patterns ≡ length c.split_at.result.0.now = search rules in
    record {
      spelled = filled_spelled patterns moments types counts words c.args.bytes.now e1;
      as_patterns = omega (arith, long, c.split_at.ensures.front_len);
      as_moments = omega (arith, c.in_ok-fill_moments.ensures.length, c.split_at-2.ensures.front_len);
      as_types = omega (arith, c.in_ok-fill_numbers.ensures.length, c.split_at-3.ensures.front_len);
      as_counts = omega (arith, c.in_ok-fill_numbers-2.ensures.length, c.split_at-4.ensures.front_len);
      as_words = omega (arith, c.in_ok-fill_longs.ensures.length, c.split_at-4.ensures.back_len, c.split_at-3.ensures.back_len, c.split_at-2.ensures.back_len, c.split_at.ensures.back_len, c.requires.length);
      moments = c.in_ok-fill_moments.ensures.fit;
      types = c.in_ok-fill_numbers.ensures.fit;
      counts = c.in_ok-fill_numbers-2.ensures.fit;
      words = c.in_ok-fill_longs.ensures.fit;
    }
