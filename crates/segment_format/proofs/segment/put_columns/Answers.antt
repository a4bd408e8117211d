use Rattle.std.proofs.Common.{◌≡◌, ◌+◌, ◌++◌, ℕ, ℤ, List, length, map, ap, ◌∙◌, rules, arith, length-append}
use Rattle.std.specs.List.{flat_map}
use Rattle.std.proofs.lemmas.List.{length-map}
use Rattle.std.proofs.lemmas.List.Concat.{length-flat_map}
use Rattle.record_format.specs.Lists.{four_bytes}
use Rattle.record_format.proofs.ListLemmas.{length-four_bytes}
use Rattle.column_store.specs.declared.row.Row.{Row}
use Rattle.column_store.specs.Row.{variable_count}
use Rattle.segment_format.specs.Layout.{eight_bytes, moment_bytes, fields_bytes}
use Rattle.segment_format.proofs.FixedLemmas.{length-moment_bytes, put_before}
use Rattle.segment_format.proofs.SegmentLemmas.{grown}
use Rattle.segment_format.proofs.segment.put_columns.Goals as goal

pub put_numbers-requires-clause-room : goal.put_numbers-requires-clause-room
put_numbers-requires-clause-room c =
    let rows : List Row = c.args.columns.now.rows in
    let o1 : List ℕ = c.extend_from_slice.new.self.items in
    let e1 : o1 ≡ c.args.out.now.items ++ c.patterns.result.now = search rules in
    let patterns : length c.patterns.result.now ≡ length rows = ap (λ (l : List ℕ). length l) c.patterns.ensures ∙ length-map rows (λ (r : Row). r.pattern) in
    let moments : length c.moments.result.now ≡ length rows = ap (λ (l : List ℤ). length l) c.moments.ensures ∙ length-map rows (λ (r : Row). r.moment) in
    let l1 : length o1 ≡ length c.args.out.now.items + length c.patterns.result.now = ap (λ (l : List ℕ). length l) e1 ∙ length-append c.args.out.now.items c.patterns.result.now in
    let l2 = grown 8 moment_bytes length-moment_bytes o1 c.put_moments.new.out.items c.moments.result.now c.in_ok-put_moments.ensures in
    omega (arith, l1, l2, patterns, moments, c.requires.room, c.requires.rows)

pub put_longs-requires-clause-few : goal.put_longs-requires-clause-few
put_longs-requires-clause-few c =
    let rows : List Row = c.args.columns.now.rows in
    let words : length c.words.result.now ≡ variable_count rows = ap (λ (l : List ℕ). length l) c.words.ensures ∙ length-flat_map (λ r. r.words) rows in
    omega (arith, words, c.requires.words)

pub put_longs-requires-clause-room : goal.put_longs-requires-clause-room
put_longs-requires-clause-room c =
    let rows : List Row = c.args.columns.now.rows in
    let counts : List ℕ = map (λ r. length r.words) rows in
    let types : length c.types.result.now ≡ length rows = ap (λ (l : List ℕ). length l) c.types.ensures ∙ length-map rows (λ (r : Row). r.log_type) in
    let o1 : List ℕ = c.extend_from_slice.new.self.items in
    let e1 : o1 ≡ c.args.out.now.items ++ c.patterns.result.now = search rules in
    let patterns : length c.patterns.result.now ≡ length rows = ap (λ (l : List ℕ). length l) c.patterns.ensures ∙ length-map rows (λ (r : Row). r.pattern) in
    let moments : length c.moments.result.now ≡ length rows = ap (λ (l : List ℤ). length l) c.moments.ensures ∙ length-map rows (λ (r : Row). r.moment) in
    let l1 : length o1 ≡ length c.args.out.now.items + length c.patterns.result.now = ap (λ (l : List ℕ). length l) e1 ∙ length-append c.args.out.now.items c.patterns.result.now in
    let l2 = grown 8 moment_bytes length-moment_bytes o1 c.put_moments.new.out.items c.moments.result.now c.in_ok-put_moments.ensures in
    let l3 = grown 4 four_bytes length-four_bytes c.put_moments.new.out.items c.put_numbers.new.out.items c.types.result.now c.in_ok-put_numbers.ensures in
    let l4 = grown 4 four_bytes length-four_bytes c.put_numbers.new.out.items c.put_counts.new.out.items counts c.in_ok-put_counts.ensures in
    omega (arith, l1, l2, l3, l4, patterns, moments, c.requires.room, types, length-map rows (λ (r : Row). length r.words), c.requires.rows)

pub returns : goal.returns
unfolding fields_bytes
returns c =
    let o : List ℕ = c.args.out.now.items in
    let o1 : List ℕ = c.extend_from_slice.new.self.items in
    let o2 : List ℕ = c.put_moments.new.out.items in
    let o3 : List ℕ = c.put_numbers.new.out.items in
    let o4 : List ℕ = c.put_counts.new.out.items in
    let e1 : o1 ≡ o ++ c.patterns.result.now = search rules in
    let e2 = c.in_ok-put_moments.ensures ∙ ap (λ (l : List ℤ). o1 ++ flat_map moment_bytes l) c.moments.ensures in
    let e3 = c.in_ok-put_numbers.ensures ∙ ap (λ (l : List ℕ). o2 ++ flat_map four_bytes l) c.types.ensures in
    let e5 = c.in_ok-put_longs.ensures ∙ ap (λ (l : List ℕ). o4 ++ flat_map eight_bytes l) c.words.ensures in
    put_before o _ _ (e1 ∙ ap (λ (l : List ℕ). o ++ l) c.patterns.ensures) (put_before o1 _ _ e2 (put_before o2 _ _ e3 (put_before o3 _ _ c.in_ok-put_counts.ensures e5)))
