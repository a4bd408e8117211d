use Rattle.std.proofs.Common.{◌≡◌, length, arith, rules}
use Rattle.column_store.proofs.RowsLemmas.{lengths_of, columns_from_counts, arrays_of_counts}
use Rattle.column_store.proofs.columns.Columns.from_arrays.Goals as goal

pub returns-then-len-total-clause-none : goal.returns-then-len-total-clause-none
returns-then-len-total-clause-none c = λ _ rows few room are.
    let found = lengths_of rows c.args.arrays are in
    let len : c.len-2.result ≡ length c.args.arrays.words.items = search rules in
    absurd (c.if-len-total.true (omega (arith, found.0, found.1, len, c.in_ok-ends.ensures.total)))

pub invariant_of-result : goal.invariant_of-result
invariant_of-result c =
    let a = c.args.arrays in
    let words : length a.words.items ≡ c.in_ok-ends.total = search rules in
    let rows : c.len-rows.result ≡ length a.patterns.items = search rules in
    let moments : length a.moments.items ≡ length a.patterns.items = search rules in
    let types : length a.types.items ≡ length a.patterns.items = search rules in
    let counts : length a.counts.items ≡ length a.patterns.items = search rules in
    columns_from_counts a.patterns.items a.moments.items a.types.items a.counts.items c.in_ok-ends.ends.items a.words.items moments types counts
    (omega (arith, counts, c.in_ok-ends.ensures.length)) (omega (arith, rows)) (omega (arith, words)) (omega (arith, words, c.in_ok-ends.ensures.total)) c.in_ok-ends.ensures.ends

pub returns-clause-rows : goal.returns-clause-rows
returns-clause-rows c =
    let a = c.args.arrays in
    let words : length a.words.items ≡ c.in_ok-ends.total = search rules in
    let rows : c.len-rows.result ≡ length a.patterns.items = search rules in
    let moments : length a.moments.items ≡ length a.patterns.items = search rules in
    let types : length a.types.items ≡ length a.patterns.items = search rules in
    let counts : length a.counts.items ≡ length a.patterns.items = search rules in
    arrays_of_counts a c.in_ok-ends.ends.items moments types counts
    (omega (arith, counts, c.in_ok-ends.ensures.length)) (omega (arith, rows)) (omega (arith, words)) (omega (arith, words, c.in_ok-ends.ensures.total)) c.in_ok-ends.ensures.ends
