use Rattle.std.proofs.Common.{◌≡◌, ◌<◌, ap, ◌∙◌, rules, length, sym, arith, get_or, vec_len, slice_get}
use Rattle.std.proofs.lemmas.Int.{to_z-of_z}
use Rattle.std.proofs.lemmas.List.{get_or_read}
use Rattle.std.specs.Int.{w64, cast_signed, cast_unsigned}
use Rattle.std.specs.Int.RustNames.{FitsSigned}
use Rattle.column_store.specs.Columns.{ColumnsState}
use Rattle.column_store.specs.Places.{start_of}
use Rattle.column_store.proofs.RowsLemmas.{length-rows_of, row_now}
use Rattle.column_store.proofs.columns.Columns.row.Goals as goal

pub start_at-start-requires : goal.start_at-start-requires
start_at-start-requires c =
    let i = c.self.inside in
    let count : length i.patterns.items ≡ length c.args.self.now.rows =
    sym (length-rows_of i.patterns.items i.moments.items i.types.items i.ends.items i.words.items) ∙ ap (λ (s : ColumnsState). length s.rows) c.self.view_is in
    let ends : length c.deref.result.now ≡ length i.ends.items = search rules in
    omega (arith, count, ends, c.self.invariant.as_ends)

pub index-requires : goal.index-requires
index-requires c =
    let i = c.self.inside in
    let count : length i.patterns.items ≡ length c.args.self.now.rows =
    sym (length-rows_of i.patterns.items i.moments.items i.types.items i.ends.items i.words.items) ∙ ap (λ (s : ColumnsState). length s.rows) c.self.view_is in
    let len : vec_len i.patterns ≡ length i.patterns.items = search rules in
    omega (arith, count, len)

pub index-requires-2 : goal.index-requires-2
index-requires-2 c =
    let i = c.self.inside in
    let count : length i.patterns.items ≡ length c.args.self.now.rows =
    sym (length-rows_of i.patterns.items i.moments.items i.types.items i.ends.items i.words.items) ∙ ap (λ (s : ColumnsState). length s.rows) c.self.view_is in
    let len : vec_len i.moments ≡ length i.moments.items = search rules in
    omega (arith, count, len, c.self.invariant.as_moments)

pub index-requires-3 : goal.index-requires-3
index-requires-3 c =
    let i = c.self.inside in
    let count : length i.patterns.items ≡ length c.args.self.now.rows =
    sym (length-rows_of i.patterns.items i.moments.items i.types.items i.ends.items i.words.items) ∙ ap (λ (s : ColumnsState). length s.rows) c.self.view_is in
    let len : vec_len i.types ≡ length i.types.items = search rules in
    omega (arith, count, len, c.self.invariant.as_types)

pub index-requires-4 : goal.index-requires-4
index-requires-4 c =
    let i = c.self.inside in
    let count : length i.patterns.items ≡ length c.args.self.now.rows =
    sym (length-rows_of i.patterns.items i.moments.items i.types.items i.ends.items i.words.items) ∙ ap (λ (s : ColumnsState). length s.rows) c.self.view_is in
    let len : vec_len i.ends ≡ length i.ends.items = search rules in
    omega (arith, count, len, c.self.invariant.as_ends)

pub words_within-requires : goal.words_within-requires
words_within-requires c =
    let i = c.self.inside in
    let count : length i.patterns.items ≡ length c.args.self.now.rows =
    sym (length-rows_of i.patterns.items i.moments.items i.types.items i.ends.items i.words.items) ∙ ap (λ (s : ColumnsState). length s.rows) c.self.view_is in
    let lt : c.args.place < length i.patterns.items = omega (arith, count) in
    let end : c.index-4.result.now ≡ get_or i.ends.items c.args.place 0 = get_or_read i.ends.items c.args.place c.index-4.result.now (omega (arith, c.self.invariant.as_ends)) c.index-4.ensures 0 in
    let start : c.start_at-start.result ≡ start_of i.ends.items c.args.place = search rules in
    let words : length c.deref-2.result.now ≡ length i.words.items = search rules in
    record { start = omega (arith, start, end, c.self.invariant.rise c.args.place lt); end = omega (arith, end, words, c.self.invariant.within c.args.place lt) }

pub returns : goal.returns
returns c =
    let i = c.self.inside in
    let count : length i.patterns.items ≡ length c.args.self.now.rows =
    sym (length-rows_of i.patterns.items i.moments.items i.types.items i.ends.items i.words.items) ∙ ap (λ (s : ColumnsState). length s.rows) c.self.view_is in
    let fits : FitsSigned w64 c.index-2.result.now = search rules in
    let same : cast_signed w64 (cast_unsigned w64 c.index-2.result.now) ≡ c.index-2.result.now = to_z-of_z w64 c.index-2.result.now fits in
    sym (ap (λ (s : ColumnsState). slice_get s.rows c.args.place) c.self.view_is)
    ∙ row_now i.patterns.items i.moments.items i.types.items i.ends.items i.words.items i.bytes c.self.invariant c.args.place (omega (arith, count))
    c.index.result.now (cast_signed w64 (cast_unsigned w64 c.index-2.result.now)) c.index-3.result.now c.start_at-start.result c.index-4.result.now c.words_within.result.now
    c.index.ensures (rw same c.index-2.ensures) c.index-3.ensures (search rules) c.index-4.ensures (search rules)
