use Rattle.std.proofs.Common.{◌≡◌, ◌++◌, ◌∷◌, [], ◌+◌, ap, ◌∙◌, rules, length, sym, arith}
use Rattle.column_store.specs.Row.{variable_count, row_of}
use Rattle.column_store.specs.Columns.{ColumnsState}
use Rattle.column_store.proofs.RowsLemmas.{length-rows_of, variables_are, rows_now, columns_now}
use Rattle.column_store.proofs.columns.Columns.push.Goals as goal

pub overflow_cast-len : goal.overflow_cast-len
overflow_cast-len c =
    let i = c.self.inside in
    let old : length i.words.items ≡ variable_count c.args.self.now.rows =
    variables_are i.patterns.items i.moments.items i.types.items i.ends.items i.words.items i.bytes c.self.invariant
    ∙ ap (λ (s : ColumnsState). variable_count s.rows) c.self.view_is in
    let len : c.len.result ≡ length i.words.items + length c.args.row.words.now = search rules in
    let few = c.requires.variables in
    omega (arith, old, len, few)

pub invariant_of-self-2 : goal.invariant_of-self-2
invariant_of-self-2 c =
    let i = c.self.inside in
    let row = c.args.row in
    let old : length i.words.items ≡ variable_count c.args.self.now.rows =
    variables_are i.patterns.items i.moments.items i.types.items i.ends.items i.words.items i.bytes c.self.invariant
    ∙ ap (λ (s : ColumnsState). variable_count s.rows) c.self.view_is in
    let count : length i.patterns.items ≡ length c.args.self.now.rows =
    sym (length-rows_of i.patterns.items i.moments.items i.types.items i.ends.items i.words.items) ∙ ap (λ (s : ColumnsState). length s.rows) c.self.view_is in
    let end : c.len.result ≡ length c.extend_from_slice.new.self.items = search rules in
    let few = c.requires.rows in
    let room = c.requires.variables in
    columns_now i.patterns.items i.moments.items i.types.items i.ends.items i.words.items i.bytes c.self.invariant row.pattern row.moment row.log_type c.len.result row.words.now
    c.push_reserved.new.self.items c.push_reserved-2.new.self.items c.push_reserved-3.new.self.items c.push_reserved-4.new.self.items c.extend_from_slice.new.self.items
    (search rules) (search (rules, c.ranges.row)) (search rules) (search rules) (search rules) end
    c.args.bytes (omega (arith, count, few)) (omega (arith, old, room)) (omega (arith, c.requires.bytes))

pub returns-clause-rows : goal.returns-clause-rows
returns-clause-rows c =
    let i = c.self.inside in
    let row = c.args.row in
    let end : c.len.result ≡ length c.extend_from_slice.new.self.items = search rules in
    rows_now i.patterns.items i.moments.items i.types.items i.ends.items i.words.items i.bytes c.self.invariant row.pattern row.moment row.log_type c.len.result row.words.now
    c.push_reserved.new.self.items c.push_reserved-2.new.self.items c.push_reserved-3.new.self.items c.push_reserved-4.new.self.items c.extend_from_slice.new.self.items
    (search rules) (search (rules, c.ranges.row)) (search rules) (search rules) (search rules) end
    ∙ ap (λ (s : ColumnsState). s.rows ++ row_of row ∷ []) c.self.view_is
