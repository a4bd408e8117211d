use Rattle.std.proofs.Common.{◌≡◌, ◌<◌, ℕ, List, length, map, ap, ◌∙◌, to_z, of_z, to_z-of_z, rules, arith}
use Rattle.std.specs.Int.{w64}
use Rattle.column_store.specs.declared.row.Row.{Row}
use Rattle.segment_format.specs.declared.fixed.Fixed.{Fixed}
use Rattle.segment_format.specs.declared.head.Head.{Head}
use Rattle.segment_format.specs.Layout.{head_of, fixed_of, sorted_set}
use Rattle.segment_format.proofs.SegmentLemmas.{fixed_grown, list_grown, wrote_segment, few_types}
use Rattle.segment_format.proofs.segment.write_segment.Goals as goal

pub overflow_cast-fixed : goal.overflow_cast-fixed
overflow_cast-fixed c =
    let few : c.rows.result < 4294967296 = search rules in
    let len : c.len.result ≡ length c.in_ok-types.types.items = search rules in
    omega (arith, len, few_types c.args.columns.now.rows c.types.result.now c.in_ok-types.types.items c.types.ensures c.in_ok-types.ensures.few (omega (arith, few, c.rows.ensures)))

pub put_fixed-requires : goal.put_fixed-requires
put_fixed-requires c =
    let few : c.rows.result < 4294967296 = search rules in
    let len : c.len.result ≡ length c.in_ok-types.types.items = search rules in
    record {
      file = search rules;
      first = search rules;
      rows = search rules;
      least = search rules;
      greatest = search rules;
      types = omega (arith, len, few_types c.args.columns.now.rows c.types.result.now c.in_ok-types.types.items c.types.ensures c.in_ok-types.ensures.few (omega (arith, few, c.rows.ensures)));
      words = search rules;
      variables = search rules;
    }

pub put_numbers-requires-clause-few : goal.put_numbers-requires-clause-few
put_numbers-requires-clause-few c =
    let few : c.rows.result < 4294967296 = search rules in
    let len : length c.as_slice.result.now ≡ length c.in_ok-types.types.items = ap (λ (l : List ℕ). length l) c.as_slice.ensures.value in
    omega (arith, len, few_types c.args.columns.now.rows c.types.result.now c.in_ok-types.types.items c.types.ensures c.in_ok-types.ensures.few (omega (arith, few, c.rows.ensures)))

pub put_numbers-requires-clause-room : goal.put_numbers-requires-clause-room
put_numbers-requires-clause-room c =
    let empty : length c.in_ok-out.out.items ≡ 0 = ap (λ (l : List ℕ). length l) c.in_ok-out.ensures.items in
    let l1 = fixed_grown _ c.in_ok-out.out.items c.put_fixed.new.out.items c.in_ok-put_fixed.ensures in
    omega (arith, empty, l1)

pub put_numbers-requires-2-clause-room : goal.put_numbers-requires-2-clause-room
put_numbers-requires-2-clause-room c =
    let rows : List Row = c.args.columns.now.rows in
    let few : c.rows.result < 4294967296 = search rules in
    let types : length c.as_slice.result.now ≡ length c.in_ok-types.types.items = ap (λ (l : List ℕ). length l) c.as_slice.ensures.value in
    let few_of = few_types rows c.types.result.now c.in_ok-types.types.items c.types.ensures c.in_ok-types.ensures.few (omega (arith, few, c.rows.ensures)) in
    let empty : length c.in_ok-out.out.items ≡ 0 = ap (λ (l : List ℕ). length l) c.in_ok-out.ensures.items in
    let l1 = fixed_grown _ c.in_ok-out.out.items c.put_fixed.new.out.items c.in_ok-put_fixed.ensures in
    let l2 = list_grown c.put_fixed.new.out.items c.put_numbers.new.out.items c.as_slice.result.now c.in_ok-put_numbers.ensures in
    omega (arith, empty, l1, l2, types, few_of)

pub put_columns-requires-clause-room : goal.put_columns-requires-clause-room
put_columns-requires-clause-room c =
    let rows : List Row = c.args.columns.now.rows in
    let few : c.rows.result < 4294967296 = search rules in
    let types : length c.as_slice.result.now ≡ length c.in_ok-types.types.items = ap (λ (l : List ℕ). length l) c.as_slice.ensures.value in
    let few_of = few_types rows c.types.result.now c.in_ok-types.types.items c.types.ensures c.in_ok-types.ensures.few (omega (arith, few, c.rows.ensures)) in
    let empty : length c.in_ok-out.out.items ≡ 0 = ap (λ (l : List ℕ). length l) c.in_ok-out.ensures.items in
    let l1 = fixed_grown _ c.in_ok-out.out.items c.put_fixed.new.out.items c.in_ok-put_fixed.ensures in
    let l2 = list_grown c.put_fixed.new.out.items c.put_numbers.new.out.items c.as_slice.result.now c.in_ok-put_numbers.ensures in
    let words : length c.as_slice-2.result.now ≡ length c.args.words.now = ap (λ (l : List ℕ). length l) c.as_slice-2.ensures in
    let l3 = list_grown c.put_numbers.new.out.items c.put_numbers-2.new.out.items c.as_slice-2.result.now c.in_ok-put_numbers-2.ensures in
    omega (arith, empty, l1, l2, l3, types, few_of, words, c.requires.count)

pub returns : goal.returns
returns c =
    let f : Fixed = record {
      file = c.args.file;
      first = c.args.first;
      rows = c.rows.result;
      last = c.args.last;
      ended = c.args.ended;
      stamped = c.span_of-stamped.result.0;
      least = to_z w64 (of_z w64 c.span_of-stamped.result.1);
      greatest = to_z w64 (of_z w64 c.span_of-stamped.result.2);
      types = c.len.result;
      words = c.len-2.result;
      variables = c.variables.result;
    } in
    let rows : List Row = c.args.columns.now.rows in
    let h : Head = head_of c.args.file c.args.first c.args.last c.args.ended rows c.args.words.now in
    let types : c.as_slice.result.now ≡ sorted_set (map (λ r. r.log_type) rows) = c.as_slice.ensures.value ∙ c.in_ok-types.ensures.is ∙ ap sorted_set c.types.ensures in
    let len : c.len.result ≡ length c.as_slice.result.now = search rules in
    let least = to_z-of_z {w = w64} {z = c.span_of-stamped.result.1} c.span_of-stamped.ensures.fits_least ∙ c.span_of-stamped.ensures.least in
    let greatest = to_z-of_z {w = w64} {z = c.span_of-stamped.result.2} c.span_of-stamped.ensures.fits_greatest ∙ c.span_of-stamped.ensures.greatest in
    let counted : c.len.result ≡ length h.types = len ∙ ap (λ (l : List ℕ). length l) types in
    let is : f ≡ fixed_of h = λ i. record {
      file = c.args.file;
      first = c.args.first;
      rows = c.rows.ensures i;
      last = c.args.last;
      ended = c.args.ended;
      stamped = c.span_of-stamped.ensures.stamped i;
      least = least i;
      greatest = greatest i;
      types = counted i;
      words = c.len-2.ensures i;
      variables = c.variables.ensures i;
    } in
    c.new.ensures ∙ wrote_segment h f rows c.in_ok-out.out.items c.put_fixed.new.out.items c.put_numbers.new.out.items c.put_numbers-2.new.out.items c.put_columns.new.out.items
    c.as_slice.result.now c.as_slice-2.result.now c.in_ok-out.ensures.items c.in_ok-put_fixed.ensures c.in_ok-put_numbers.ensures c.in_ok-put_numbers-2.ensures c.in_ok-put_columns.ensures
    is types c.as_slice-2.ensures
