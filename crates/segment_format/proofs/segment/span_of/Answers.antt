use Rattle.std.proofs.Common.{◌≡◌, ◌<◌, ◌+◌, ◌++◌, ◌∷◌, [], ℕ, ℤ, pos, List, true, false, nat_eq, if◌then◌else◌, length, take, get_or, sym, ap, ◌∙◌, to_z, of_z, to_z-of_z, eq-eqb, ne_eqb, arith}
use Rattle.std.specs.Int.{w64}
use Rattle.std.specs.Int.RustNames.{FitsSigned}
use Rattle.std.specs.Ordering.{int_cmp, ord_min, ord_max}
use Rattle.std.proofs.lemmas.List.{get_or-map}
use Rattle.column_store.specs.declared.row.Row.{Row}
use Rattle.segment_format.specs.Layout.{stamped_moments, has_any, least_of, greatest_of}
use Rattle.segment_format.proofs.SegmentLemmas.{no_row, stamp_more, stamp_none, any_push, least_push, greatest_push}
use Rattle.segment_format.proofs.segment.span_of.Goals as goal

pub loop-place-preserved-then-patterns-place-eq0 : goal.loop-place-preserved-then-patterns-place-eq0
loop-place-preserved-then-patterns-place-eq0 c =
    let rows : List Row = c.args.columns.now.rows in
    let i = c.loop-place.place in
    let inv = c.loop-place.invariant in
    let lt : i < length rows = omega (arith, c.loop-place-test.true, inv.2) in
    let pattern : (get_or rows i no_row).pattern ≡ get_or c.patterns-patterns.result.now i 0 =
    sym (get_or-map (λ (r : Row). r.pattern) rows i no_row 0 lt) ∙ ap (λ (l : List ℕ). get_or l i 0) (sym inv.0) in
    let none : nat_eq (get_or rows i no_row).pattern 0 ≡ true = eq-eqb (get_or rows i no_row).pattern 0 (omega (arith, pattern, c.if-patterns-place-eq0.true)) in
    let same : stamped_moments (take (i + 1) rows) ≡ stamped_moments (take i rows) = stamp_none rows i no_row lt none in
    (inv.0, inv.1, inv.2, inv.3 ∙ ap has_any (sym same), inv.4 ∙ ap least_of (sym same), inv.5 ∙ ap greatest_of (sym same))

pub loop-place-preserved : goal.loop-place-preserved
loop-place-preserved c =
    let rows : List Row = c.args.columns.now.rows in
    let i = c.loop-place.place in
    let inv = c.loop-place.invariant in
    let ms : List ℤ = stamped_moments (take i rows) in
    let lt : i < length rows = omega (arith, c.loop-place-test.true, inv.2) in
    let pattern : (get_or rows i no_row).pattern ≡ get_or c.patterns-patterns.result.now i 0 =
    sym (get_or-map (λ (r : Row). r.pattern) rows i no_row 0 lt) ∙ ap (λ (l : List ℕ). get_or l i 0) (sym inv.0) in
    let some : nat_eq (get_or rows i no_row).pattern 0 ≡ false = ne_eqb (get_or rows i no_row).pattern 0 (λ e. c.if-patterns-place-eq0.false (omega (arith, pattern, e))) in
    let m : ℤ = (get_or rows i no_row).moment in
    let more : stamped_moments (take (i + 1) rows) ≡ ms ++ m ∷ [] = stamp_more rows i no_row lt some in
    let fits : FitsSigned w64 m = (c.rows_fit.ensures i no_row lt).moment in
    let read : get_or c.moments-moments.result.now i (pos 0) ≡ m =
    ap (λ (l : List ℤ). get_or l i (pos 0)) inv.1 ∙ get_or-map (λ (r : Row). r.moment) rows i no_row (pos 0) lt in
    let moment : to_z w64 (of_z w64 (get_or c.moments-moments.result.now i (pos 0))) ≡ m = ap (λ (z : ℤ). to_z w64 (of_z w64 z)) read ∙ to_z-of_z {w = w64} {z = m} fits in
    let least : c.lesser-least.result ≡ (if has_any ms then ord_min int_cmp (least_of ms) m else m) =
    c.lesser-least.ensures.is ∙ (λ j. if inv.3 j then ord_min int_cmp (inv.4 j) (moment j) else moment j) in
    let greatest : c.greater-greatest.result ≡ (if has_any ms then ord_max int_cmp (greatest_of ms) m else m) =
    c.greater-greatest.ensures.is ∙ (λ j. if inv.3 j then ord_max int_cmp (inv.5 j) (moment j) else moment j) in (
      inv.0,
      inv.1,
      inv.2,
      sym (ap has_any more ∙ any_push ms m),
      to_z-of_z {w = w64} {z = c.lesser-least.result} c.lesser-least.ensures.fits ∙ least ∙ sym (ap least_of more ∙ least_push ms m),
      to_z-of_z {w = w64} {z = c.greater-greatest.result} c.greater-greatest.ensures.fits ∙ greatest ∙ sym (ap greatest_of more ∙ greatest_push ms m),
    )
