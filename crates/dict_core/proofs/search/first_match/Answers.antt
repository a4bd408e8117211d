use Rattle.std.proofs.Common.{◌≡◌, ◌+◌, ◌∙◌, sym, ap, subst, length, arith, ⊎_elim}
use Rattle.std.proofs.lemmas.Bool.{cases_lt}
use Rattle.std.proofs.lemmas.List.{take_rest}
use Rattle.dict_core.specs.Buffer.{text_at}
use Rattle.dict_core.proofs.BufferLemmas.{start_last}
use Rattle.dict_core.proofs.SearchLemmas.{rise_all, none_behind, some_behind, Hit, hit_passes, hit_is, hit_is_other}
use Rattle.dict_core.proofs.search.first_match.Goals as goal
use Rattle.dict_core.proofs.search.first_match.Goals.{else-start_of-at-via-then-start_of-at+else-ends-number, else-start_of-at-via-else-start_of-at}

pub slice_bounds-find-count : goal.slice_bounds-find-count
slice_bounds-find-count c =
    omega (arith, c.start_of-from.ensures, start_last 0 c.args.ends.now (length c.args.bytes.now) c.texts.next c.requires.rise c.texts.invariant.0)

pub slice_bounds-find-start : goal.slice_bounds-find-start
slice_bounds-find-start c =
    let h = start_last 0 c.args.ends.now (length c.args.bytes.now) c.texts.next c.requires.rise c.texts.invariant.0 in
    grind (arith, h, c.start_of-from.ensures)

pub returns-in_default : goal.returns-in_default
returns-in_default c = λ k _ below is.
    let nowhere = rw (take_rest c.args.bytes.now c.start_of-from.result, c.start_of-from.ensures) at c.in_default.ensures in
    ⊎_elim (λ l. c.texts.invariant.1 k l is) (λ l. none_behind c.args.bytes.now c.args.ends.now c.args.finder.now c.texts.next c.requires.rise nowhere k l below is)
    (cases_lt k c.texts.next)

pub holder-number-requires-clause-rise : goal.holder-number-requires-clause-rise
holder-number-requires-clause-rise c = rise_all 0 c.args.ends.now (length c.args.bytes.now) c.requires.rise

pub holder-number-requires-clause-some : goal.holder-number-requires-clause-some
holder-number-requires-clause-some c =
    let match = rw (take_rest c.args.bytes.now c.start_of-from.result, c.start_of-from.ensures) at c.in-Some.ensures.1 in
    (some_behind c.args.bytes.now c.args.ends.now c.args.finder.now c.texts.next c.in-Some.skipped c.requires.rise c.texts.invariant.0 c.requires.some match).0

pub holder-number-requires-clause-within : goal.holder-number-requires-clause-within
holder-number-requires-clause-within c =
    let match = rw (take_rest c.args.bytes.now c.start_of-from.result, c.start_of-from.ensures) at c.in-Some.ensures.1 in
    rw c.start_of-from.ensures
    (some_behind c.args.bytes.now c.args.ends.now c.args.finder.now c.texts.next c.in-Some.skipped c.requires.rise c.texts.invariant.0 c.requires.some match).1

pub returns-then-ends-number : goal.returns-then-ends-number
returns-then-ends-number c =
    let bytes = c.args.bytes.now in let ends = c.args.ends.now in let needle = c.args.finder.now in
    let next = c.texts.next in let number = c.holder-number.result in let skipped = c.in-Some.skipped in
    let hit : Hit bytes ends needle next skipped number = record {
      rise = c.requires.rise;
      some = c.requires.some;
      first = rw (take_rest bytes c.start_of-from.result, c.start_of-from.ensures) at c.in-Some.ensures.0.before;
      match = rw (take_rest bytes c.start_of-from.result, c.start_of-from.ensures) at c.in-Some.ensures.1;
      low = c.holder-number.ensures.low;
      high = c.holder-number.ensures.high;
      before = rw c.start_of-from.ensures at c.holder-number.ensures.before;
    } in
    let begins = sym c.start_of.ensures ∙ c.if-start_of-at.true ∙ ap (λ f. f + skipped) c.start_of-from.ensures in
    let ends_so = c.if-ends-number.true ∙ (λ i. c.start_of-from.ensures i + skipped + length (c.needle-len.ensures i)) in (
      record {
        low = omega arith;
        high = c.holder-number.ensures.high;
        before = λ k _ below is. ⊎_elim (λ l. c.texts.invariant.1 k l is) (λ l. hit_passes bytes ends needle next skipped number hit k l below is) (cases_lt k next);
      },
      hit_is bytes ends needle next skipped number hit begins ends_so,
    )

pub texts-preserved : goal.texts-preserved
texts-preserved c =
    let bytes = c.args.bytes.now in let ends = c.args.ends.now in let needle = c.args.finder.now in
    let next = c.texts.next in let number = c.holder-number.result in let skipped = c.in-Some.skipped in
    let hit : Hit bytes ends needle next skipped number = record {
      rise = c.requires.rise;
      some = c.requires.some;
      first = rw (take_rest bytes c.start_of-from.result, c.start_of-from.ensures) at c.in-Some.ensures.0.before;
      match = rw (take_rest bytes c.start_of-from.result, c.start_of-from.ensures) at c.in-Some.ensures.1;
      low = c.holder-number.ensures.low;
      high = c.holder-number.ensures.high;
      before = rw c.start_of-from.ensures at c.holder-number.ensures.before;
    } in
    let at = ap (λ f. f + skipped) c.start_of-from.ensures in
    let other : text_at bytes ends number ≡ needle → ⊥ = hit_is_other bytes ends needle next skipped number hit (λ begins ends_so. elim c.else-start_of-at.branch [
      | else-start_of-at-via-then-start_of-at+else-ends-number w ↦ w.if-ends-number.false (ends_so ∙ sym (λ i. at i + length (c.needle-len.ensures i)))
      | else-start_of-at-via-else-start_of-at w ↦ w.if-start_of-at.false (c.start_of.ensures ∙ begins ∙ sym at)
    ]) in (
      omega (arith, c.holder-number.ensures.high),
      λ k below is. ⊎_elim
          (λ l. c.texts.invariant.1 k l is)
          (λ l. ⊎_elim
          (λ low. hit_passes bytes ends needle next skipped number hit k l low is)
          (λ reaches.
          let same : k ≡ number = omega (arith, below, reaches) in
          other (subst (λ n. text_at bytes ends n ≡ needle) same is))
          (cases_lt k number))
          (cases_lt k next),
    )
