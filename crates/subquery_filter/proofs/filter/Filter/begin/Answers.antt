use Rattle.std.proofs.Common.{ℕ, List, rules, subst, sym}
use Rattle.std.specs.Prelude.{bit_or, slice_index_or}
use Rattle.query_plan.specs.Pieces.{IsCut}
use Rattle.subquery_filter.specs.declared.run.Run.{Run}
use Rattle.subquery_filter.specs.declared.token.Token.{Token}
use Rattle.subquery_filter.specs.Filter.{AreCoded, AreNumberBits, AreOpenBits, AreRunStamps, AreRuns, AreStamps, AreTexts, Has, IsWanted, marks_at}
use Rattle.subquery_filter.specs.StepsFilter.{AreTokens}
use Rattle.subquery_filter.proofs.AloneLemmas.{alone_none}
use Rattle.subquery_filter.proofs.ClosedLemmas.{are_coded}
use Rattle.subquery_filter.proofs.FilterLemmas.{tests_none}
use Rattle.subquery_filter.proofs.SlotLemmas.{number_bits}
use Rattle.subquery_filter.proofs.MarkLemmas.{none_brought, told_none}
use Rattle.subquery_filter.proofs.NeedLemmas.{needs_none}
use Rattle.subquery_filter.proofs.filter.Filter.begin.Goals as goal

pub returns : goal.returns
returns c = λ types.
    let tokens = c.in_ok-tokens.tokens.items in
    let looked = c.as_slice-looked.ensures.value in
    let coded : AreCoded c.as_slice-looked.result.now = subst AreCoded (sym looked) (are_coded _ tokens c.in_ok-tokens.ensures) in
    let needles = c.in_ok-needles.needles.items in
    let kinds = c.kind_bits-kinds.result in
    record {
      cut = subst IsCut c.pieces-pieces.ensures.pieces c.pieces-pieces.ensures.cut;
      are = subst (λ ps. AreTokens ps tokens) c.pieces-pieces.ensures.pieces c.in_ok-tokens.ensures;
      wanted = subst (λ (l : List Token). IsWanted l c.all_bits-wanted.result) looked c.all_bits-wanted.ensures.only;
      numeric = subst (λ (l : List Token). AreOpenBits l c.open_bits-numeric.result) looked c.open_bits-numeric.ensures;
      tests = tests_none _ tokens _ types _ _ (search rules);
      needles = subst (λ (l : List Token). AreTexts l needles) looked c.in_ok-needles.ensures;
      told = told_none _ _ _ _ (search rules);
      needs = needs_none _ _ _ _ _ _ _ (search rules);
      brought = λ n. none_brought c.all_bits-wanted.result (marks_at c.none.result n) (c.none.ensures n);
      numbers = subst (λ (l : List Token). AreNumberBits l (bit_or kinds.whole kinds.decimal)) looked (number_bits c.as_slice-looked.result.now kinds (c.kind_bits-kinds.ensures coded));
      small = c.none-small.ensures tokens;
      stamps = subst (λ (l : List Token). AreStamps l c.in_ok-stamps.stamps.items) looked c.in_ok-stamps.ensures;
      stamped = subst (λ (l : List ℕ). (pattern : ℕ) → Has c.any_of-stamped.result (slice_index_or l pattern 0)) c.as_slice.ensures.value c.any_of-stamped.ensures;
      runs = subst (λ ps. AreRuns ps c.in_ok-runs.runs.items) c.pieces-pieces.ensures.pieces c.in_ok-runs.ensures;
      alone = alone_none _ types _ (search rules);
      run_stamps = subst (λ (l : List Run). AreRunStamps l c.in_ok-run_stamps.run_stamps.items) c.as_slice-2.ensures.value c.in_ok-run_stamps.ensures;
      run_stamped = subst (λ (l : List ℕ). (pattern : ℕ) → Has c.any_of-run_stamped.result (slice_index_or l pattern 0)) c.as_slice-3.ensures.value c.any_of-run_stamped.ensures;
    }
