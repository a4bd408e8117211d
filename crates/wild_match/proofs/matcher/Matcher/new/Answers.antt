use Rattle.std.proofs.Common.{◌≡◌, ◌<◌, ◌+◌, ◌∷◌, ◌++◌, length, take, drop, arith, sym, subst, ap, ◌∙◌}
use Rattle.std.proofs.lemmas.List.{take_rest}
use Rattle.wild_match.specs.declared.pattern.Item.TheVariants.{Many}
use Rattle.wild_match.specs.Matches.{IsFixed, joined}
use Rattle.wild_match.specs.Runs.{IsLiteralRun, IsLongestRun}
use Rattle.wild_match.proofs.Matching.{split_at_many}
use Rattle.wild_match.proofs.matcher.Matcher.new.Goals as goal

pub invariant_of-result-2 : goal.invariant_of-result-2
invariant_of-result-2 c =
    let items = c.as_slice-items.result.now in
    let n = c.fixed_len-end.result in
    let lt : n < length items = omega arith in
    let finder = c.in_ok-finder.finder in
    let found : finder ≡ c.in_ok-run.run'.bytes.items = c.in_ok-finder.ensures ∙ (c.new.ensures ∙ c.as_slice.ensures.value) in
    let behind = joined c.in_ok-behind.behind.pieces.items c.in_ok-behind.behind.tail.items in
    let rest : behind ≡ drop (n + 1) items = rw (take_rest items (n + 1)) at c.in_ok-behind.ensures.items in
    let e : c.in_ok-front.front.items ++ Many ∷ behind ≡ items =
    ap (λ p. p ++ Many ∷ behind) c.in_ok-front.ensures.items ∙ (ap (λ q. take n items ++ Many ∷ q) rest ∙ sym (split_at_many items n (c.fixed_len-end.ensures.many lt))) in
    let run : IsLiteralRun items finder = subst (IsLiteralRun items) (sym found) (c.in_ok-run.run'.start, c.in_ok-run.ensures.run) in
    let longest : IsLongestRun items finder = subst (IsLongestRun items) (sym found) c.in_ok-run.ensures.longest in (
      subst IsFixed (sym c.in_ok-front.ensures.items) c.fixed_len-end.ensures.fixed,
      c.in_ok-behind.ensures.tail,
      subst (λ q. IsLiteralRun q finder) (sym e) run,
      subst (λ q. IsLongestRun q finder) (sym e) longest,
    )
