use Rattle.std.proofs.Common.{List, ◌∙◌, subst, sym}
use Rattle.subquery_filter.specs.declared.token.Token.{Token}
use Rattle.subquery_filter.specs.Filter.{AreCoded, AreKindBits}
use Rattle.subquery_filter.specs.StepsFilter.{HasAll}
use Rattle.subquery_filter.proofs.ClosedLemmas.{are_coded}
use Rattle.subquery_filter.proofs.filter.Filter.question.Goals as goal

pub returns-clause-question : goal.returns-clause-question
returns-clause-question c = λ types a.
    let looked = c.as_slice-looked.ensures.value in
    let coded : AreCoded c.as_slice-looked.result.now = subst AreCoded (sym looked) (are_coded _ c.args.self.now.tokens.items a.are) in
    record {
      wide = c.in_ok-copied.ensures ∙ c.wide-2.ensures;
      skeleton = c.in_ok-copied-2.ensures ∙ c.skeleton.ensures;
      all = subst (λ (l : List Token). HasAll l c.all_bits.result) looked c.all_bits.ensures.each;
      kinds = subst (λ (l : List Token). AreKindBits l c.kind_bits-kinds.result) looked (c.kind_bits-kinds.ensures coded);
    }
