use Rattle.std.proofs.Common.{◌≡◌, ◌∙◌, List, ℕ, rules, subst, sym}
use Rattle.std.specs.Int.{cast_signed, w64}
use Rattle.std.specs.Prelude.{All, None, Some, slice_index_or}
use Rattle.var_codec.specs.declared.Coded.TheVariants.{Decimal as DecimalWord, Whole as WholeWord}
use Rattle.subquery_filter.specs.declared.token.Token.{Token}
use Rattle.subquery_filter.specs.Filter.{IsNoCode}
use Rattle.subquery_filter.proofs.filter.Filter.is_by_bound.Goals as goal

no_code : (k : Token) (word : ℕ) → k.closed ≡ None → IsNoCode k word
no_code k word none = (
  λ same. let e : None ≡ Some (WholeWord (cast_signed w64 word)) = sym none ∙ same in cc,
  λ same. let e : None ≡ Some (DecimalWord word) = sym none ∙ same in cc,
)

pub returns : goal.returns
returns c = λ yes word below. record {
  marks = c.is_empty.ensures (search rules) word;
  code =
      subst (λ (l : List Token). All (λ k. IsNoCode k word) l) c.as_slice.ensures.value
      (λ j d lt. no_code (slice_index_or c.as_slice.result.now j d) word (c.has_closed.ensures (search rules) j d lt));
  below = λ some. below;
}
