-- What the rules of barren segments tell without the lists of words.
use Rattle.std.proofs.Common.{◌<◌, ◌^◌, ℕ, List, [], inl, inr, arith}
use Rattle.std.proofs.lemmas.List.Elements.{All-nil}
use Rattle.column_store.specs.declared.range.Range.{Range}
use Rattle.segment_format.specs.declared.head.Head.{Head}
use Rattle.segment_format.specs.Layout.{IsHead, IsNumberSet}
use Rattle.query_plan.specs.declared.pieces.Piece.{Piece}
use Rattle.barren_segments.specs.Barren.{IsBarren, LacksWord}
use Rattle.subquery_filter.specs.ByTypes.{NeedsNoVariable, with_words}

none_lacks : (ps : List Piece) (words : List (List ℕ)) (listed : List ℕ) → NeedsNoVariable ps → ¬ LacksWord ps words listed
none_lacks ps words listed none (text, needed, missing) = none needed.0 needed.2

-- where no needed word is a variable, whatever words a head lists, it is barren with any others
pub barren_still : (ps : List Piece) (range : Range) (types words : List (List ℕ)) (head : Head) (listed others : List ℕ) → NeedsNoVariable ps
    → IsBarren ps range types words (with_words listed head) → IsBarren ps range types words (with_words others head)
barren_still ps range types words head listed others none (inl empty) = inl empty
barren_still ps range types words head listed others none (inr (inl outside)) = inr (inl outside)
barren_still ps range types words head listed others none (inr (inr (inl lacks))) = absurd (none_lacks ps words listed none lacks)
barren_still ps range types words head listed others none (inr (inr (inr types_lack))) = inr (inr (inr types_lack))

no_numbers : IsNumberSet []
no_numbers = record {
  rise = λ k lt. absurd (omega (arith, lt));
  fit = All-nil (λ n. n < 2 ^ 32);
  count = omega arith;
}

-- a head is one without its words too
pub head_without : (head : Head) → IsHead head → IsHead (with_words [] head)
head_without head is =
    let fixed = is.fixed in
    record {
      fixed = record {
        file = fixed.file;
        first = fixed.first;
        rows = fixed.rows;
        least = fixed.least;
        greatest = fixed.greatest;
        types = fixed.types;
        words = omega arith;
        variables = fixed.variables;
      };
      types = is.types;
      words = no_numbers;
    }
