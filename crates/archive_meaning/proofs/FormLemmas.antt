-- The entries of a legal journal have a form: their numbers fit the fields of their records.
use Rattle.std.proofs.Common.{◌≡◌, ℕ, ◌<◌, ◌≤◌, List, [], ◌∷◌, length, All, map, sym, ◌∙◌, ap, subst, arith}
use Rattle.std.specs.Prelude.{false}
use Rattle.std.specs.List.{flat_map}
use Rattle.std.proofs.lemmas.List.Concat.{flat_map-cons, length-flat_map}
use Rattle.std.proofs.lemmas.List.Elements.{All-nil, All-cons, All-append}
use Rattle.std.proofs.lemmas.List.Sums.{sum_by-le-sum_by}
use Rattle.std.proofs.lemmas.Option.{slice_get_within, get_or_from_slice_get}
use Rattle.logtype_text.specs.declared.symbols.Kind.{Kind}
use Rattle.logtype_text.specs.declared.symbols.Kind.TheVariants.{Whole, Word, Decimal}
use Rattle.logtype_text.specs.Parts.{Part, Constant, Variable, symbol_of}
use Rattle.logtype_text.specs.TypeText.{type_text}
use Rattle.column_store.specs.declared.row.Row.{Row}
use Rattle.column_store.specs.Row.{variable_count}
use Rattle.row_codec.specs.Means.{AreCanonical, EachWord, HasWord, IsCanonical}
use Rattle.row_codec.specs.Numbers.{kinds_from, numbers_of_row, word_numbers}
use Rattle.row_codec.proofs.EncoderLemmas.{kinds_are, slots}

-- a row has no more dictionary numbers than words
numbers_few : (kinds : List Kind) (row : List ℕ) → length (word_numbers kinds row) ≤ length row
numbers_few [] row = omega arith
numbers_few (kind ∷ kinds) [] = omega arith
numbers_few (Word ∷ kinds) (w ∷ row) = omega (arith, numbers_few kinds row)
numbers_few (Whole ∷ kinds) (w ∷ row) = omega (arith, numbers_few kinds row)
numbers_few (Decimal ∷ kinds) (w ∷ row) = omega (arith, numbers_few kinds row)

pub rows_numbers_few : (types : List (List ℕ)) (rows : List Row) → length (flat_map (numbers_of_row types) rows) ≤ variable_count rows
rows_numbers_few types rows = omega (
  arith,
  length-flat_map (numbers_of_row types) rows,
  sum_by-le-sum_by (λ (r : Row). length (numbers_of_row types r)) (λ (r : Row). length r.words) rows (λ r. numbers_few _ r.words),
)

-- the dictionary numbers of a row that means a message have words
numbers_low : (words : List (List ℕ)) (parts : List Part) (row : List ℕ) → EachWord (HasWord words) parts row → All (λ n. n < length words) (word_numbers (slots parts) row)
numbers_low words [] row has = All-nil (λ n. n < length words)
numbers_low words (Constant b ∷ parts) row has = numbers_low words parts row has
numbers_low words (Variable kind text ∷ parts) [] has = absurd has
numbers_low words (Variable Whole text ∷ parts) (w ∷ row) has = numbers_low words parts row has.1
numbers_low words (Variable Decimal text ∷ parts) (w ∷ row) has = numbers_low words parts row has.1
numbers_low words (Variable Word text ∷ parts) (w ∷ row) has =
    All-cons (λ n. n < length words) w _ (slice_get_within words w text has.0.1) (numbers_low words parts row has.1)

row_numbers_low : (version : ℕ) (row : Row) (types words : List (List ℕ)) (m : List ℕ) → IsCanonical version row types words m → All (λ n. n < length words) (numbers_of_row types row)
row_numbers_low version row types words m is =
    let parts = is.means.parts in
    let same : numbers_of_row types row ≡ word_numbers (slots parts) row.words =
    ap (λ t. word_numbers (kinds_from false t) row.words) (get_or_from_slice_get types row.log_type (type_text (map symbol_of parts)) [] is.means.typed)
    ∙ ap (λ k. word_numbers k row.words) (kinds_are parts) in
    subst (λ ns. All (λ n. n < length words) ns) (sym same) (numbers_low words parts row.words is.means.coded)

pub rows_numbers_low : (version : ℕ) (rows : List Row) (types words ms : List (List ℕ)) → AreCanonical version rows types words ms → All (λ n. n < length words) (flat_map (numbers_of_row types) rows)
rows_numbers_low version [] types words ms are = All-nil (λ n. n < length words)
rows_numbers_low version (r ∷ rows) types words [] are = absurd are
rows_numbers_low version (r ∷ rows) types words (m ∷ ms) are =
    subst (λ ns. All (λ n. n < length words) ns) (sym (flat_map-cons (numbers_of_row types) r rows))
    (All-append (λ n. n < length words) (numbers_of_row types r) _ (row_numbers_low version r types words m are.0) (rows_numbers_low version rows types words ms are.1))
