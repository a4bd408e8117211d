-- What a row means depends on no other texts than those that its numbers name.
use Rattle.std.proofs.Common.{◌≡◌, ℕ, suc, List, [], ◌∷◌, map, refl, sym, ◌∙◌, ap, subst, arith}
use Rattle.std.specs.Prelude.{Contains, Option, Some, slice_get, unwrap_or, false}
use Rattle.std.proofs.lemmas.Option.{get_or_from_slice_get, unwrap_or-slice_get}
use Rattle.logtype_text.specs.declared.symbols.Kind.{Kind}
use Rattle.logtype_text.specs.declared.symbols.Kind.TheVariants.{Whole, Word, Decimal}
use Rattle.logtype_text.specs.Parts.{Part, Constant, Variable, symbol_of}
use Rattle.logtype_text.specs.TypeText.{type_text}
use Rattle.column_store.specs.declared.row.Row.{Row}
use Rattle.row_codec.specs.Means.{EachWord, HasWord, IsWritten}
use Rattle.row_codec.specs.Numbers.{kinds_from, numbers_of_row, word_numbers}
use Rattle.row_codec.proofs.EncoderLemmas.{kinds_are, slots}
use Rattle.word_places.specs.Local.{Agree, EncodingIsLocal, EncodingIsOfType, MeaningIsLocal, MeaningIsOfType, NumbersAreOfType, SpellingIsLocal, SpellingIsOfType}

here : (n : ℕ) (numbers : List ℕ) → Contains (n ∷ numbers) n
here n numbers = (0, omega arith, refl)

pub behind : (m n : ℕ) (numbers : List ℕ) → Contains numbers n → Contains (m ∷ numbers) n
behind m n numbers at = (suc at.0, omega (arith, at.1), at.2)

agree_behind : (n : ℕ) (numbers : List ℕ) (a b : List (List ℕ)) → Agree (n ∷ numbers) a b → Agree numbers a b
agree_behind n numbers a b agree = λ m at. agree m (behind n m numbers at)

written_local : (a b : List (List ℕ)) (parts : List Part) (row : List ℕ) → Agree (word_numbers (slots parts) row) a b
    → EachWord (IsWritten a) parts row → EachWord (IsWritten b) parts row
written_local a b [] [] agree written = tt
written_local a b [] (w ∷ row) agree written = absurd written
written_local a b (Constant c ∷ parts) row agree written = written_local a b parts row agree written
written_local a b (Variable kind text ∷ parts) [] agree written = absurd written
written_local a b (Variable Whole text ∷ parts) (w ∷ row) agree written = (written.0, written_local a b parts row agree written.1)
written_local a b (Variable Decimal text ∷ parts) (w ∷ row) agree written = (written.0, written_local a b parts row agree written.1)
written_local a b (Variable Word text ∷ parts) (w ∷ row) agree written =
    (sym (agree w (here w (word_numbers (slots parts) row))) ∙ written.0, written_local a b parts row (agree_behind w (word_numbers (slots parts) row) a b agree) written.1)

coded_local : (a b : List (List ℕ)) (parts : List Part) (row : List ℕ) → Agree (word_numbers (slots parts) row) a b
    → EachWord (HasWord a) parts row → EachWord (HasWord b) parts row
coded_local a b [] [] agree coded = tt
coded_local a b [] (w ∷ row) agree coded = absurd coded
coded_local a b (Constant c ∷ parts) row agree coded = coded_local a b parts row agree coded
coded_local a b (Variable kind text ∷ parts) [] agree coded = absurd coded
coded_local a b (Variable Whole text ∷ parts) (w ∷ row) agree coded = (coded.0, coded_local a b parts row agree coded.1)
coded_local a b (Variable Decimal text ∷ parts) (w ∷ row) agree coded = (coded.0, coded_local a b parts row agree coded.1)
coded_local a b (Variable Word text ∷ parts) (w ∷ row) agree coded =
    ((coded.0.0, sym (agree w (here w (word_numbers (slots parts) row))) ∙ coded.0.1), coded_local a b parts row (agree_behind w (word_numbers (slots parts) row) a b agree) coded.1)

-- a row's numbers by the parts of its log type
numbers_by : (row : Row) (types : List (List ℕ)) (parts : List Part) → slice_get types row.log_type ≡ Some (type_text (map symbol_of parts))
    → numbers_of_row types row ≡ word_numbers (slots parts) row.words
numbers_by row types parts typed =
    ap (λ (text : List ℕ). word_numbers (kinds_from false text) row.words) (get_or_from_slice_get types row.log_type (type_text (map symbol_of parts)) [] typed)
    ∙ ap (λ (kinds : List Kind). word_numbers kinds row.words) (kinds_are parts)

pub spelling_is_local : SpellingIsLocal
spelling_is_local row types a b message agree is = record {
  stamp = is.stamp;
  parts = is.parts;
  typed = is.typed;
  written = written_local a b is.parts row.words (subst (λ (ns : List ℕ). Agree ns a b) (numbers_by row types is.parts is.typed) agree) is.written;
  stamped = is.stamped;
  is = is.is;
}

pub meaning_is_local : MeaningIsLocal
meaning_is_local row types a b message agree is = record {
  stamp = is.stamp;
  parts = is.parts;
  typed = is.typed;
  coded = coded_local a b is.parts row.words (subst (λ (ns : List ℕ). Agree ns a b) (numbers_by row types is.parts is.typed) agree) is.coded;
  stamped = is.stamped;
  is = is.is;
}

pub encoding_is_local : EncodingIsLocal
unfolding meaning_is_local
encoding_is_local version row types a b message agree is = record { means = meaning_is_local row types a b message agree is.means; body = is.body; stamp = is.stamp }

-- ---- the log types

pub numbers_are_of_type : NumbersAreOfType
numbers_are_of_type row a b same =
    ap (λ (text : List ℕ). word_numbers (kinds_from false text) row.words)
    (sym (unwrap_or-slice_get a row.log_type []) ∙ ap (λ (o : Option (List ℕ)). unwrap_or o []) same ∙ unwrap_or-slice_get b row.log_type [])

pub spelling_is_of_type : SpellingIsOfType
spelling_is_of_type row a b words message same is = record {
  stamp = is.stamp;
  parts = is.parts;
  typed = sym same ∙ is.typed;
  written = is.written;
  stamped = is.stamped;
  is = is.is;
}

pub meaning_is_of_type : MeaningIsOfType
meaning_is_of_type row a b words message same is = record {
  stamp = is.stamp;
  parts = is.parts;
  typed = sym same ∙ is.typed;
  coded = is.coded;
  stamped = is.stamped;
  is = is.is;
}

pub encoding_is_of_type : EncodingIsOfType
unfolding meaning_is_of_type
encoding_is_of_type version row a b words message same is = record { means = meaning_is_of_type row a b words message same is.means; body = is.body; stamp = is.stamp }
