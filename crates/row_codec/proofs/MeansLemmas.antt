-- What rows mean: dictionaries that grow change nothing, and a row is written as one message.
use Rattle.std.proofs.Common.{◌≡◌, ℕ, zero, suc, List, [], ◌∷◌, ◌++◌, map, refl, sym, ◌∙◌, ap, ap₂, subst}
use Rattle.std.specs.Prelude.{ℤ, Some, slice_get}
use mathlib.Core.List.{IsPrefix}
use Rattle.std.specs.Int.{cast_signed, w64}
use Rattle.std.specs.Fmt.{signed_decimal}
use Rattle.std.proofs.lemmas.Int.{to_z-of_z}
use Rattle.var_codec.proofs.Words.{same_text}
use Rattle.logtype_text.specs.declared.symbols.Kind.{Kind}
use Rattle.logtype_text.specs.declared.symbols.Kind.TheVariants.{Whole, Word, Decimal}
use Rattle.logtype_text.specs.declared.symbols.Symbol.TheVariants.{Byte, Slot}
use Rattle.logtype_text.specs.Parts.{Part, Constant, Variable, joined, symbol_of}
use Rattle.logtype_text.specs.TypeText.{type_text}
use Rattle.logtype_text.proofs.TextLemmas.{one_text}
use Rattle.time_patterns.proofs.LawLemmas.{one_text as one_stamp_text}
use Rattle.row_codec.specs.Laws.{CanonicalStays, MeaningIsSpelling, OneMeaning, OneSpelling}
use Rattle.row_codec.specs.Means.{EachWord, HasStampText, HasWord, IsWritten}

front_keeps : {A : Type 0} (xs rest : List A) (k : ℕ) (x : A) → slice_get xs k ≡ Some x → slice_get (xs ++ rest) k ≡ Some x
front_keeps [] rest k x at = cc
front_keeps (y ∷ xs) rest zero x at = at
front_keeps (y ∷ xs) rest (suc k) x at = front_keeps xs rest k x at

-- what a list has, it has with more behind it
pub prefix_keeps : {A : Type 0} (xs ys : List A) (k : ℕ) (x : A) → IsPrefix xs ys → slice_get xs k ≡ Some x → slice_get ys k ≡ Some x
prefix_keeps xs ys k x front at = subst (λ l. slice_get l k ≡ Some x) front.1 (front_keeps xs front.0 k x at)

word_stays : (words more : List (List ℕ)) → IsPrefix words more → (kind : Kind) (text : List ℕ) (word : ℕ) → HasWord words kind text word → HasWord more kind text word
word_stays words more front Whole text word has = has
word_stays words more front Decimal text word has = has
word_stays words more front Word text word has = (has.0, prefix_keeps words more word text front has.1)

words_stay : (words more : List (List ℕ)) → IsPrefix words more → (parts : List Part) (row : List ℕ) → EachWord (HasWord words) parts row → EachWord (HasWord more) parts row
words_stay words more front [] [] has = tt
words_stay words more front [] (w ∷ row) has = absurd has
words_stay words more front (Constant b ∷ parts) row has = words_stay words more front parts row has
words_stay words more front (Variable kind text ∷ parts) [] has = absurd has
words_stay words more front (Variable kind text ∷ parts) (w ∷ row) has = (word_stays words more front kind text w has.0, words_stay words more front parts row has.1)

pub canonical_stays : CanonicalStays
canonical_stays version row types words more_types more_words message types_front words_front is = record {
  means = record {
    stamp = is.means.stamp;
    parts = is.means.parts;
    typed = prefix_keeps types more_types row.log_type (type_text (map symbol_of is.means.parts)) types_front is.means.typed;
    coded = words_stay words more_words words_front is.means.parts row.words is.means.coded;
    stamped = is.means.stamped;
    is = is.means.is;
  };
  body = is.body;
  stamp = is.stamp;
}

word_written : (words : List (List ℕ)) (kind : Kind) (text : List ℕ) (word : ℕ) → HasWord words kind text word → IsWritten words kind text word
word_written words Whole text word has = has
word_written words Decimal text word has = has
word_written words Word text word has = has.1

pub words_written : (words : List (List ℕ)) (parts : List Part) (row : List ℕ) → EachWord (HasWord words) parts row → EachWord (IsWritten words) parts row
words_written words [] [] has = tt
words_written words [] (w ∷ row) has = absurd has
words_written words (Constant b ∷ parts) row has = words_written words parts row has
words_written words (Variable kind text ∷ parts) [] has = absurd has
words_written words (Variable kind text ∷ parts) (w ∷ row) has = (word_written words kind text w has.0, words_written words parts row has.1)

pub meaning_is_spelling : MeaningIsSpelling
meaning_is_spelling row types words message means = record {
  stamp = means.stamp;
  parts = means.parts;
  typed = means.typed;
  written = words_written words means.parts row.words means.coded;
  stamped = means.stamped;
  is = means.is;
}

-- a word of a row has one text
pub one_writing : (words : List (List ℕ)) (kind : Kind) (s t : List ℕ) (word : ℕ) → IsWritten words kind s word → IsWritten words kind t word → s ≡ t
one_writing words Whole s t word (n, a, n_is) (m, b, m_is) =
    let same : n ≡ m = sym (to_z-of_z w64 n a.fits) ∙ ap (cast_signed w64) (sym n_is ∙ m_is) ∙ to_z-of_z w64 m b.fits in
    a.prints ∙ ap signed_decimal same ∙ sym b.prints
one_writing words Decimal s t word a b = same_text s t word a b
one_writing words Word s t word a b = let same : Some s ≡ Some t = sym a ∙ b in cc

pub bytes_same : (words : List (List ℕ)) (a b : List Part) (row : List ℕ) → map symbol_of a ≡ map symbol_of b → EachWord (IsWritten words) a row → EachWord (IsWritten words) b row → joined a ≡ joined b
bytes_same words [] [] row same mine theirs = refl
bytes_same words [] (Constant c ∷ b) row same mine theirs = absurd (cc)
bytes_same words [] (Variable kind text ∷ b) row same mine theirs = absurd (cc)
bytes_same words (Constant c ∷ a) [] row same mine theirs = absurd (cc)
bytes_same words (Variable kind text ∷ a) [] row same mine theirs = absurd (cc)
bytes_same words (Constant c ∷ a) (Variable kind text ∷ b) row same mine theirs = absurd (let heads : Byte c ≡ Slot kind = cc in cc)
bytes_same words (Variable kind text ∷ a) (Constant c ∷ b) row same mine theirs = absurd (let heads : Slot kind ≡ Byte c = cc in cc)
bytes_same words (Constant c ∷ a) (Constant d ∷ b) row same mine theirs =
    let heads : Byte c ≡ Byte d = cc in
    let bytes : c ≡ d = cc in
    ap₂ (λ x l. x ∷ l) bytes (bytes_same words a b row (cc) mine theirs)
bytes_same words (Variable kind text ∷ a) (Variable other more ∷ b) [] same mine theirs = absurd mine
bytes_same words (Variable kind text ∷ a) (Variable other more ∷ b) (w ∷ row) same mine theirs =
    let heads : Slot kind ≡ Slot other = cc in
    let kinds : other ≡ kind = cc in
    let text_same : text ≡ more = one_writing words kind text more w mine.0 (subst (λ k. IsWritten words k more w) kinds theirs.0) in
    ap₂ (λ x l. x ++ l) text_same (bytes_same words a b row (cc) mine.1 theirs.1)

pub stamps_same : (k : ℕ) (moment : ℤ) (s t : List ℕ) → HasStampText k moment s → HasStampText k moment t → s ≡ t
stamps_same zero moment s t a b = a.1 ∙ sym b.1
stamps_same (suc k) moment s t a b = one_stamp_text (suc k) moment s t a b

pub one_spelling : OneSpelling
one_spelling row types words a b mine theirs =
    let found : Some (type_text (map symbol_of mine.parts)) ≡ Some (type_text (map symbol_of theirs.parts)) = sym mine.typed ∙ theirs.typed in
    let texts : type_text (map symbol_of mine.parts) ≡ type_text (map symbol_of theirs.parts) = cc in
    let symbols = one_text (map symbol_of mine.parts) (map symbol_of theirs.parts) texts in
    let stamps = stamps_same row.pattern row.moment mine.stamp theirs.stamp mine.stamped theirs.stamped in
    mine.is ∙ ap₂ (λ s l. s ++ l) stamps (bytes_same words mine.parts theirs.parts row.words symbols mine.written theirs.written) ∙ sym theirs.is

pub one_meaning : OneMeaning
one_meaning row types words a b mine theirs = one_spelling row types words a b (meaning_is_spelling row types words a mine) (meaning_is_spelling row types words b theirs)
