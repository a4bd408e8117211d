-- When a row is the encoding of a message, and that a message has one.
use Rattle.std.proofs.Common.{◌≡◌, ℕ, ◌+◌, ◌≤◌, List, [], ◌∷◌, ◌++◌, length, map, take, refl, sym, ◌∙◌, ap, ap₂, subst, arith}
use Rattle.std.specs.Prelude.{◌↔◌, ℤ, None, Some, slice_get}
use Rattle.std.proofs.lemmas.Option.{slice_get_within}
use Rattle.std.proofs.lemmas.List.{append_cancel_left}
use Rattle.std.specs.Int.{cast_unsigned, w64}
use Rattle.var_codec.specs.Laws.{OneWord}
use Rattle.logtype_text.specs.Laws.{OneListOfParts}
use Rattle.var_codec.specs.declared.Coded.TheVariants.{Whole as WholeWord, Decimal as DecimalWord, Word as DictionaryWord}
use Rattle.logtype_text.specs.declared.symbols.Kind.{Kind}
use Rattle.logtype_text.specs.declared.symbols.Kind.TheVariants.{Whole, Word, Decimal}
use Rattle.logtype_text.specs.Parts.{Part, Constant, Variable, AreParts, HasKind, StandAt, joined, symbol_of}
use Rattle.logtype_text.specs.TypeText.{type_text}
use Rattle.logtype_text.proofs.CutLemmas.{parts_are_cut}
use Rattle.logtype_text.proofs.TextLemmas.{one_text}
use Rattle.time_patterns.specs.Stamps.{HasStamp}
use Rattle.time_patterns.proofs.VersionLemmas.{front_tells, one_stamp_of}
use Rattle.column_store.specs.declared.row.Row.{Row}
use Rattle.row_codec.specs.Means.{EachWord, HasStampText, HasWord, IsCanonical, IsWritten}
use Rattle.row_codec.specs.StepsBody.{HasBody, HasStampWriting, IsBody}
use Rattle.row_codec.specs.StepsCut.{IsCutText}
use Rattle.row_codec.specs.Laws.{OneRow, RowsReturn}
use Rattle.plain_list.specs.Texts.{AreDistinct}
use Rattle.row_codec.proofs.MeansLemmas.{bytes_same, meaning_is_spelling, one_spelling, stamps_same, words_written}

-- what is written as a variable of its kind is coded so
word_coded : (words : List (List ℕ)) (kind : Kind) (text : List ℕ) (word : ℕ) → HasKind text kind → IsWritten words kind text word → HasWord words kind text word
word_coded words Whole text word has written = written
word_coded words Decimal text word has written = written
word_coded words Word text word (WholeWord n, codes, is) written = absurd (cc)
word_coded words Word text word (DecimalWord w, codes, is) written = absurd (cc)
word_coded words Word text word (DictionaryWord, codes, is) written = (codes, written)

words_coded : (words : List (List ℕ)) (body : List ℕ) (at : ℕ) (parts : List Part) (row : List ℕ) → StandAt body at parts → EachWord (IsWritten words) parts row → EachWord (HasWord words) parts row
words_coded words body at [] [] stand written = tt
words_coded words body at [] (w ∷ row) stand written = absurd written
words_coded words body at (Constant b ∷ parts) row stand written = words_coded words body (at + 1) parts row stand.1 written
words_coded words body at (Variable kind text ∷ parts) [] stand written = absurd written
words_coded words body at (Variable kind text ∷ parts) (w ∷ row) stand written = (word_coded words kind text w stand.1 written.0, words_coded words body (at + length text) parts row stand.2 written.1)

-- a text with words is written as one body
pub one_body : (words : List (List ℕ)) (text row a b : List ℕ) → IsBody words text row a → IsBody words text row b → a ≡ b
one_body words text row a b mine theirs =
    mine.is ∙ bytes_same words mine.parts theirs.parts row (one_text (map symbol_of mine.parts) (map symbol_of theirs.parts) (sym mine.typed ∙ theirs.typed)) mine.written theirs.written ∙ sym theirs.is

pub cut_body : (words : List (List ℕ)) (text row : List ℕ) → (cut : IsCutText words None text row) → IsBody words text row (joined cut.parts)
cut_body words text row cut = record { parts = cut.parts; typed = cut.typed; written = cut.written; is = refl }

pub cut_has_body : (words : List (List ℕ)) (text row : List ℕ) → IsCutText words None text row → HasBody words text row
cut_has_body words text row cut = (joined cut.parts, record { parts = cut.parts; typed = cut.typed; written = cut.written; is = refl })

-- what a canonical row has
pub canonical_stamp : (version : ℕ) (row : Row) (types words : List (List ℕ)) (message : List ℕ) → IsCanonical version row types words message → HasStampWriting row.pattern row.moment
canonical_stamp version row types words message is = (is.means.stamp, is.means.stamped)

pub canonical_type : (version : ℕ) (row : Row) (types words : List (List ℕ)) (message : List ℕ) → IsCanonical version row types words message → length types ≤ row.log_type → ⊥
canonical_type version row types words message is past =
    let within = slice_get_within types row.log_type (type_text (map symbol_of is.means.parts)) is.means.typed in omega arith

canonical_text : (version : ℕ) (row : Row) (types words : List (List ℕ)) (message text : List ℕ) → slice_get types row.log_type ≡ Some text → (is : IsCanonical version row types words message) → text ≡ type_text (map symbol_of is.means.parts)
canonical_text version row types words message text at is =
    let found : Some text ≡ Some (type_text (map symbol_of is.means.parts)) = sym at ∙ is.means.typed in cc

pub canonical_cut : (version : ℕ) (row : Row) (types words : List (List ℕ)) (message text : List ℕ) → slice_get types row.log_type ≡ Some text → IsCanonical version row types words message → IsCutText words None text row.words
canonical_cut version row types words message text at is = record {
  parts = is.means.parts;
  typed = canonical_text version row types words message text at is;
  written = words_written words is.means.parts row.words is.means.coded;
  cut = ((parts_are_cut (joined is.means.parts) is.means.parts).0 is.body).1;
}

pub canonical_body : (version : ℕ) (row : Row) (types words : List (List ℕ)) (message text : List ℕ) → slice_get types row.log_type ≡ Some text → (is : IsCanonical version row types words message) → IsBody words text row.words (joined is.means.parts)
canonical_body version row types words message text at is = record {
  parts = is.means.parts;
  typed = canonical_text version row types words message text at is;
  written = words_written words is.means.parts row.words is.means.coded;
  is = refl;
}

-- a row whose parts are cut by the rule of tokens and whose stamp is the message's is canonical
pub cut_canonical : (version : ℕ) (row : Row) (types words : List (List ℕ)) (text stamp : List ℕ) → slice_get types row.log_type ≡ Some text → HasStampText row.pattern row.moment stamp → (cut : IsCutText words None text row.words) → HasStamp version (stamp ++ joined cut.parts) row.pattern row.moment (length stamp) → IsCanonical version row types words (stamp ++ joined cut.parts)
cut_canonical version row types words text stamp at stamped cut has =
    let are = (parts_are_cut (joined cut.parts) cut.parts).1 (refl, cut.cut) in
    record {
      means = record {
        stamp = stamp;
        parts = cut.parts;
        typed = at ∙ ap (λ t. Some t) cut.typed;
        coded = words_coded words (joined cut.parts) 0 cut.parts row.words are.stand cut.written;
        stamped = stamped;
        is = refl;
      };
      body = are;
      stamp = has;
    }

-- the stamp of the first bytes
pub opening_tells : (version : ℕ) (words : List (List ℕ)) (text row : List ℕ) (pattern : ℕ) (moment : ℤ) (opened stamp body filled shown : List ℕ) (k : ℕ) (m : ℤ) (n : ℕ)
    → HasStampText pattern moment opened → HasStampText pattern moment stamp → IsBody words text row filled → IsBody words text row body
    → shown ≡ take 32 (opened ++ filled) → HasStamp version shown k m n
    → ((k ≡ pattern) × (m ≡ moment) × (n ≡ length opened)) ↔ HasStamp version (stamp ++ body) pattern moment (length stamp)
opening_tells version words text row pattern moment opened stamp body filled shown k m n mine theirs fills is taken has =
    let stamps = stamps_same pattern moment opened stamp mine theirs in
    let bodies = one_body words text row filled body fills is in
    let message : opened ++ filled ≡ stamp ++ body = ap₂ (λ x y. x ++ y) stamps bodies in
    let found : HasStamp version (stamp ++ body) k m n = (front_tells version (stamp ++ body) k m n).0 (subst (λ l. HasStamp version l k m n) (taken ∙ ap (λ l. take 32 l) message) has) in
    let long = ap length stamps in (
      λ (a, b, c).
          subst (λ x. HasStamp version (stamp ++ body) pattern moment x) (c ∙ long) (subst (λ x. HasStamp version (stamp ++ body) pattern x n) b (subst (λ x. HasStamp version (stamp ++ body) x m n) a found)),
      λ other.
          let same = one_stamp_of version (stamp ++ body) k pattern m moment n (length stamp) found other in
          (same.0, same.1, same.2 ∙ sym long),
    )

-- a variable has one word where no text has two numbers
one_number : OneWord → (words : List (List ℕ)) → AreDistinct words → (kind : Kind) (text : List ℕ) (v w : ℕ) → HasWord words kind text v → HasWord words kind text w → v ≡ w
one_number one words distinct Whole text v w (n, a, v_is) (m, b, w_is) =
    let same : WholeWord n ≡ WholeWord m = one text (WholeWord n) (WholeWord m) a b in
    let numbers : n ≡ m = cc in
    v_is ∙ ap (cast_unsigned w64) numbers ∙ sym w_is
one_number one words distinct Decimal text v w a b =
    let same : DecimalWord v ≡ DecimalWord w = one text (DecimalWord v) (DecimalWord w) a b in cc
one_number one words distinct Word text v w a b = distinct v w text a.1 b.1

one_words : OneWord → (words : List (List ℕ)) → AreDistinct words → (parts : List Part) (a b : List ℕ) → EachWord (HasWord words) parts a → EachWord (HasWord words) parts b → a ≡ b
one_words one words distinct [] [] [] mine theirs = refl
one_words one words distinct [] (v ∷ a) b mine theirs = absurd mine
one_words one words distinct [] [] (w ∷ b) mine theirs = absurd theirs
one_words one words distinct (Constant c ∷ parts) a b mine theirs = one_words one words distinct parts a b mine theirs
one_words one words distinct (Variable kind text ∷ parts) [] b mine theirs = absurd mine
one_words one words distinct (Variable kind text ∷ parts) (v ∷ a) [] mine theirs = absurd theirs
one_words one words distinct (Variable kind text ∷ parts) (v ∷ a) (w ∷ b) mine theirs =
    ap₂ (λ x l. x ∷ l) (one_number one words distinct kind text v w mine.0 theirs.0) (one_words one words distinct parts a b mine.1 theirs.1)

abbrev row_with : ℕ → ℤ → ℕ → List ℕ → Row
row_with pattern moment log_type words = record { pattern = pattern; moment = moment; log_type = log_type; words = words }

same_row : (a b : Row) → a.pattern ≡ b.pattern → a.moment ≡ b.moment → a.log_type ≡ b.log_type → a.words ≡ b.words → a ≡ b
same_row a b patterns moments types words =
    ap₂ (λ k m. row_with k m a.log_type a.words) patterns moments ∙ ap₂ (λ t l. row_with b.pattern b.moment t l) types words

pub one_row : OneWord → OneListOfParts → OneRow
one_row one_word one_list version a b types words message types_distinct words_distinct mine theirs =
    let stamps = one_stamp_of version message a.pattern b.pattern a.moment b.moment (length mine.means.stamp) (length theirs.means.stamp) mine.stamp theirs.stamp in
    let stamped : HasStampText b.pattern b.moment mine.means.stamp = subst (λ m. HasStampText b.pattern m mine.means.stamp) stamps.1 (subst (λ k. HasStampText k a.moment mine.means.stamp) stamps.0 mine.means.stamped) in
    let texts = stamps_same b.pattern b.moment mine.means.stamp theirs.means.stamp stamped theirs.means.stamped in
    let messages : theirs.means.stamp ++ joined mine.means.parts ≡ theirs.means.stamp ++ joined theirs.means.parts = ap (λ l. l ++ joined mine.means.parts) (sym texts) ∙ sym mine.means.is ∙ theirs.means.is in
    let bodies = append_cancel_left theirs.means.stamp (joined mine.means.parts) (joined theirs.means.parts) messages in
    let parts : mine.means.parts ≡ theirs.means.parts = one_list (joined theirs.means.parts) mine.means.parts theirs.means.parts (subst (λ l. AreParts l mine.means.parts) bodies mine.body) theirs.body in
    let typed : slice_get types a.log_type ≡ Some (type_text (map symbol_of theirs.means.parts)) = mine.means.typed ∙ ap (λ l. Some (type_text (map symbol_of l))) parts in
    same_row a b stamps.0 stamps.1 (types_distinct a.log_type b.log_type (type_text (map symbol_of theirs.means.parts)) typed theirs.means.typed)
    (one_words one_word words words_distinct theirs.means.parts a.words b.words (subst (λ l. EachWord (HasWord words) l a.words) parts mine.means.coded) theirs.means.coded)

pub rows_return : RowsReturn
rows_return version row types words message text is spelling =
    one_spelling row types words text message spelling (meaning_is_spelling row types words message is.means)
