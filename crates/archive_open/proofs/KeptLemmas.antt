-- Texts that come one by one from a payload, and a dictionary that may not have one of them.
use Rattle.std.proofs.Common.{◌≡◌, ◌≢◌, ℕ, zero, suc, ◌+◌, ◌<◌, ◌≤◌, ◌^◌, List, [], ◌∷◌, ◌++◌, length, Some, slice_get, refl, sym, ◌∙◌, ap, subst, arith, length-append}
use Rattle.std.proofs.lemmas.List.{append-nil, append_assoc, nil_from_length}
use Rattle.record_format.specs.Lists.{AreTexts, four_bytes, list_bytes, text_bytes, texts_payload}
use Rattle.record_format.proofs.ListLemmas.{IsReadTo, left_over, no_text, read_all, read_front, read_more, read_none, same_number}
use Rattle.row_codec.specs.declared.namer.Which.{Which}
use Rattle.row_codec.specs.declared.namer.Which.TheVariants.{Types, Words}
use Rattle.archive_open.specs.Kept.{Kept, MayHold, limit_of, texts_of, with_texts}

front_keeps : (texts rest : List (List ℕ)) (n : ℕ) (text : List ℕ) → slice_get texts n ≡ Some text → slice_get (texts ++ rest) n ≡ Some text
front_keeps [] rest n text at = cc
front_keeps (t ∷ texts) rest zero text at = at
front_keeps (t ∷ texts) rest (suc n) text at = front_keeps texts rest n text at

may_front : (limit : ℕ) (a b : List (List ℕ)) → MayHold limit (a ++ b) → MayHold limit a
may_front limit a b may = record {
  distinct = λ i j t at_i at_j. may.distinct i j t (front_keeps a b i t at_i) (front_keeps a b j t at_j);
  most = omega (arith, may.most, length-append a b);
}

pub texts_with : (kind : Which) (texts : List (List ℕ)) (k : Kept) → texts_of kind (with_texts kind texts k) ≡ texts_of kind k ++ texts
texts_with Types texts k = refl
texts_with Words texts k = refl

limit_with : (kind : Which) (texts : List (List ℕ)) (k : Kept) → limit_of kind (with_texts kind texts k) ≡ limit_of kind k
limit_with Types texts k = refl
limit_with Words texts k = refl

with_none : (kind : Which) (k : Kept) → k ≡ with_texts kind [] k
with_none Types k = ap (λ (l : List (List ℕ)). (let x : Kept = record k { types = l } in x)) (sym (append-nil k.types))
with_none Words k = ap (λ (l : List (List ℕ)). (let x : Kept = record k { words = l } in x)) (sym (append-nil k.words))

with_both : (kind : Which) (a b : List (List ℕ)) (k : Kept) → with_texts kind b (with_texts kind a k) ≡ with_texts kind (a ++ b) k
with_both Types a b k = ap (λ (l : List (List ℕ)). (let x : Kept = record k { types = l } in x)) (append_assoc k.types a b)
with_both Words a b k = ap (λ (l : List (List ℕ)). (let x : Kept = record k { words = l } in x)) (append_assoc k.words a b)

-- ---- a walk along the texts of a payload

-- so many texts stand in front of the bytes, a dictionary has got them, and these bytes are left
pub record IsWalkedTo (kind : Which) (old new : Kept) (count : ℕ) (bytes rest : List ℕ) (n : ℕ) : Type 0 where
  pub texts : List (List ℕ)
  pub read : IsReadTo (four_bytes count ++ bytes) count texts rest
  pub many : length texts ≡ n
  pub kept : new ≡ with_texts kind texts old

pub walk_begun : (kind : Which) (k : Kept) (count : ℕ) (bytes : List ℕ) → IsWalkedTo kind k k count bytes bytes 0
walk_begun kind k count bytes = record {
  texts = [];
  read = read_none (four_bytes count ++ bytes) count bytes refl;
  many = refl;
  kept = with_none kind k;
}

pub walk_on : (kind : Which) (old mid new : Kept) (count : ℕ) (bytes rest : List ℕ) (n : ℕ) (text after : List ℕ) → IsWalkedTo kind old mid count bytes rest n
    → length text < 2 ^ 32 → rest ≡ text_bytes text ++ after → new ≡ with_texts kind (text ∷ []) mid → IsWalkedTo kind old new count bytes after (n + 1)
walk_on kind old mid new count bytes rest n text after walked fits is with = record {
  texts = walked.texts ++ text ∷ [];
  read = read_more (four_bytes count ++ bytes) count walked.texts rest text after walked.read fits is;
  many = omega (arith, length-append walked.texts (text ∷ []), walked.many);
  kept = with ∙ ap (λ k. with_texts kind (text ∷ []) k) walked.kept ∙ with_both kind walked.texts (text ∷ []) old;
}

-- no text is left, and so no list stands there
pub walk_short : (kind : Which) (old mid : Kept) (count : ℕ) (bytes rest : List ℕ) (n : ℕ) → IsWalkedTo kind old mid count bytes rest n → count < 2 ^ 32 → n < count
    → ((t after : List ℕ) → length t < 2 ^ 32 → rest ≢ text_bytes t ++ after) → (texts : List (List ℕ)) → AreTexts texts → four_bytes count ++ bytes ≢ list_bytes texts
walk_short kind old mid count bytes rest n walked fits less none =
    no_text (four_bytes count ++ bytes) count walked.texts rest walked.read fits (omega (arith, walked.many, less)) none

-- a text is left that may not follow, and so no list that may
pub walk_refused : (kind : Which) (old mid : Kept) (count : ℕ) (bytes rest : List ℕ) (n : ℕ) (text after : List ℕ) → IsWalkedTo kind old mid count bytes rest n → count < 2 ^ 32 → n < count
    → length text < 2 ^ 32 → rest ≡ text_bytes text ++ after → (MayHold (limit_of kind mid) (texts_of kind mid ++ text ∷ []) → ⊥)
    → (texts : List (List ℕ)) → AreTexts texts → four_bytes count ++ bytes ≡ list_bytes texts → MayHold (limit_of kind old) (texts_of kind old ++ texts) → ⊥
walk_refused kind old mid count bytes rest n text after walked fits less text_fits is none texts are spells may =
    let a : List (List ℕ) = texts_of kind old in
    let got : List (List ℕ) = walked.texts in
    let most : length (got ++ text ∷ []) ≤ count = omega (arith, length-append got (text ∷ []), walked.many, less) in
    let read = read_more (four_bytes count ++ bytes) count got rest text after walked.read text_fits is in
    let front = read_front (four_bytes count ++ bytes) count (got ++ text ∷ []) texts after read fits most are spells in
    let others : List (List ℕ) = front.1.0 in
    let all : a ++ texts ≡ ((a ++ got) ++ text ∷ []) ++ others =
    ap (λ l. a ++ l) front.1.1 ∙ sym (append_assoc a (got ++ text ∷ []) others) ∙ ap (λ l. l ++ others) (sym (append_assoc a got (text ∷ []))) in
    let here : texts_of kind mid ++ text ∷ [] ≡ (a ++ got) ++ text ∷ [] =
    ap (λ (k : Kept). texts_of kind k ++ text ∷ []) walked.kept ∙ ap (λ l. l ++ text ∷ []) (texts_with kind got old) in
    let limit : limit_of kind mid ≡ limit_of kind old = ap (λ (k : Kept). limit_of kind k) walked.kept ∙ limit_with kind got old in
    let may_here : MayHold (limit_of kind old) ((a ++ got) ++ text ∷ []) =
    may_front (limit_of kind old) ((a ++ got) ++ text ∷ []) others (subst (λ l. MayHold (limit_of kind old) l) all may) in
    none (subst (λ m. MayHold m (texts_of kind mid ++ text ∷ [])) (sym limit) (subst (λ l. MayHold (limit_of kind old) l) (sym here) may_here))

-- bytes are left over, and so no list stands there
pub walk_over : (kind : Which) (old mid : Kept) (count : ℕ) (bytes rest : List ℕ) (n : ℕ) → IsWalkedTo kind old mid count bytes rest n → count < 2 ^ 32 → n ≡ count
    → 0 < length rest → (texts : List (List ℕ)) → AreTexts texts → four_bytes count ++ bytes ≢ list_bytes texts
walk_over kind old mid count bytes rest n walked fits all more =
    left_over (four_bytes count ++ bytes) count walked.texts rest walked.read fits (walked.many ∙ all) more

pub walk_ended : (kind : Which) (old new : Kept) (count : ℕ) (bytes rest : List ℕ) (n : ℕ) → IsWalkedTo kind old new count bytes rest n → count < 2 ^ 32 → n ≡ count → length rest ≡ 0
    → (texts : List (List ℕ)) × AreTexts texts × (four_bytes count ++ bytes ≡ list_bytes texts) × (new ≡ with_texts kind texts old)
walk_ended kind old new count bytes rest n walked fits all none =
    let many : length walked.texts ≡ count = walked.many ∙ all in (
      walked.texts,
      record { count = subst (λ m. m < 2 ^ 32) (sym many) fits; lengths = walked.read.lengths },
      read_all (four_bytes count ++ bytes) count walked.texts rest walked.read many (nil_from_length rest none),
      walked.kept,
    )

-- ---- what stands before the texts

pub other_first : (payload : List ℕ) (first : ℕ) (behind : List ℕ) (k : ℕ) → payload ≡ four_bytes first ++ behind → first < 2 ^ 32 → first ≢ k
    → (n : ℕ) (texts : List (List ℕ)) → n < 2 ^ 32 → payload ≡ texts_payload n texts → n ≢ k
other_first payload first behind k is fits other n texts fits_n spells same =
    other ((same_number first n behind (list_bytes texts) fits fits_n (sym is ∙ spells)).0 ∙ same)

pub list_behind : (payload : List ℕ) (first : ℕ) (behind : List ℕ) → payload ≡ four_bytes first ++ behind → first < 2 ^ 32
    → (n : ℕ) (texts : List (List ℕ)) → n < 2 ^ 32 → payload ≡ texts_payload n texts → behind ≡ list_bytes texts
list_behind payload first behind is fits n texts fits_n spells = (same_number first n behind (list_bytes texts) fits fits_n (sym is ∙ spells)).1
