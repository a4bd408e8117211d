-- Two books as the dictionaries of an archive, in tests.
use Rattle.std.proofs.Common.{◌≡◌, ℕ, ◌+◌, ◌<◌, zero, suc, List, [], ◌∷◌, ◌++◌, length, get_or, take, refl, sym, ◌∙◌, ap, subst, arith, inl, inr}
use Rattle.std.specs.Prelude.{Some, Err, OnErr, Result, slice_get}
use Rattle.std.proofs.lemmas.List.{take_more}
use Rattle.std.proofs.lemmas.List.Elements.{All-cons, All-nil}
use mathlib.Core.List.{IsPrefix}
use Rattle.row_codec.specs.declared.namer.NameRefusal.{NameRefusal}
use Rattle.row_codec.specs.declared.namer.NameRefusal.TheVariants.{Full}
use Rattle.row_codec.specs.declared.namer.Which.{Which}
use Rattle.dict_core.specs.Books.{BookState, Names}
use Rattle.row_codec.specs.Naming.{AreNumbers, HasGrown, MetLimit}
use Rattle.plain_list.specs.Texts.{IsNew}
use Rattle.row_codec.proofs.GrowthLemmas.{grows_self, grows_then}
use Rattle.row_tests.specs.StepsBooks.{known_of}
use Rattle.row_codec.proofs.MeansLemmas.{prefix_keeps}

pub named_grows : (P : List ℕ → Type 0) (old new : BookState) (text : List ℕ) (n : ℕ) → Names old new text n → P text → HasGrown P (known_of old) (known_of new)
named_grows P old new text n (inl (at, same)) has = subst (λ (b : BookState). HasGrown P (known_of old) (known_of b)) (sym same) (grows_self P (known_of old))
named_grows P old new text n (inr (fresh, low, number, texts, limit)) has = record {
  limit = limit;
  front = (text ∷ [], sym texts);
  more = text ∷ [];
  added = texts;
  allowed = All-cons P text [] has (All-nil P);
}

last_text : (texts : List (List ℕ)) (text : List ℕ) → slice_get (texts ++ text ∷ []) (length texts) ≡ Some text
last_text [] text = refl
last_text (t ∷ texts) text = last_text texts text

pub named_at : (old new : BookState) (text : List ℕ) (n : ℕ) → Names old new text n → slice_get new.texts n ≡ Some text
named_at old new text n (inl (at, same)) = subst (λ (b : BookState). slice_get b.texts n ≡ Some text) (sym same) at
named_at old new text n (inr (fresh, low, number, texts, limit)) =
    subst (λ k. slice_get new.texts k ≡ Some text) (sym number) (subst (λ l. slice_get l (length old.texts) ≡ Some text) (sym texts) (last_text old.texts text))

-- the numbers stay when texts are added
numbers_stay : (known more : List (List ℕ)) → IsPrefix known more → (numbers : List ℕ) (texts : List (List ℕ)) → AreNumbers known numbers texts → AreNumbers more numbers texts
numbers_stay known more front [] [] are = are
numbers_stay known more front [] (t ∷ texts) are = absurd are
numbers_stay known more front (n ∷ numbers) [] are = absurd are
numbers_stay known more front (n ∷ numbers) (t ∷ texts) are = (prefix_keeps known more n t front are.0, numbers_stay known more front numbers texts are.1)

numbers_push : (known : List (List ℕ)) (numbers : List ℕ) (texts : List (List ℕ)) (n : ℕ) (text : List ℕ) → AreNumbers known numbers texts → slice_get known n ≡ Some text → AreNumbers known (numbers ++ n ∷ []) (texts ++ text ∷ [])
numbers_push known [] [] n text are at = (at, tt)
numbers_push known [] (t ∷ texts) n text are at = absurd are
numbers_push known (m ∷ numbers) [] n text are at = absurd are
numbers_push known (m ∷ numbers) (t ∷ texts) n text are at = (are.0, numbers_push known numbers texts n text are.1 at)

pub numbers_more : (P : List ℕ → Type 0) (old new : BookState) (text : List ℕ) (n : ℕ) (numbers : List ℕ) (texts : List (List ℕ)) → Names old new text n → HasGrown P (known_of old) (known_of new) → AreNumbers old.texts numbers texts → AreNumbers new.texts (numbers ++ n ∷ []) (texts ++ text ∷ [])
numbers_more P old new text n numbers texts named grown are =
    numbers_push new.texts numbers texts n text (numbers_stay old.texts new.texts grown.front numbers texts are) (named_at old new text n named)

has_number : (known : List (List ℕ)) (numbers : List ℕ) (texts : List (List ℕ)) → AreNumbers known numbers texts → (k : ℕ) (t : List ℕ) → slice_get texts k ≡ Some t → (number : ℕ) × (slice_get known number ≡ Some t)
has_number known [] [] are k t at = absurd (cc)
has_number known [] (x ∷ texts) are k t at = absurd are
has_number known (n ∷ numbers) [] are k t at = absurd are
has_number known (n ∷ numbers) (x ∷ texts) are zero t at = (n, are.0 ∙ at)
has_number known (n ∷ numbers) (x ∷ texts) are (suc k) t at = has_number known numbers texts are.1 k t at

taken_at : (texts : List (List ℕ)) (i k : ℕ) (t : List ℕ) → k < i → slice_get texts k ≡ Some t → slice_get (take i texts) k ≡ Some t
taken_at [] i k t low at = absurd (cc)
taken_at (x ∷ texts) zero k t low at = absurd (omega arith)
taken_at (x ∷ texts) (suc i) zero t low at = at
taken_at (x ∷ texts) (suc i) (suc k) t low at = taken_at texts i k t (omega arith) at

read_at : (texts : List (List ℕ)) (i : ℕ) → i < length texts → slice_get texts i ≡ Some (get_or texts i [])
read_at [] i low = absurd (omega arith)
read_at (x ∷ texts) zero low = refl
read_at (x ∷ texts) (suc i) low = read_at texts i (omega arith)

pub limit_met : (known : BookState) (numbers : List ℕ) (texts : List (List ℕ)) (i count : ℕ) → i < length texts → AreNumbers known.texts numbers (take i texts) → IsNew known.texts (get_or texts i []) → count ≡ known.limit → length known.texts ≡ known.limit → MetLimit (known_of known) texts count
limit_met known numbers texts i count low are fresh is full = record {
  at = i;
  text = get_or texts i [];
  here = read_at texts i low;
  new = fresh;
  before = λ k t under at. has_number known.texts numbers (take i texts) are k t (taken_at texts i k t under at);
  all = is ∙ sym full;
  most = is;
}

-- a full dictionary, of one text or of texts that are named one by one
pub one_full : (r : Result ℕ NameRefusal) (which book : Which) (old new : BookState) (text : List ℕ) (count : ℕ) → r ≡ Err (Full book count) → OnErr r (new ≡ old)
    → ((b : Which) (n : ℕ) → r ≡ Err (Full b n) → (b ≡ which) × IsNew old.texts text × (n ≡ old.limit) × (length old.texts ≡ old.limit))
    → (book ≡ which) × MetLimit (known_of new) (text ∷ []) count × (new.texts ≡ old.texts)
one_full r which book old new text count is kept full =
    let all = full book count is in
    let same : new ≡ old = subst (λ e. OnErr e (new ≡ old)) is kept in (
      all.0,
      subst (λ (b : BookState). MetLimit (known_of b) (text ∷ []) count) (sym same) (limit_met old [] (text ∷ []) 0 count (omega arith) tt all.1 all.2 all.3),
      ap (λ (b : BookState). b.texts) same,
    )

pub next_full : (r : Result ℕ NameRefusal) (which book : Which) (old new : BookState) (numbers : List ℕ) (texts : List (List ℕ)) (i count : ℕ) → i < length texts → AreNumbers old.texts numbers (take i texts) → r ≡ Err (Full book count) → OnErr r (new ≡ old)
    → ((b : Which) (n : ℕ) → r ≡ Err (Full b n) → (b ≡ which) × IsNew old.texts (get_or texts i []) × (n ≡ old.limit) × (length old.texts ≡ old.limit))
    → (book ≡ which) × MetLimit (known_of new) texts count
next_full r which book old new numbers texts i count low are is kept full =
    let all = full book count is in
    let same : new ≡ old = subst (λ e. OnErr e (new ≡ old)) is kept in
    (all.0, subst (λ (b : BookState). MetLimit (known_of b) texts count) (sym same) (limit_met old numbers texts i count low are all.1 all.2 all.3))

-- one text more was named
pub next_named : (P : List ℕ → Type 0) (first old new : BookState) (numbers : List ℕ) (texts : List (List ℕ)) (text : List ℕ) (i n : ℕ) → i < length texts → get_or texts i [] ≡ text → P text → HasGrown P (known_of first) (known_of old) → AreNumbers old.texts numbers (take i texts) → Names old new text n
    → HasGrown P (known_of first) (known_of new) × AreNumbers new.texts (numbers ++ n ∷ []) (take (i + 1) texts)
next_named P first old new numbers texts text i n low is has grown are named =
    let step = named_grows P old new text n named has in (
      grows_then P (known_of first) (known_of old) (known_of new) grown step,
      subst (λ l. AreNumbers new.texts (numbers ++ n ∷ []) l) (sym (take_more texts i [] low)) (subst (λ t. AreNumbers new.texts (numbers ++ n ∷ []) (take i texts ++ t ∷ [])) (sym is) (numbers_more P old new text n numbers (take i texts) named step are)),
    )
