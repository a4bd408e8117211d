-- A dictionary with one text more, and what is none.
use Rattle.std.proofs.Common.{◌≡◌, inl, inr, ℕ, zero, suc, ◌<◌, List, [], ◌∷◌, ◌++◌, length, take, drop, get_or, Some, slice_get, refl, ◌∙◌, ap, subst, arith, length-append}
use Rattle.std.proofs.lemmas.List.{append_assoc}
use Rattle.std.proofs.lemmas.List.Elements.{All-nil, All-cons, All-append}
use Rattle.std.proofs.lemmas.Option.{get_or_from_slice_get, slice_get_within}
use Rattle.dict_core.specs.Books.{BookState, Names}
use Rattle.plain_list.specs.Texts.{IsNew}
use Rattle.dict_core.proofs.BookLemmas.{distinct_more}
use Rattle.archive_meaning.specs.Legal.{IsBook}

-- a text that got the number behind all others is new
pub named_new : (old new : BookState) (text : List ℕ) (n : ℕ) → Names old new text n → n ≡ length old.texts
    → IsNew old.texts text × (length old.texts < old.limit) × (new.texts ≡ old.texts ++ text ∷ [])
named_new old new text n (inl known) last = absurd (omega (arith, slice_get_within old.texts n text known.0, last))
named_new old new text n (inr more) last = (more.0, more.1, more.3)

-- and one that got another is not
pub named_known : (old new : BookState) (text : List ℕ) (n : ℕ) → Names old new text n → (n ≡ length old.texts → ⊥) → (slice_get old.texts n ≡ Some text) × (new ≡ old)
named_known old new text n (inl known) other = known
named_known old new text n (inr more) other = absurd (other more.2)

pub book_more : (IsFair : List ℕ → Type 0) (limit : ℕ) (texts : List (List ℕ)) (text : List ℕ) → IsBook IsFair limit texts → IsFair text → IsNew texts text
    → length texts < limit → IsBook IsFair limit (texts ++ text ∷ [])
book_more IsFair limit texts text book fair new room = record {
  distinct = distinct_more texts text book.distinct new;
  fair = All-append IsFair texts (text ∷ []) book.fair (All-cons IsFair text [] fair (All-nil IsFair));
  most = omega (arith, length-append texts (text ∷ []), room);
}

at_seam : (texts rest : List (List ℕ)) (text : List ℕ) → slice_get (texts ++ text ∷ rest) (length texts) ≡ Some text
at_seam [] rest text = refl
at_seam (t ∷ texts) rest text = at_seam texts rest text

front_keeps : (texts rest : List (List ℕ)) (n : ℕ) (text : List ℕ) → slice_get texts n ≡ Some text → slice_get (texts ++ rest) n ≡ Some text
front_keeps [] rest n text at = cc
front_keeps (t ∷ texts) rest zero text at = at
front_keeps (t ∷ texts) rest (suc n) text at = front_keeps texts rest n text at

-- no dictionary goes on with a text that it has
pub twice : (IsFair : List ℕ → Type 0) (limit : ℕ) (texts rest : List (List ℕ)) (text : List ℕ) (n : ℕ) → slice_get texts n ≡ Some text
    → IsBook IsFair limit (texts ++ text ∷ rest) → ⊥
twice IsFair limit texts rest text n known book =
    omega (
      arith,
      slice_get_within texts n text known,
      book.distinct n (length texts) text (front_keeps texts (text ∷ rest) n text known) (at_seam texts rest text),
    )

-- nor with one that is not fair
pub unfair : (IsFair : List ℕ → Type 0) (limit : ℕ) (texts rest : List (List ℕ)) (text : List ℕ) → (IsFair text → ⊥) → IsBook IsFair limit (texts ++ text ∷ rest) → ⊥
unfair IsFair limit texts rest text not_fair book =
    not_fair (subst IsFair (get_or_from_slice_get (texts ++ text ∷ rest) (length texts) text text (at_seam texts rest text))
    (book.fair (length texts) text (omega (arith, length-append texts (text ∷ rest)))))

-- nor where it has as many as it may
pub full : (IsFair : List ℕ → Type 0) (limit : ℕ) (texts rest : List (List ℕ)) (text : List ℕ) → length texts ≡ limit → IsBook IsFair limit (texts ++ text ∷ rest) → ⊥
full IsFair limit texts rest text all book = omega (arith, book.most, length-append texts (text ∷ rest), all)

-- the texts so far, the next one and those behind it
pub texts_at : (old texts : List (List ℕ)) (i : ℕ) (text : List ℕ) → i < length texts → text ≡ get_or texts i text
    → (old ++ take i texts) ++ text ∷ drop (suc i) texts ≡ old ++ texts
texts_at old [] i text within is = absurd (omega (arith, within))
texts_at old (t ∷ texts) zero text within is = append_assoc old [] (text ∷ texts) ∙ ap (λ x. old ++ x ∷ texts) is
texts_at old (t ∷ texts) (suc i) text within is =
    append_assoc old (t ∷ take i texts) (text ∷ drop (suc i) texts)
    ∙ ap (λ l. old ++ t ∷ l) (texts_at [] texts i text (omega (arith, within)) is)
