-- One turn with a book, over the lists of texts that a pass saw: `before` at the take, and the book's texts at the put.
use Rattle.std.proofs.Common.{◌≡◌, ◌≢◌, ◌⊎◌, ⊎_elim, inl, inr, ℕ, ◌<◌, List, [], ◌∷◌, ◌++◌, length, refl, sym, ap, subst, ◌∙◌, append-nil, append_assoc, Option, Some, None, slice_get}
use Rattle.std.specs.Prelude.{Result, Ok, Err, IfOk, OnErr, IsErrOf}
use mathlib.Core.List.{IsPrefix}
use Rattle.turn_lock.specs.History.{places}
use Rattle.dict_core.specs.Books.{BookState, Names}
use Rattle.plain_list.specs.Texts.{IsNew}
use Rattle.dict_core.specs.declared.refusals.BookRefusal.{BookRefusal}
use Rattle.dict_core.specs.declared.refusals.BookRefusal.TheVariants.{Full}

abbrev Texts : Type 0
Texts = List (List ℕ)

abbrev Own : Type 0
Own = List (ℕ × List ℕ)

-- the element behind a list
pub slice_get-last : {A : Type 0} (xs : List A) (x : A) → slice_get (xs ++ x ∷ []) (length xs) ≡ Some x
slice_get-last [] x = refl
slice_get-last (y ∷ ys) x = slice_get-last ys x

pub prefix_more : {A : Type 0} (xs ys zs rest : List A) → IsPrefix xs ys → zs ≡ ys ++ rest → IsPrefix xs zs
prefix_more xs ys zs rest p more = (p.0 ++ rest, sym (append_assoc xs p.0 rest) ∙ (ap (λ l. l ++ rest) p.1 ∙ sym more))

-- what a naming adds to a book
pub names_rest : (old new : BookState) (text : List ℕ) (n : ℕ) → Names old new text n → (rest : Texts) × (new.texts ≡ old.texts ++ rest)
names_rest old new text n names = ⊎_elim
    (λ (known : (slice_get old.texts n ≡ Some text) × (new ≡ old)). ([], ap (λ (b : BookState). b.texts) known.1 ∙ sym (append-nil old.texts)))
    (λ (added : IsNew old.texts text × (length old.texts < old.limit) × (n ≡ length old.texts) × (new.texts ≡ old.texts ++ text ∷ []) × (new.limit ≡ old.limit)). (text ∷ [], added.3)) names

pub names_limit : (old new : BookState) (text : List ℕ) (n : ℕ) → Names old new text n → new.limit ≡ old.limit
names_limit old new text n names = ⊎_elim
    (λ (known : (slice_get old.texts n ≡ Some text) × (new ≡ old)). ap (λ (b : BookState). b.limit) known.1)
    (λ (added : IsNew old.texts text × (length old.texts < old.limit) × (n ≡ length old.texts) × (new.texts ≡ old.texts ++ text ∷ []) × (new.limit ≡ old.limit)). added.4) names

pub names_at : (old new : BookState) (text : List ℕ) (n : ℕ) → Names old new text n → slice_get new.texts n ≡ Some text
names_at old new text n names = ⊎_elim
    (λ (known : (slice_get old.texts n ≡ Some text) × (new ≡ old)). ap (λ (b : BookState). slice_get b.texts n) known.1 ∙ known.0)
    (λ (added : IsNew old.texts text × (length old.texts < old.limit) × (n ≡ length old.texts) × (new.texts ≡ old.texts ++ text ∷ []) × (new.limit ≡ old.limit)).
    ap (λ l. slice_get l n) added.3 ∙ (ap (slice_get (old.texts ++ text ∷ [])) added.2 ∙ slice_get-last old.texts text)) names

module _ (old new : BookState) (text : List ℕ) where
  -- the book goes on what it was, whatever the answer
  pub answer_rest : (r : Result ℕ BookRefusal) → IfOk r (λ n. Names old new text n) → OnErr r (new ≡ old) → (rest : Texts) × (new.texts ≡ old.texts ++ rest)
  answer_rest (Ok n) names same = names_rest old new text n names
  answer_rest (Err e) names same = ([], ap (λ (b : BookState). b.texts) same ∙ sym (append-nil old.texts))

  -- the pass had seen `before`, with which the book was given back as it was or longer
  module _ (before after : Texts) (had has : Own) (taken : old.texts ≡ before) (put : after ≡ new.texts)
      (owns : (rest : Texts) → new.texts ≡ before ++ rest → has ≡ had ++ places (length before) rest) where
    owns_none : new ≡ old → has ≡ had
    owns_none same = owns [] (ap (λ (b : BookState). b.texts) same ∙ (taken ∙ sym (append-nil before))) ∙ append-nil had

    pub answer_goes_on : (seen : Texts) → IsPrefix seen before → (r : Result ℕ BookRefusal) → IfOk r (λ n. Names old new text n) → OnErr r (new ≡ old) → IsPrefix seen after
    answer_goes_on seen front r names same = let more = answer_rest r names same in
        prefix_more seen before after more.0 front (put ∙ (more.1 ∙ ap (λ l. l ++ more.0) taken))

    pub answer_named : (r : Result ℕ BookRefusal) → IfOk r (λ n. Names old new text n) → IfOk r (λ n. slice_get after n ≡ Some text)
    answer_named (Ok n) names = ap (λ l. slice_get l n) put ∙ names_at old new text n names
    answer_named (Err e) names = tt

    pub answer_own : (r : Result ℕ BookRefusal) → IfOk r (λ n. Names old new text n) → IfOk r (λ n. (has ≡ had) ⊎ (has ≡ had ++ (n, text) ∷ []))
    answer_own (Ok n) names = ⊎_elim
        (λ (known : (slice_get old.texts n ≡ Some text) × (new ≡ old)). inl (owns_none known.1))
        (λ (added : IsNew old.texts text × (length old.texts < old.limit) × (n ≡ length old.texts) × (new.texts ≡ old.texts ++ text ∷ []) × (new.limit ≡ old.limit)).
        inr (owns (text ∷ []) (added.3 ∙ ap (λ l. l ++ text ∷ []) taken) ∙ ap (λ (k : ℕ). had ++ (k, text) ∷ []) (sym (added.2 ∙ ap length taken)))) names
    answer_own (Err e) names = tt

    pub answer_refused : (r : Result ℕ BookRefusal) → OnErr r (new ≡ old) → OnErr r (has ≡ had)
    answer_refused (Ok n) same = tt
    answer_refused (Err e) same = owns_none same

    -- it is full exactly where the text is new and the limit is reached
    pub answer_full : (r : Result ℕ BookRefusal) (count : ℕ) → OnErr r (new ≡ old)
        → ((c : ℕ) → IsErrOf r (Full c) → IsNew old.texts text × (c ≡ old.limit) × (length old.texts ≡ old.limit))
        → IsErrOf r (Full count) → IsNew after text × (count ≡ length after) × (count ≡ old.limit)
    answer_full (Ok n) count same full is = absurd (cc (is))
    answer_full (Err e) count same full is = let f = full count is in let texts : after ≡ old.texts = put ∙ ap (λ (b : BookState). b.texts) same in
        (subst (λ l. IsNew l text) (sym texts) f.0, f.1 ∙ (sym f.2 ∙ ap length (sym texts)), f.1)

    pub full_answer : (r : Result ℕ BookRefusal) (count : ℕ) → IfOk r (λ n. Names old new text n) → OnErr r (new ≡ old)
        → (IsNew old.texts text → length old.texts ≡ old.limit → IsErrOf r (Full old.limit))
        → IsNew after text → count ≡ length after → count ≡ old.limit → IsErrOf r (Full count)
    full_answer (Ok n) count names same full absent all limit = absurd (absent n (answer_named (Ok n) names))
    full_answer (Err e) count names same full absent all limit = let texts : after ≡ old.texts = put ∙ ap (λ (b : BookState). b.texts) same in
        full (subst (λ l. IsNew l text) texts absent) (ap length (sym texts) ∙ (sym all ∙ limit)) ∙ ap (λ (c : ℕ). Err (Full c)) (sym limit)

-- what a pass knows of its lock
pub some_about : {A : Type 0} (o : Option A) → o ≢ None → (a : A) × (o ≡ Some a)
some_about None none = absurd (none refl)
some_about (Some a) none = (a, refl)
