-- The slots of a text and their words, one by one.
use Rattle.std.proofs.Common.{◌≡◌, ℕ, zero, suc, take, slice_get, ◌+◌, ◌^◌, ◌<◌, ◌≤◌, List, [], ◌∷◌, ◌++◌, All, drop, get_or, length, map, refl, sym, ◌∙◌, ap, subst, arith, length-append}
use Rattle.std.specs.Prelude.{Bool, IfNone, IfSome, None, Option, Some}
use Rattle.std.specs.List.{flat_map}
use Rattle.std.proofs.lemmas.List.{append-nil, append_assoc, drop_at, drop_more, take_at}
use Rattle.std.proofs.lemmas.List.Concat.{flat_map-cons}
use Rattle.std.proofs.lemmas.List.Elements.{All-drop, All-take}
use Rattle.std.proofs.Math.Seq.{get_or-append_seam}
use Rattle.logtype_text.specs.declared.symbols.Kind.{Kind}
use Rattle.logtype_text.specs.declared.symbols.Kind.TheVariants.{Word}
use Rattle.column_store.specs.declared.row.Row.{Row}
use Rattle.row_codec.specs.Numbers.{kinds_from, numbers_of_row, word_numbers}
use Rattle.archive_core.specs.Numbers.{IsWide, TakesWord, with_kind}
use Rattle.archive_core.specs.declared.slots.Slot.{Slot}
use Rattle.archive_core.specs.Slots.{slots_of}
use Rattle.archive_core.proofs.SlotsLemmas.{kind_in, kinds_of_slots}

no_words : (kinds : List Kind) → word_numbers kinds [] ≡ []
no_words [] = refl
no_words (kind ∷ kinds) = refl

pub takes_none : (kind : Kind) (words out : List ℕ) → length words < 1 → TakesWord kind words words out out
takes_none kind [] out short = ([], sym (append-nil out), λ kinds. sym (no_words kinds))
takes_none kind (w ∷ words) out short = absurd (omega (arith, short))

pub wide_here : (kind : Kind) (words : List ℕ) → 1 ≤ length words → kind ≡ Word → 2 ^ 32 ≤ get_or words 0 0 → IsWide kind words
wide_here kind [] some is wide = absurd (omega (arith, some))
wide_here kind (w ∷ words) some is wide = λ kinds. (w, word_numbers kinds words, ap (λ k. word_numbers (k ∷ kinds) (w ∷ words)) is, wide)

-- a number of more than 32 bits behind others
pub wide_behind : (numbers done rest : List ℕ) (n : ℕ) → numbers ≡ done ++ n ∷ rest → 2 ^ 32 ≤ n → All (λ k. k < 2 ^ 32) numbers → ⊥
wide_behind numbers done rest n is wide all =
    let there : All (λ k. k < 2 ^ 32) (done ++ n ∷ rest) = subst (All (λ k. k < 2 ^ 32)) is all in
    let here : get_or (done ++ n ∷ rest) (length done) 0 ≡ n = get_or-append_seam done n rest 0 in
    omega (arith, there (length done) 0 (omega (arith, length-append done (n ∷ rest))), here, wide)

-- the kinds from a slot on
pub kinds_here : (escaped next : Bool) (text : List ℕ) (i byte : ℕ) (slot : Option Kind) (kind : Kind) → i < length text → byte ≡ get_or text i 0
    → ((rest : List ℕ) → kinds_from escaped (byte ∷ rest) ≡ with_kind slot (kinds_from next rest)) → slot ≡ Some kind
    → kinds_from escaped (drop i text) ≡ kind ∷ kinds_from next (drop (i + 1) text)
kinds_here escaped next text i byte slot kind within is step some =
    ap (λ l. kinds_from escaped l) (drop_more text i 0 within)
    ∙ ap (λ b. kinds_from escaped (b ∷ drop (i + 1) text)) (sym is)
    ∙ step (drop (i + 1) text) ∙ ap (λ s. with_kind s (kinds_from next (drop (i + 1) text))) some

-- the words that slots number are those that a row names
pub slot_numbers : (types : List (List ℕ)) (row : Row) (slots : List Slot) → slots ≡ slots_of (get_or types row.log_type []) → word_numbers (map kind_in slots) row.words ≡ numbers_of_row types row
slot_numbers types row slots are =
    ap (λ (l : List Slot). word_numbers (map kind_in l) row.words) are ∙ ap (λ (kinds : List Kind). word_numbers kinds row.words) (kinds_of_slots (get_or types row.log_type []))

-- the slots from one on
pub kinds_slot : (slots : List Slot) (i : ℕ) (slot : Slot) → slice_get slots i ≡ Some slot → map kind_in (drop i slots) ≡ slot.kind ∷ map kind_in (drop (suc i) slots)
kinds_slot [] i slot at = absurd (cc (at))
kinds_slot (s ∷ slots) zero slot at = let same : s ≡ slot = cc (at) in ap (λ (x : Slot). x.kind ∷ map kind_in slots) same
kinds_slot (s ∷ slots) (suc i) slot at = kinds_slot slots i slot at

-- ---- rows

pub flat_map_push : {X : Type 0} (f : X → List ℕ) (xs : List X) (x : X) → flat_map f (xs ++ x ∷ []) ≡ flat_map f xs ++ f x
flat_map_push f [] x = flat_map-cons f x [] ∙ append-nil (f x)
flat_map_push f (y ∷ xs) x =
    flat_map-cons f y (xs ++ x ∷ []) ∙ ap (λ l. f y ++ l) (flat_map_push f xs x) ∙ sym (append_assoc (f y) (flat_map f xs) (f x)) ∙ ap (λ l. l ++ f x) (sym (flat_map-cons f y xs))

pub flat_map_more : {X : Type 0} (f : X → List ℕ) (xs : List X) (i : ℕ) (x : X) → slice_get xs i ≡ Some x → flat_map f (take (i + 1) xs) ≡ flat_map f (take i xs) ++ f x
flat_map_more f [] i x at = absurd (cc (at))
flat_map_more f (y ∷ xs) zero x at =
    let same : y ≡ x = cc (at) in
    flat_map-cons f y [] ∙ append-nil (f y) ∙ ap f same
flat_map_more f (y ∷ xs) (suc i) x at =
    let one : suc i + 1 ≡ suc (i + 1) = omega arith in
    ap (λ k. flat_map f (take k (y ∷ xs))) one ∙ flat_map-cons f y (take (i + 1) xs)
    ∙ ap (λ l. f y ++ l) (flat_map_more f xs i x at) ∙ sym (append_assoc (f y) (flat_map f (take i xs)) (f x)) ∙ ap (λ l. l ++ f x) (sym (flat_map-cons f y (take i xs)))

pub part_of_all : {X : Type 0} (P : ℕ → Type 0) (f : X → List ℕ) (xs : List X) (i : ℕ) (x : X) → slice_get xs i ≡ Some x → All P (flat_map f xs) → All P (f x)
part_of_all P f [] i x at all = absurd (cc (at))
part_of_all P f (y ∷ xs) zero x at all =
    let same : y ≡ x = cc (at) in
    subst (λ z. All P (f z)) same
    (subst (All P) (take_at (f y) (flat_map f xs) (length (f y)) refl) (All-take P (length (f y)) (f y ++ flat_map f xs) (subst (All P) (flat_map-cons f y xs) all)))
part_of_all P f (y ∷ xs) (suc i) x at all =
    part_of_all P f xs i x at
    (subst (All P) (drop_at (f y) (flat_map f xs) (length (f y)) refl) (All-drop P (length (f y)) (f y ++ flat_map f xs) (subst (All P) (flat_map-cons f y xs) all)))

-- what is told of an answer tells more
pub some_then : {A : Type 0} (o : Option A) (P Q : A → Type 0) → ((x : A) → P x → Q x) → IfSome o P → IfSome o Q
some_then None P Q more told = tt
some_then (Some x) P Q more told = more x told

pub none_then : {A : Type 0} (o : Option A) (P Q : Type 0) → (P → Q) → IfNone o P → IfNone o Q
none_then None P Q more told = more told
none_then (Some x) P Q more told = tt
