-- Runs, symbol by symbol.
use Rattle.std.proofs.Common.{◌≡◌, ℕ, Bool, true, List, [], ◌∷◌, ◌++◌, length, map, refl, sym, ◌∙◌, ap, subst, arith, append_assoc}
use Rattle.std.specs.Prelude.{◌≢◌, ◌↔◌, IsTrue}
use Rattle.logtype_text.specs.declared.symbols.Symbol.{Symbol}
use Rattle.logtype_text.specs.declared.symbols.Symbol.TheVariants.{Byte}
use Rattle.logtype_text.specs.TypeText.{text_of_symbol, type_text}
use Rattle.logtype_text.proofs.TextLemmas.{first_same}
use Rattle.barren_segments.specs.Runs.{BeginsRun, HoldsRunFrom, IsRunEnd, ends_run, may_begin}

-- another symbol is no constant byte like this
pub other_symbol : (text : List ℕ) (symbol : Symbol) (after : List ℕ) (b : ℕ) → text ≡ text_of_symbol symbol ++ after → symbol ≢ Byte b
    → (rest : List ℕ) → text ≢ text_of_symbol (Byte b) ++ rest
other_symbol text symbol after b cut other rest same = other (first_same symbol (Byte b) after rest (sym cut ∙ same)).0

-- the text of a word before more
word_text : (b : ℕ) (word behind : List ℕ) → type_text (map Byte (b ∷ word)) ++ behind ≡ text_of_symbol (Byte b) ++ (type_text (map Byte word) ++ behind)
word_text b word behind = append_assoc (text_of_symbol (Byte b)) (type_text (map Byte word)) behind

-- a byte of the word
pub begins_then : {A : Type 0} (rest left : List ℕ) (b : ℕ) (behind after : List ℕ) → left ≡ b ∷ behind → rest ≡ text_of_symbol (Byte b) ++ after
    → (A ↔ BeginsRun rest left) → A ↔ BeginsRun after behind
begins_then rest left b behind after cut here so_far = (
  λ a.
      let has = so_far.0 a in
      let all : rest ≡ type_text (map Byte (b ∷ behind)) ++ has.0 = subst (λ l. rest ≡ type_text (map Byte l) ++ has.0) cut has.1 in
      (has.0, (first_same (Byte b) (Byte b) after (type_text (map Byte behind) ++ has.0) (sym here ∙ all ∙ word_text b behind has.0)).1, has.2),
  λ (end, is, ends).
      so_far.1 (end, subst (λ l. rest ≡ type_text (map Byte l) ++ end) (sym cut) (here ∙ ap (λ l. text_of_symbol (Byte b) ++ l) is ∙ sym (word_text b behind end)), ends),
)

-- another byte, or none
pub begins_other : {A : Type 0} (rest left : List ℕ) (b : ℕ) (behind : List ℕ) → left ≡ b ∷ behind → ((after : List ℕ) → rest ≢ text_of_symbol (Byte b) ++ after)
    → (A ↔ BeginsRun rest left) → ¬ A
begins_other rest left b behind cut none so_far a =
    let has = so_far.0 a in
    let all : rest ≡ type_text (map Byte (b ∷ behind)) ++ has.0 = subst (λ l. rest ≡ type_text (map Byte l) ++ has.0) cut has.1 in
    none (type_text (map Byte behind) ++ has.0) (all ∙ word_text b behind has.0)

-- the end of the word
pub begins_end : {A B : Type 0} (rest left : List ℕ) → length left ≡ 0 → (B ↔ IsRunEnd rest) → (A ↔ BeginsRun rest left) → B ↔ A
begins_end rest [] none ends so_far =
    (λ b. so_far.1 (rest, refl, ends.0 b), λ a. let has = so_far.0 a in ends.1 (subst (λ t. IsRunEnd t) (sym has.1) has.2))
begins_end rest (b ∷ left) none ends so_far = absurd (omega arith)

-- the run at the front is the word
pub run_here : (here : Bool) (text word : List ℕ) → here ≡ true → BeginsRun text word → HoldsRunFrom here text word
run_here here text word may is = record { front = []; run = text; begins = may; stands = refl; is = is }

-- past a symbol
holds_past : (here : Bool) (text word : List ℕ) (symbol : Symbol) (after : List ℕ) → text ≡ text_of_symbol symbol ++ after → HoldsRunFrom (ends_run symbol) after word → HoldsRunFrom here text word
holds_past here text word symbol after cut has = record {
  front = symbol ∷ has.front;
  run = has.run;
  begins = has.begins;
  stands = cut ∙ ap (λ l. text_of_symbol symbol ++ l) has.stands ∙ sym (append_assoc (text_of_symbol symbol) (type_text has.front) has.run);
  is = has.is;
}

past_holds : (here : Bool) (text word : List ℕ) (symbol : Symbol) (after : List ℕ) (front : List Symbol) (run : List ℕ) → text ≡ text_of_symbol symbol ++ after → ¬ (IsTrue here × BeginsRun text word)
    → IsTrue (may_begin here front) → text ≡ type_text front ++ run → BeginsRun run word → HoldsRunFrom (ends_run symbol) after word
past_holds here text word symbol after [] run cut other begins stands is = absurd (other (begins, subst (λ t. BeginsRun t word) (sym stands) is))
past_holds here text word symbol after (s ∷ front) run cut other begins stands is =
    let both = first_same symbol s after (type_text front ++ run) (sym cut ∙ stands ∙ append_assoc (text_of_symbol s) (type_text front) run) in
    record { front = front; run = run; begins = subst (λ x. IsTrue (may_begin (ends_run x) front)) (sym both.0) begins; stands = both.1; is = is }

pub holds_then : {A : Type 0} (here : Bool) (rest word : List ℕ) (symbol : Symbol) (after : List ℕ) (next : Bool) → rest ≡ text_of_symbol symbol ++ after → next ≡ ends_run symbol
    → ¬ (IsTrue here × BeginsRun rest word) → (A ↔ HoldsRunFrom here rest word) → A ↔ HoldsRunFrom next after word
holds_then {A} here rest word symbol after next cut is other so_far =
    subst (λ n. A ↔ HoldsRunFrom n after word) (sym is) (
      λ a. let has = so_far.0 a in past_holds here rest word symbol after has.front has.run cut other has.begins has.stands has.is,
      λ has. so_far.1 (holds_past here rest word symbol after cut has),
    )

no_run : (here : Bool) (text word : List ℕ) (front : List Symbol) (run : List ℕ) → ((symbol : Symbol) (after : List ℕ) → text ≢ text_of_symbol symbol ++ after) → ¬ (IsTrue here × BeginsRun text word)
    → IsTrue (may_begin here front) → text ≡ type_text front ++ run → BeginsRun run word → ⊥
no_run here text word [] run none other begins stands is = other (begins, subst (λ t. BeginsRun t word) (sym stands) is)
no_run here text word (s ∷ front) run none other begins stands is =
    none s (type_text front ++ run) (stands ∙ append_assoc (text_of_symbol s) (type_text front) run)

pub holds_none : {A : Type 0} (here : Bool) (rest word : List ℕ) → ((symbol : Symbol) (after : List ℕ) → rest ≢ text_of_symbol symbol ++ after)
    → ¬ (IsTrue here × BeginsRun rest word) → (A ↔ HoldsRunFrom here rest word) → ¬ A
holds_none here rest word none other so_far a = let has = so_far.0 a in no_run here rest word has.front has.run none other has.begins has.stands has.is
