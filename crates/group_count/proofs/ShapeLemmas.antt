-- The shapes of log types, symbol by symbol and byte by byte.
use Rattle.std.proofs.Common.{◌≡◌, ◌∷◌, ◌++◌, ℕ, Bool, true, false, ◌==◌, if◌then◌else◌, List, [], All, arith, refl, ap, sym, ◌∙◌, append_assoc}
use Rattle.std.proofs.lemmas.Bool.Decides.{nat_tests}
use Rattle.std.proofs.lemmas.List.Elements.{All-head, All-tail}
use Rattle.logtype_text.specs.declared.symbols.Kind.TheVariants.{Whole, Word, Decimal}
use Rattle.logtype_text.specs.declared.symbols.Symbol.{Symbol}
use Rattle.logtype_text.specs.declared.symbols.Symbol.TheVariants.{Byte, Slot}
use Rattle.logtype_text.specs.TypeText.{is_escaped, text_of_symbol, type_text}
use Rattle.search_meaning.specs.GroupLines.{shape_from, shape_of, shape_of_symbol, shape_of_symbols}

-- a byte that needs no escape is shown as it is
plain_byte : (b : ℕ) (rest : List ℕ) → is_escaped b ≡ false → shape_from false (b ∷ rest) ≡ b ∷ shape_from false rest
plain_byte b rest e =
    let escape : b == 0x5C ≡ false = grind (arith, nat_tests) in
    let whole : b == 0x11 ≡ false = grind (arith, nat_tests) in
    let word : b == 0x12 ≡ false = grind (arith, nat_tests) in
    let decimal : b == 0x13 ≡ false = grind (arith, nat_tests) in
    rw (escape, whole, word, decimal) refl

-- so is a run of such bytes
pub plain_run : (run rest : List ℕ) → All (λ b. is_escaped b ≡ false) run → shape_of (run ++ rest) ≡ run ++ shape_of rest
plain_run [] rest all = refl
plain_run (b ∷ run) rest all =
    plain_byte b (run ++ rest) (All-head (λ b. is_escaped b ≡ false) b run all)
    ∙ ap (λ s. b ∷ s) (plain_run run rest (All-tail (λ b. is_escaped b ≡ false) b run all))

byte_shape : (b : ℕ) (rest : List ℕ) (e : Bool) → is_escaped b ≡ e → shape_from false ((if e then 0x5C ∷ b ∷ [] else b ∷ []) ++ rest) ≡ b ∷ shape_from false rest
byte_shape b rest true is = refl
byte_shape b rest false is = plain_byte b rest is

symbol_shape : (symbol : Symbol) (rest : List ℕ) → shape_from false (text_of_symbol symbol ++ rest) ≡ shape_of_symbol symbol ++ shape_from false rest
symbol_shape (Byte b) rest = byte_shape b rest (is_escaped b) refl
symbol_shape (Slot Whole) rest = refl
symbol_shape (Slot Word) rest = refl
symbol_shape (Slot Decimal) rest = refl

pub shape_is : (symbols : List Symbol) → shape_of (type_text symbols) ≡ shape_of_symbols symbols
shape_is [] = refl
shape_is (symbol ∷ symbols) =
    symbol_shape symbol (type_text symbols) ∙ ap (λ s. shape_of_symbol symbol ++ s) (shape_is symbols)

-- a run of constants was written, and the rest is left
pub run_written : (out text run rest : List ℕ) → text ≡ run ++ rest → All (λ b. is_escaped b ≡ false) run
    → (out ++ run) ++ shape_of rest ≡ out ++ shape_of text
run_written out text run rest is all =
    append_assoc out run (shape_of rest) ∙ ap (λ s. out ++ s) (sym (plain_run run rest all) ∙ ap shape_of (sym is))
