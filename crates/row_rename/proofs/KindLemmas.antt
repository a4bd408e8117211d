-- The slots of a log type's text, one symbol after the other.
use Rattle.std.proofs.Common.{◌≡◌, ℕ, Bool, true, false, cond, List, [], ◌∷◌, ◌++◌, refl, sym, ◌∙◌, ap, arith, append_assoc}
use Rattle.std.proofs.lemmas.Bool.Decides.{nat_tests}
use Rattle.logtype_text.specs.declared.symbols.Kind.{Kind}
use Rattle.logtype_text.specs.declared.symbols.Kind.TheVariants.{Whole, Word, Decimal}
use Rattle.logtype_text.specs.declared.symbols.Symbol.{Symbol}
use Rattle.logtype_text.specs.declared.symbols.Symbol.TheVariants.{Byte, Slot}
use Rattle.logtype_text.specs.TypeText.{is_escaped, text_of_symbol}
use Rattle.row_codec.specs.Numbers.{kinds_from}

-- a constant byte's text has no slot
kinds_byte : (b : ℕ) (e : Bool) (rest : List ℕ) → is_escaped b ≡ e → kinds_from false (cond e (0x5C ∷ b ∷ []) (b ∷ []) ++ rest) ≡ kinds_from false rest
kinds_byte b true rest is = refl
kinds_byte b false rest is = grind (arith, nat_tests)

kinds_slot : (kind : Kind) (rest : List ℕ) → kinds_from false (text_of_symbol (Slot kind) ++ rest) ≡ kind ∷ kinds_from false rest
kinds_slot Whole rest = refl
kinds_slot Word rest = refl
kinds_slot Decimal rest = refl

pub slot_pushed : (symbol : Symbol) (kind : Kind) (old new : List Kind) (rest : List ℕ) → symbol ≡ Slot kind → new ≡ old ++ kind ∷ [] → old ++ kinds_from false (text_of_symbol symbol ++ rest) ≡ new ++ kinds_from false rest
slot_pushed symbol kind old new rest is pushed =
    ap (λ s. old ++ kinds_from false (text_of_symbol s ++ rest)) is ∙ ap (λ l. old ++ l) (kinds_slot kind rest)
    ∙ sym (append_assoc old (kind ∷ []) (kinds_from false rest)) ∙ ap (λ l. l ++ kinds_from false rest) (sym pushed)

pub byte_passed : (symbol : Symbol) (b : ℕ) (kinds : List Kind) (rest : List ℕ) → symbol ≡ Byte b → kinds ++ kinds_from false (text_of_symbol symbol ++ rest) ≡ kinds ++ kinds_from false rest
byte_passed symbol b kinds rest is =
    ap (λ s. kinds ++ kinds_from false (text_of_symbol s ++ rest)) is ∙ ap (λ l. kinds ++ l) (kinds_byte b (is_escaped b) rest refl)
