-- The slots of a text, and that its constants are cut well where they are in one row.
use Rattle.std.proofs.Common.{◌≡◌, ℕ, Bool, true, false, cond, List, [], ◌∷◌, ◌++◌, map, refl, sym, ◌∙◌, ap, subst, arith, append_assoc}
use Rattle.std.specs.Prelude.{◌↔◌, ◌==◌, Option, None, Some, if◌then◌else◌}
use Rattle.std.proofs.lemmas.Bool.Decides.{nat_tests}
use Rattle.token_rules.specs.Tokens.{IsDelimiter}
use Rattle.logtype_text.specs.declared.symbols.Kind.{Kind}
use Rattle.logtype_text.specs.declared.symbols.Kind.TheVariants.{Whole, Word, Decimal}
use Rattle.logtype_text.specs.declared.symbols.Symbol.TheVariants.{Byte, Slot as SlotOf}
use Rattle.logtype_text.specs.Parts.{Part, Constant, Variable, symbol_of}
use Rattle.logtype_text.specs.Cut.{Breaks, Cut, plains, ended, delimiter, plain, held}
use Rattle.logtype_text.specs.TypeText.{is_escaped, text_of_symbol, type_text}
use Rattle.logtype_text.proofs.TextLemmas.{one_text, some_byte}
use Rattle.row_codec.specs.Numbers.{kinds_from}
use Rattle.row_codec.specs.StepsCut.{IsCutText, StopsText, TellsBreaks}
use Rattle.row_codec.proofs.CutTextLemmas.{cut_constants, cut_delimiter, cut_end, cut_variable, stops_delimiter, variable_held, variable_word}
use Rattle.archive_core.specs.declared.slots.Slot.{Slot}
use Rattle.archive_core.specs.Slots.{AreHeld, IsWellCut, slot_with, slots_from, slots_of}

-- the kinds of slots
abbrev pub kind_in : Slot → Kind
kind_in s = s.kind

kinds_step : (w x y z : Bool) (prev : Option ℕ) (b : ℕ) (text : List ℕ) → ((p : Option ℕ) (e : Bool) → map kind_in (slots_from p e text) ≡ kinds_from e text)
    → map kind_in (if w then slots_from prev true text
    else (if x then slot_with Whole prev ∷ slots_from None false text
    else (if y then slot_with Word prev ∷ slots_from None false text
    else (if z then slot_with Decimal prev ∷ slots_from None false text else slots_from (Some b) false text))))
    ≡ (if w then kinds_from true text
    else (if x then Whole ∷ kinds_from false text
    else (if y then Word ∷ kinds_from false text
    else (if z then Decimal ∷ kinds_from false text else kinds_from false text))))
kinds_step true x y z prev b text rest = rest prev true
kinds_step false true y z prev b text rest = ap (λ l. Whole ∷ l) (rest None false)
kinds_step false false true z prev b text rest = ap (λ l. Word ∷ l) (rest None false)
kinds_step false false false true prev b text rest = ap (λ l. Decimal ∷ l) (rest None false)
kinds_step false false false false prev b text rest = rest (Some b) false

kinds_from_slots : (text : List ℕ) (prev : Option ℕ) (escaped : Bool) → map kind_in (slots_from prev escaped text) ≡ kinds_from escaped text
kinds_from_slots [] prev true = refl
kinds_from_slots [] prev false = refl
kinds_from_slots (b ∷ text) prev true = kinds_from_slots text (Some b) false
kinds_from_slots (b ∷ text) prev false = kinds_step (b == 0x5C) (b == 0x11) (b == 0x12) (b == 0x13) prev b text (λ p e. kinds_from_slots text p e)

pub kinds_of_slots : (text : List ℕ) → map kind_in (slots_of text) ≡ kinds_from false text
kinds_of_slots text = kinds_from_slots text None false

-- the slots behind a constant byte, and from a slot on
slots_escaped : (prev : Option ℕ) (b : ℕ) (e : Bool) (rest : List ℕ) → is_escaped b ≡ e → slots_from prev false (cond e (0x5C ∷ b ∷ []) (b ∷ []) ++ rest) ≡ slots_from (Some b) false rest
slots_escaped prev b true rest is = refl
slots_escaped prev b false rest is = grind (arith, nat_tests)

slots_byte : (prev : Option ℕ) (b : ℕ) (rest : List ℕ) → slots_from prev false (text_of_symbol (Byte b) ++ rest) ≡ slots_from (Some b) false rest
slots_byte prev b rest = slots_escaped prev b (is_escaped b) rest refl

slots_slot : (prev : Option ℕ) (kind : Kind) (rest : List ℕ) → slots_from prev false (text_of_symbol (SlotOf kind) ++ rest) ≡ slot_with kind prev ∷ slots_from None false rest
slots_slot prev Whole rest = refl
slots_slot prev Word rest = refl
slots_slot prev Decimal rest = refl

-- where a token ends, no slot follows that what stands before it would matter to
slots_break : (prev : Option ℕ) (parts : List Part) → Breaks parts → slots_from prev false (type_text (map symbol_of parts)) ≡ slots_from None false (type_text (map symbol_of parts))
slots_break prev [] breaks = refl
slots_break prev (Constant b ∷ parts) breaks = slots_byte prev b (type_text (map symbol_of parts)) ∙ sym (slots_byte None b (type_text (map symbol_of parts)))
slots_break prev (Variable kind text ∷ parts) breaks = absurd breaks

slots_plain : (prev : Option ℕ) (bytes : List ℕ) (parts : List Part) → Breaks parts → slots_from prev false (type_text (map symbol_of (plains bytes parts))) ≡ slots_from None false (type_text (map symbol_of parts))
slots_plain prev [] parts breaks = slots_break prev parts breaks
slots_plain prev (b ∷ bytes) parts breaks = slots_byte prev b (type_text (map symbol_of (plains bytes parts))) ∙ slots_plain (Some b) bytes parts breaks

-- ---- what the lemmas on cutting ask, from the parts

breaks_same : (a b : List Part) → map symbol_of a ≡ map symbol_of b → Breaks a → Breaks b
breaks_same [] [] same breaks = tt
breaks_same [] (p ∷ b) same breaks = absurd (cc)
breaks_same (p ∷ a) [] same breaks = tt
breaks_same (Constant x ∷ a) (Constant y ∷ b) same breaks = let heads : Byte x ≡ Byte y = cc in let bytes : x ≡ y = cc in subst IsDelimiter bytes breaks
breaks_same (Constant x ∷ a) (Variable kind text ∷ b) same breaks = absurd (let heads : Byte x ≡ SlotOf kind = cc in cc)
breaks_same (Variable kind text ∷ a) (p ∷ b) same breaks = absurd breaks

tells_break : (parts : List Part) → Breaks parts → TellsBreaks (type_text (map symbol_of parts)) true
tells_break parts breaks = λ other typed. (λ yes. breaks_same parts other (one_text (map symbol_of parts) (map symbol_of other) typed) breaks, λ other_breaks. refl)

stops_there : (parts : List Part) → Breaks parts → StopsText (type_text (map symbol_of parts))
stops_there [] breaks = λ rest first. absurd (some_byte (Byte first.byte) rest (sym first.cut))
stops_there (Constant b ∷ parts) breaks = stops_delimiter (type_text (map symbol_of (Constant b ∷ parts))) b (type_text (map symbol_of parts)) refl breaks
stops_there (Variable kind text ∷ parts) breaks = absurd breaks

plain_text : (bytes : List ℕ) (parts : List Part) → type_text (map symbol_of (plains bytes parts)) ≡ type_text (map Byte bytes) ++ type_text (map symbol_of parts)
plain_text [] parts = refl
plain_text (b ∷ bytes) parts = ap (λ l. text_of_symbol (Byte b) ++ l) (plain_text bytes parts) ∙ sym (append_assoc (text_of_symbol (Byte b)) (type_text (map Byte bytes)) (type_text (map symbol_of parts)))

-- ---- parts that are cut are told by the words

abbrev ByWords : Option ℕ → List Part → Type 0
ByWords prev parts = (words : List (List ℕ)) (row : List ℕ) → IsCutText words prev (type_text (map symbol_of parts)) row ↔ AreHeld words (slots_from prev false (type_text (map symbol_of parts))) row

none_held : (words : List (List ℕ)) (row : List ℕ) → AreHeld words [] row → row ≡ []
none_held words [] are = refl
none_held words (w ∷ row) are = absurd are

by_none : (prev : Option ℕ) → ByWords prev []
by_none prev words row =
    let none = cut_end words prev [] row ((λ cut. cut), (λ cut. cut)) refl in (
      λ cut. subst (λ l. AreHeld words [] l) (sym (none.0 cut)) tt,
      λ are. none.1 (none_held words row are),
    )

by_slot : (prev : Option ℕ) (kind : Kind) (token : List ℕ) (parts : List Part) → Breaks parts → ByWords None parts → ByWords prev (Variable kind token ∷ parts)
by_slot prev kind token parts breaks rest words [] = (
  λ cut. absurd (variable_word words prev (type_text (map symbol_of (Variable kind token ∷ parts))) kind (type_text (map symbol_of parts)) refl cut),
  λ are. absurd (subst (λ l. AreHeld words l []) (slots_slot prev kind (type_text (map symbol_of parts))) are),
)
by_slot prev kind token parts breaks rest words (w ∷ row) =
    let text = type_text (map symbol_of (Variable kind token ∷ parts)) in
    let after = type_text (map symbol_of parts) in
    let slots = slots_slot prev kind after in (
      λ cut.
          let has = variable_held words prev text (w ∷ row) kind after w row refl refl cut in
          let more = (cut_variable words prev text (w ∷ row) kind after w row refl refl (tells_break parts breaks) has).0 cut in
          subst (λ l. AreHeld words l (w ∷ row)) (sym slots) (has, (rest words row).0 more),
      λ are.
          let both : AreHeld words (slot_with kind prev ∷ slots_from None false after) (w ∷ row) = subst (λ l. AreHeld words l (w ∷ row)) slots are in
          (cut_variable words prev text (w ∷ row) kind after w row refl refl (tells_break parts breaks) both.0).1 ((rest words row).1 both.1),
    )

by_words : {prev : Option ℕ} {parts : List Part} → Cut prev parts → ByWords prev parts
by_words (ended {prev}) = by_none prev
by_words (delimiter {prev} {parts} b is rest) = λ words row.
    let after = type_text (map symbol_of parts) in
    let here = cut_delimiter words prev (type_text (map symbol_of (Constant b ∷ parts))) row b after refl is in
    let more = by_words rest words row in
    let slots = slots_byte prev b after in (
      λ cut. subst (λ l. AreHeld words l row) (sym slots) (more.0 (here.0 cut)),
      λ are. here.1 (more.1 (subst (λ l. AreHeld words l row) slots are)),
    )
by_words (plain {prev} {parts} bytes text breaks constant rest) = λ words row.
    let after = type_text (map symbol_of parts) in
    let here = cut_constants words prev (type_text (map symbol_of (plains bytes parts))) row bytes after text.some (plain_text bytes parts) text.unbroken (stops_there parts breaks) (tells_break parts breaks) constant in
    let more = by_words rest words row in
    let slots = slots_plain prev bytes parts breaks in (
      λ cut. subst (λ l. AreHeld words l row) (sym slots) (more.0 (here.0 cut)),
      λ are. here.1 (more.1 (subst (λ l. AreHeld words l row) slots are)),
    )
by_words (held {prev} {parts} kind token text breaks variable has_kind rest) = by_slot prev kind token parts breaks (by_words rest)

-- a text is well cut where one row of it is cut
pub well_cut : (words : List (List ℕ)) (text row : List ℕ) → IsCutText words None text row → IsWellCut text
well_cut words text row whole = subst IsWellCut (sym whole.typed) (by_words whole.cut)
