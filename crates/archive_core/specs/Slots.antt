-- The slots of a log type, and the words of rows in them.
use Rattle.std.specs.Prelude.{ℕ, Bool, true, false, Option, None, Some, List, [], ◌∷◌, ◌↔◌, if◌then◌else◌, ◌==◌}
use Rattle.std.specs.List.{AllZip}
use Rattle.logtype_text.specs.declared.symbols.Kind.{Kind}
use Rattle.logtype_text.specs.declared.symbols.Kind.TheVariants.{Whole, Word, Decimal}
use Rattle.row_codec.specs.StepsCut.{IsCutText, IsHeldWord}
use Rattle.archive_core.specs.declared.slots.Slot.{Slot}

abbrev pub slot_with : Kind → Option ℕ → Slot
slot_with kind prev = record { kind = kind; prev = prev }

-- The slots of a log type's text, from the left, each with the constant byte directly before it, if one
-- stands there. Before the text stands `prev`; `escaped` tells that a `\` stands before it.
abbrev pub slots_from : Option ℕ → Bool → List ℕ → List Slot
slots_from prev escaped [] = []
slots_from prev true (b ∷ text) = slots_from (Some b) false text
slots_from prev false (b ∷ text) =
    if b == 0x5C then slots_from prev true text
    else (if b == 0x11 then slot_with Whole prev ∷ slots_from None false text
    else (if b == 0x12 then slot_with Word prev ∷ slots_from None false text
    else (if b == 0x13 then slot_with Decimal prev ∷ slots_from None false text else slots_from (Some b) false text)))

-- the slots of a text
abbrev pub slots_of : List ℕ → List Slot
slots_of text = slots_from None false text

-- the slots, behind this one if there is one
abbrev pub with_slot : Option Slot → List Slot → List Slot
with_slot None slots = slots
with_slot (Some slot) slots = slot ∷ slots

-- there is a word for each slot, which is that of a variable that may stand there
abbrev pub AreHeld : List (List ℕ) → List Slot → List ℕ → Type 0
AreHeld words slots row = AllZip (λ (slot : Slot) word. IsHeldWord words slot.prev slot.kind word) slots row

-- The constants of the text are cut as those of bodies are. So whether a row of it is cut by the rule of
-- tokens is told by the row's words alone.
abbrev pub IsWellCut : List ℕ → Type 0
IsWellCut text = (words : List (List ℕ)) (row : List ℕ) → IsCutText words None text row ↔ AreHeld words (slots_of text) row
