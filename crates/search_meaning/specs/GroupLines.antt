-- What is printed of groups: a line for each.
use Rattle.std.specs.Prelude.{ℕ, Bool, true, false, if◌then◌else◌, ◌==◌, List, [], ◌∷◌, ◌++◌, flat_map, codes}
use Rattle.std.specs.Fmt.{decimal, signed_decimal}
use Rattle.logtype_text.specs.declared.symbols.Kind.TheVariants.{Whole, Word, Decimal}
use Rattle.logtype_text.specs.declared.symbols.Symbol.{Symbol}
use Rattle.logtype_text.specs.declared.symbols.Symbol.TheVariants.{Byte, Slot}
use Rattle.search_meaning.specs.declared.groups.Group.{Group}

-- the shape of a symbol: a constant byte as it is, and the kind of a slot
abbrev pub shape_of_symbol : Symbol → List ℕ
shape_of_symbol (Byte b) = b ∷ []
shape_of_symbol (Slot Whole) = codes "{i}"
shape_of_symbol (Slot Word) = codes "{w}"
shape_of_symbol (Slot Decimal) = codes "{d}"

-- the shape of a log type's symbols
abbrev pub shape_of_symbols : List Symbol → List ℕ
shape_of_symbols symbols = flat_map shape_of_symbol symbols

-- the shape of a byte of a log type's text that has no `\` before it
abbrev pub shape_of_byte : ℕ → List ℕ
shape_of_byte b =
    if b == 0x11 then codes "{i}"
    else (if b == 0x12 then codes "{w}"
    else (if b == 0x13 then codes "{d}" else b ∷ []))

-- the shape of the text of a log type, read from the left; `escaped` tells that a `\` stands before it
abbrev pub shape_from : Bool → List ℕ → List ℕ
shape_from escaped [] = []
shape_from true (b ∷ text) = b ∷ shape_from false text
shape_from false (b ∷ text) = if b == 0x5C then shape_from true text else shape_of_byte b ++ shape_from false text

abbrev pub shape_of : List ℕ → List ℕ
shape_of text = shape_from false text

-- how many there are, a space, and the shape of the log type
abbrev pub type_line : Group → List ℕ
type_line group = decimal group.count ++ (32 ∷ (shape_of group.key ++ 10 ∷ []))

-- groups by log type
abbrev pub types_text : List Group → List ℕ
types_text groups = flat_map type_line groups

-- the first moment of the minute, a space, and how many there are
abbrev pub minute_line : Group → List ℕ
minute_line group = signed_decimal group.moment ++ (32 ∷ (decimal group.count ++ 10 ∷ []))

-- how many have no stamp, where some have none
abbrev pub none_line : ℕ → List ℕ
none_line without = if without == 0 then [] else codes "none " ++ (decimal without ++ 10 ∷ [])

-- groups by minute, and then those without stamp
abbrev pub minutes_text : List Group → ℕ → List ℕ
minutes_text groups without = flat_map minute_line groups ++ none_line without
