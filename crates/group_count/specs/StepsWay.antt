-- Patterns that match any text.
use Rattle.std.specs.Prelude.{List, [], ◌∷◌}
use Rattle.wild_match.specs.declared.pattern.Item.{Item}
use Rattle.wild_match.specs.declared.pattern.Item.TheVariants.{Byte, Many, One}

-- each item stands for any bytes
abbrev pub AreMany : List Item → Type 0
AreMany [] = Unit {0}
AreMany (Byte b ∷ items) = ⊥
AreMany (One ∷ items) = ⊥
AreMany (Many ∷ items) = AreMany items
