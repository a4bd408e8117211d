-- A pattern in which `?` may stand for any bytes too.
use Rattle.std.specs.Prelude.{List, map}
use Rattle.wild_match.specs.declared.pattern.Item.{Item}
use Rattle.wild_match.specs.declared.pattern.Item.TheVariants.{Byte, One, Many}

-- One becomes Many
abbrev pub widened_item : Item → Item
widened_item (Byte b) = Byte b
widened_item One = Many
widened_item Many = Many

abbrev pub widened : List Item → List Item
widened = map widened_item
