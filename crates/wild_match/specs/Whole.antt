-- The items of a pattern that is made ready.
use Rattle.std.specs.Prelude.{List, ◌∷◌, ◌++◌, if◌then◌else◌}
use Rattle.wild_match.specs.declared.pattern.Item.{Item}
use Rattle.wild_match.specs.declared.pattern.Item.TheVariants.{Many}
use Rattle.wild_match.specs.declared.matcher.Matcher.TheInside.{Inside}
use Rattle.wild_match.specs.Matches.{joined}

-- the front alone, or the front, Many, and what is behind it
abbrev pub items_of_matcher : Inside → List Item
items_of_matcher m =
    if m.has_many then m.front.items ++ Many ∷ joined m.behind.pieces.items m.behind.tail.items
    else m.front.items
