-- How `scan` prints a message.
use Rattle.std.specs.Prelude.{◌≡◌, ◌⊎◌, ℕ, List, [], ◌∷◌, ◌++◌}
use Rattle.std.specs.Fmt.{decimal}
use Rattle.wild_match.specs.Matches.{Match}
use Rattle.wild_match.specs.declared.pattern.Item.{Item}

-- the log's name, the message's number and the message, with `:` between them, and a newline
abbrev pub found_line : List ℕ → ℕ → List ℕ → List ℕ
found_line name number message = name ++ (58 ∷ (decimal number ++ (58 ∷ (message ++ 10 ∷ []))))

-- a message that the pattern matches is printed, and no other one
abbrev pub Finds : List ℕ → List Item → ℕ → List ℕ → List ℕ → Type 0
Finds name pattern number message text =
    (Match pattern message × (text ≡ found_line name number message))
    ⊎ ((¬ Match pattern message) × (text ≡ []))
