-- What follows of tokens from their definition.
use Rattle.std.specs.Prelude.{◌≡◌, ℕ, ◌<◌, ◌≤◌, ◌↔◌, List, length, slice_index}
use Rattle.token_rules.specs.Tokens.{IsDelimiter, IsOutside, IsToken}

-- two tokens of one text that overlap are the same token
abbrev pub TokensAreApart : Type 0
TokensAreApart =
    (body : List ℕ) (start end start' end' : ℕ)
    → IsToken body start end → IsToken body start' end'
    → start < end' → start' < end
    → (start ≡ start') × (end ≡ end')

-- the token of the body from start up to end has the byte at the place
abbrev pub HoldsPlace : List ℕ → ℕ → ℕ → ℕ → Type 0
HoldsPlace body at start end = IsToken body start end × (start ≤ at) × (at < end)

-- each byte that is no delimiter lies in a token
abbrev pub TokensCover : Type 0
TokensCover =
    (body : List ℕ) (at : ℕ) → at < length body → ¬ IsDelimiter (slice_index body at)
    → (start : ℕ) × ((end : ℕ) × HoldsPlace body at start end)

-- a place is outside exactly where no token goes on over it
abbrev pub OutsideIsOutside : Type 0
OutsideIsOutside =
    (body : List ℕ) (at : ℕ)
    → IsOutside body at ↔ ((start end : ℕ) → IsToken body start end → start < at → at < end → ⊥)
