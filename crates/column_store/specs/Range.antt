-- Which messages lie between two moments.
use Rattle.std.specs.Prelude.{◌≢◌, ℕ, ℤ, ◌≤ℤ◌, Option, None, IfSome}
use Rattle.column_store.specs.declared.range.Range.{Range}

-- the bounds that are given are kept; a message without stamp keeps none
abbrev pub Within : Option ℤ → Option ℤ → ℕ → ℤ → Type 0
Within None None pattern moment = Unit {0}
Within from to pattern moment =
    (pattern ≢ 0)
    × IfSome from (λ least. least ≤ℤ moment)
    × IfSome to (λ greatest. moment ≤ℤ greatest)

abbrev pub Holds : Range → ℕ → ℤ → Type 0
Holds range pattern moment = Within range.from range.to pattern moment
