-- What a read of a file at an offset gave.
use Rattle.std.specs.Prelude.{◌≡◌, ℕ, ◌-◌, ◌<◌, ◌≤◌, List, length, take, drop, Option, Some, None}

-- Where the bytes are told, the first n of the buffer are those at the
-- offset; none only where none stand there or the buffer is empty.
abbrev pub GaveSome : Option (List ℕ) → ℕ → ℕ → List ℕ → Type 0
GaveSome None at n buf = Unit {0}
GaveSome (Some bytes) at n buf =
    (n ≤ length bytes - at) × (take n buf ≡ take n (drop at bytes)) × (n ≡ 0 → 0 < length buf → length bytes ≤ at)
