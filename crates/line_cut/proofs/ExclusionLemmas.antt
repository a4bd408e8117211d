-- The answers of a cutter exclude each other.
use Rattle.std.proofs.Common.{◌≡◌, ◌≢◌, ◌<◌, ◌≤◌, ◌+◌, refl, sym, ◌∙◌, ap, subst, arith, ℕ, Bool, true, false, List, [], ◌∷◌, ◌++◌, Option, None, Some, length, take, get_or}
use Rattle.std.proofs.lemmas.List.{get_or-take, get_or_at, length-append, length-take, take-append-le}
use Rattle.log_messages.specs.Messages.{IsLine}
use Rattle.line_cut.specs.Cutting.{Parts}
use Rattle.line_cut.specs.Length.{BeginsTooLong}

-- the newline behind a line within the limit stands in the front that is said to be free of newlines
newline_within : (line rest before : List ℕ) (max : ℕ) → before ≡ line ++ 10 ∷ rest → length line ≤ max → BeginsTooLong max before → ⊥
newline_within line rest before max e le long =
    let low : length line < max + 1 = omega arith in
    let size : length before ≡ length line + (length rest + 1) = ap length e ∙ (length-append line (10 ∷ rest) ∙ omega arith) in
    let high : length line < length (take (max + 1) before) = omega (arith, size, low, length-take (max + 1) before) in
    let read : get_or before (length line) 0 ≡ 10 = ap (λ b. get_or b (length line) 0) e ∙ get_or_at line 10 rest 0 (length line) refl in
    long.1 (length line) 0 high (get_or-take (max + 1) before (length line) 0 low ∙ read)

pub long_not_given : (ended : Bool) (line before : List ℕ) (after : Option (List ℕ)) (max : ℕ) → length line ≤ max → Parts ended line (Some before) after → BeginsTooLong max before → ⊥
long_not_given true line before None max le parts long = cc
long_not_given true line before (Some rest) max le parts long = let e : before ≡ line ++ 10 ∷ rest = cc in newline_within line rest before max e le long
long_not_given false line before None max le parts long = cc (parts.0)
long_not_given false line before (Some rest) max le parts long =
    let e : before ≡ line = cc (parts.0) in absurd (omega (arith, ap length e, long.0))

pub stays_long : (max : ℕ) (bytes rest : List ℕ) → BeginsTooLong max bytes → BeginsTooLong max (bytes ++ rest)
stays_long max bytes rest long =
    let fits : max + 1 ≤ length bytes = omega (arith, long.0) in
    (omega (arith, long.0, length-append bytes rest), subst IsLine (sym (take-append-le (max + 1) bytes rest fits)) long.1)

pub nothing_not_given : (ended : Bool) (line : List ℕ) (after : Option (List ℕ)) → (ended ≡ false → line ≢ []) → Parts ended line (Some []) after → ⊥
nothing_not_given true line None some parts = cc
nothing_not_given true line (Some rest) some parts =
    let e : [] ≡ line ++ 10 ∷ rest = cc in absurd (omega (arith, ap length e, length-append line (10 ∷ rest)))
nothing_not_given false line None some parts = cc (parts.0)
nothing_not_given false line (Some rest) some parts = let e : line ≡ [] = cc (parts.0) in some refl e
