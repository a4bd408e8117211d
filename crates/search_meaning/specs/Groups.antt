-- Messages in groups: each key that some message has, with how many have it.
use Rattle.std.specs.Prelude.{◌≡◌, ℕ, zero, suc, ◌<◌, nat_le, if◌then◌else◌, ℤ, pos, ◌-ℤ◌, List, [], ◌∷◌, map, count_by, Option, None, Some, IsSome, All}
use Rattle.std.specs.List.{AllZip, Contains}
use Rattle.std.specs.List.Sorted.{IsStrictlySortedBy}
use Rattle.std.specs.Map.{keys_of, lookup}
use Rattle.std.specs.Cmp.Lexicographic.{slice_cmp}
use Rattle.std.specs.declared.cmp.Ordering.{Ordering}
use Rattle.std.specs.Ordering.{is_eq, nat_cmp}
use Rattle.std.specs.Int.{int_rem_euclid}
use Rattle.time_patterns.specs.Stamps.{HasStamp}
use Rattle.row_codec.specs.Messages.{IsTypeOf}
use Rattle.search_meaning.specs.declared.groups.Group.{Group}

-- how often a key stands among keys
abbrev pub how_often : {K : Type 0} → (K → K → Ordering) → K → List K → ℕ
how_often cmp key keys = count_by (λ k. is_eq (cmp k key)) keys

-- each key that stands among the keys, with how often it does, in the order of the keys
pub record AreGroups {K : Type 0} (cmp : K → K → Ordering) (keys : List K) (groups : List (K × ℕ)) : Type 0 where
  pub rise : IsStrictlySortedBy cmp (keys_of groups)
  pub each : All (λ g. (0 < g.1) × (g.1 ≡ how_often cmp g.0 keys)) groups
  pub all : (key : K) → Contains keys key → IsSome (lookup (λ k. is_eq (cmp key k)) groups)

-- byte by byte, and a front before what goes on behind it
abbrev pub byte_order : List ℕ → List ℕ → Ordering
byte_order = slice_cmp nat_cmp

-- these are the texts of the log types of the messages, in order
abbrev pub HaveTypes : ℕ → List (List ℕ) → List (List ℕ) → Type 0
HaveTypes version messages texts = AllZip (λ message text. IsTypeOf version message text) messages texts

-- how many ticks of a version's moments a minute has: they are milliseconds, and microseconds from version 3 on
abbrev pub minute_len : ℕ → ℕ
minute_len version = if nat_le 3 version then 60_000_000 else 60_000

-- The first moment of a stamp's minute: the greatest multiple of a minute that is not above the stamp's moment. There
-- is none without stamp.
abbrev pub minute_of : ℕ → ℕ → ℤ → Option ℤ
minute_of version zero moment = None
minute_of version (suc k) moment = Some (moment -ℤ int_rem_euclid moment (pos (minute_len version)))

-- this is the minute of the message
abbrev pub IsMinuteOf : ℕ → List ℕ → Option ℤ → Type 0
IsMinuteOf version message minute =
    (k : ℕ) × (moment : ℤ) × (n : ℕ) × HasStamp version message k moment n × (minute ≡ minute_of version k moment)

-- these are the minutes of the messages, in order
abbrev pub HaveMinutes : ℕ → List (List ℕ) → List (Option ℤ) → Type 0
HaveMinutes version messages minutes = AllZip (λ message minute. IsMinuteOf version message minute) messages minutes

-- the minutes of those that have one
abbrev pub stamped : List (Option ℤ) → List ℤ
stamped [] = []
stamped (None ∷ minutes) = stamped minutes
stamped (Some minute ∷ minutes) = minute ∷ stamped minutes

-- the keys of groups with their counts: texts of log types, and minutes
abbrev pub by_key : List Group → List (List ℕ × ℕ)
by_key groups = map (λ g. (g.key, g.count)) groups

abbrev pub by_moment : List Group → List (ℤ × ℕ)
by_moment groups = map (λ g. (g.moment, g.count)) groups
