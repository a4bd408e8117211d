-- What the tables hold while messages are counted.
use Rattle.std.specs.Prelude.{◌≡◌, ℕ, zero, suc, ◌+◌, ◌<◌, ◌^◌, nat_eq, cond, Bool, IsTrue, IsFalse, false, if◌then◌else◌, is_none, ℤ, pos, ◌-ℤ◌, List, [], ◌∷◌, map, length, count_by, slice_index_or, Option, None, Some, All}
use Rattle.std.specs.Borrow.{Bor}
use Rattle.std.specs.BTreeMap as tree
use Rattle.std.specs.BTreeMap.{BTreeMap, is_at}
use Rattle.std.specs.Map.{lookup}
use Rattle.std.specs.Int.{int_rem_euclid, saturate_signed, w64}
use Rattle.std.specs.declared.cmp.Ordering.{Ordering}
use Rattle.std.specs.Ordering.{int_cmp, is_eq}
use Rattle.search_meaning.specs.declared.groups.Group.{Group}
use Rattle.search_meaning.specs.Groups.{AreGroups, byte_order, by_key}

-- each place of the counts has how often its number stands among the numbers, unless they are very many
abbrev pub AreCounts : List ℕ → List ℕ → Type 0
AreCounts counts numbers = length numbers < 2 ^ 64 → (t : ℕ) → slice_index_or counts t 0 ≡ count_by (λ n. nat_eq n t) numbers

-- the table of log types: so many there are, how often each number below came, and whether one came that is not below
pub record TypeState : Type 0 where
  pub limit : ℕ
  pub counts : List ℕ
  pub beyond : Bool

-- These numbers were counted: where all are below the limit each stands at its place, and it is marked just where one is not.
pub record HoldTypes (table : TypeState) (numbers : List ℕ) : Type 0 where
  pub counts : All (λ n. n < table.limit) numbers → AreCounts table.counts numbers
  pub marked : IsTrue table.beyond → ¬ All (λ n. n < table.limit) numbers
  pub unmarked : IsFalse table.beyond → All (λ n. n < table.limit) numbers

-- these numbers were counted in a table of so many log types
abbrev pub AreTypes : ℕ → TypeState → List ℕ → Type 0
AreTypes types table numbers = (table.limit ≡ types) × HoldTypes table numbers

-- each of the numbers has a text, and they are not so many that a count may be short
pub record AreNumbered (texts : List (List ℕ)) (numbers : List ℕ) : Type 0 where
  pub few : length numbers < 2 ^ 64
  pub within : All (λ n. n < length texts) numbers

-- the texts of the numbers
abbrev pub texts_at : List (List ℕ) → List ℕ → List (List ℕ)
texts_at texts numbers = map (λ n. slice_index_or texts n []) numbers

-- each of these texts is grouped that was counted by its number
abbrev pub AreGroupsBy : List (List ℕ) → TypeState → List Group → Type 0
AreGroupsBy texts table groups =
    (numbers : List ℕ) → AreTypes (length texts) table numbers → AreNumbered texts numbers
    → AreGroups byte_order (texts_at texts numbers) (by_key groups)

-- a number was counted that has none of these texts, or more of them than can be counted
abbrev pub LackTexts : List (List ℕ) → TypeState → Type 0
LackTexts texts table = (numbers : List ℕ) → AreTypes (length texts) table numbers → ¬ AreNumbered texts numbers

-- a number that is not 0
abbrev pub some_of : ℕ → Option ℕ
some_of zero = None
some_of (suc n) = Some (suc n)

-- the map has each key that came, with how often it did
abbrev pub IsTally : {K : Type 0} → (K → K → Ordering) → BTreeMap K ℕ → (K → ℕ) → Type 0
IsTally {K} cmp m often = (key : K) → tree.get cmp m key ≡ some_of (often key)

-- the same of a map's entries
abbrev pub AreTallied : {K : Type 0} → (K → K → Ordering) → List (K × ℕ) → (K → ℕ) → Type 0
AreTallied {K} cmp entries often = (key : K) → lookup (is_at (cmp key)) entries ≡ some_of (often key)

-- texts are compared as bytes
abbrev pub text_order : Bor (List ℕ) → Bor (List ℕ) → Ordering
text_order x y = byte_order x.now y.now

-- the map has each text that came, with how often it did
abbrev pub IsTextTally : BTreeMap (Bor (List ℕ)) ℕ → (List ℕ → ℕ) → Type 0
IsTextTally m often = IsTally text_order m (λ key. often key.now)

-- the entries with the texts themselves for keys
abbrev pub text_entries : List (Bor (List ℕ) × ℕ) → List (List ℕ × ℕ)
text_entries entries = map (λ e. (e.0.now, e.1)) entries

abbrev pub minute_entries : List (ℤ × ℕ) → List (ℤ × ℕ)
minute_entries entries = map (λ e. (e.0, e.1)) entries

-- The first moment of the minute that a moment is in. A moment so low that it is no stamp's may have none.
abbrev pub start_of : Bool → ℤ → ℤ
start_of micro moment = saturate_signed w64 (moment -ℤ int_rem_euclid moment (if micro then pos 60_000_000 else pos 60_000))

-- the minute that a row's pattern and moment are in
abbrev pub minute_at : Bool → ℕ → ℤ → Option ℤ
minute_at micro zero moment = None
minute_at micro (suc k) moment = Some (start_of micro moment)

-- the minutes that patterns and the moments at their places are in
abbrev pub minutes_at : Bool → List ℕ → List ℤ → List (Option ℤ)
minutes_at micro [] moments = []
minutes_at micro (k ∷ patterns) [] = []
minutes_at micro (k ∷ patterns) (moment ∷ moments) = minute_at micro k moment ∷ minutes_at micro patterns moments

-- the table of minutes: `run` messages in a row had the minute `first`, and `minutes` has those before
pub record MinuteState : Type 0 where
  pub micro : Bool
  pub minutes : List (ℤ × ℕ)
  pub first : ℤ
  pub run : ℕ
  pub without : ℕ

-- the key is this minute
abbrev pub is_minute : ℤ → Option ℤ → Bool
is_minute minute None = false
is_minute minute (Some key) = is_eq (int_cmp key minute)

-- the minutes before and the run together have how often each minute stands among the keys
pub record HoldMinutes (table : MinuteState) (keys : List (Option ℤ)) : Type 0 where
  pub often : ℤ → ℕ
  pub tally : AreTallied int_cmp table.minutes often
  pub each : (minute : ℤ)
      → often minute + cond (is_eq (int_cmp table.first minute)) table.run 0 ≡ count_by (is_minute minute) keys
  pub others : table.without ≡ count_by is_none keys

-- these are the minutes of the messages that were counted, unless they are very many
abbrev pub AreMinutes : MinuteState → List (Option ℤ) → Type 0
AreMinutes table keys = length keys < 2 ^ 64 → HoldMinutes table keys
