-- The bytes of a segment: a head, and the columns of its rows.
use Rattle.std.specs.Prelude.{◌≡◌, ◌<◌, ◌+◌, ◌*◌, ◌^◌, if◌then◌else◌, nat_lt, nat_eq, ℕ, ℤ, pos, List}
use Rattle.std.specs.Prelude.{[], ◌∷◌, ◌++◌, Bool, true, false, not, length, map, filter, All}
use Rattle.std.specs.List.{flat_map, fold}
use Rattle.std.specs.Ordering.{int_cmp, ord_min, ord_max}
use Rattle.std.specs.List.Sorted.{IsStrictlyIncreasing}
use Rattle.std.specs.Int.{w64, cast_unsigned}
use Rattle.std.specs.Int.RustNames.{FitsSigned}
use Rattle.byteorder.specs.Endian.{little_bytes}
use Rattle.record_format.specs.Lists.{four_bytes}
use Rattle.column_store.specs.declared.row.Row.{Row}
use Rattle.column_store.specs.Row.{variable_count, IsRow}
use Rattle.segment_format.specs.declared.fixed.Fixed.{Fixed}
use Rattle.segment_format.specs.declared.head.Head.{Head}

-- a number in eight bytes, the lowest first
unfoldable pub eight_bytes : ℕ → List ℕ
eight_bytes n = little_bytes 8 n

-- a moment in eight bytes, in two's complement
unfoldable pub moment_bytes : ℤ → List ℕ
moment_bytes m = little_bytes 8 (cast_unsigned w64 m)

-- ---- the head

-- bit 0, bit 1 and bit 2
abbrev pub flags : Bool → Bool → Bool → ℕ
flags last ended stamped = (if last then 1 else 0) + ((if ended then 2 else 0) + (if stamped then 4 else 0))

-- the fixed part, where the two lists are but counted
unfoldable pub fixed_bytes : Fixed → List ℕ
fixed_bytes f =
    four_bytes f.file ++ (eight_bytes f.first ++ (four_bytes f.rows ++ (flags f.last f.ended f.stamped ∷ (moment_bytes f.least
    ++ (moment_bytes f.greatest ++ (four_bytes f.types ++ (four_bytes f.words ++ four_bytes f.variables)))))))

abbrev pub fixed_of : Head → Fixed
fixed_of h = record {
  file = h.file;
  first = h.first;
  rows = h.rows;
  last = h.last;
  ended = h.ended;
  stamped = h.stamped;
  least = h.least;
  greatest = h.greatest;
  types = length h.types;
  words = length h.words;
  variables = h.variables;
}

-- the one spelling of a head
abbrev pub head_bytes : Head → List ℕ
head_bytes h = fixed_bytes (fixed_of h) ++ (flat_map four_bytes h.types ++ flat_map four_bytes h.words)

-- how many bytes a head has
abbrev pub head_length : Fixed → ℕ
head_length f = 45 + 4 * (f.types + f.words)

-- the numbers of a fixed part fit their fields
pub record IsFixed (f : Fixed) : Type 0 where
  pub file : f.file < 2 ^ 32
  pub first : f.first < 2 ^ 64
  pub rows : f.rows < 2 ^ 32
  pub least : FitsSigned w64 f.least
  pub greatest : FitsSigned w64 f.greatest
  pub types : f.types < 2 ^ 32
  pub words : f.words < 2 ^ 32
  pub variables : f.variables < 2 ^ 32

-- numbers of 32 bits, each greater than the one before it, and not too many to be counted
pub record IsNumberSet (numbers : List ℕ) : Type 0 where
  pub rise : IsStrictlyIncreasing numbers
  pub fit : All (λ n. n < 2 ^ 32) numbers
  pub count : length numbers < 2 ^ 32

pub record IsHead (h : Head) : Type 0 where
  pub fixed : IsFixed (fixed_of h)
  pub types : IsNumberSet h.types
  pub words : IsNumberSet h.words

-- ---- the columns

-- the fields of all rows one after the other: pattern, moment, log type, how many words the row has;
-- then the words of all rows
unfoldable pub fields_bytes : List ℕ → List ℤ → List ℕ → List ℕ → List ℕ → List ℕ
fields_bytes patterns moments types counts words =
    patterns ++ (flat_map moment_bytes moments ++ (flat_map four_bytes types
    ++ (flat_map four_bytes counts ++ flat_map eight_bytes words)))

-- the one spelling of rows as columns
abbrev pub columns_bytes : List Row → List ℕ
columns_bytes rows =
    fields_bytes
    (map (λ r. r.pattern) rows) (map (λ r. r.moment) rows) (map (λ r. r.log_type) rows)
    (map (λ r. length r.words) rows) (flat_map (λ r. r.words) rows)

-- ---- a segment of rows

-- a number among sorted ones, once
abbrev pub added : ℕ → List ℕ → List ℕ
added n [] = n ∷ []
added n (m ∷ ms) = if nat_lt n m then n ∷ (m ∷ ms) else (if nat_eq n m then m ∷ ms else m ∷ added n ms)

-- the numbers sorted upwards, each once
abbrev pub sorted_set : List ℕ → List ℕ
sorted_set [] = []
sorted_set (n ∷ ns) = added n (sorted_set ns)

-- the moments of the rows with a stamp
abbrev pub stamped_moments : List Row → List ℤ
stamped_moments rows = map (λ r. r.moment) (filter (λ r. not (nat_eq r.pattern 0)) rows)

abbrev pub has_any : List ℤ → Bool
has_any [] = false
has_any (m ∷ ms) = true

-- the least and the greatest of moments, 0 without any
abbrev pub least_of : List ℤ → ℤ
least_of [] = pos 0
least_of (m ∷ ms) = fold (ord_min int_cmp) m ms

abbrev pub greatest_of : List ℤ → ℤ
greatest_of [] = pos 0
greatest_of (m ∷ ms) = fold (ord_max int_cmp) m ms

-- the head of rows whose dictionary words have these numbers
abbrev pub head_of : ℕ → ℕ → Bool → Bool → List Row → List ℕ → Head
head_of file first last ended rows words = record {
  file = file;
  first = first;
  rows = length rows;
  last = last;
  ended = ended;
  stamped = has_any (stamped_moments rows);
  least = least_of (stamped_moments rows);
  greatest = greatest_of (stamped_moments rows);
  types = sorted_set (map (λ r. r.log_type) rows);
  words = words;
  variables = variable_count rows;
}

-- the one spelling of a segment
abbrev pub segment_bytes : ℕ → ℕ → Bool → Bool → List Row → List ℕ → List ℕ
segment_bytes file first last ended rows words = head_bytes (head_of file first last ended rows words) ++ columns_bytes rows

-- rows and words that a segment can have, and numbers that fit their fields
pub record IsSegment (file first : ℕ) (last ended : Bool) (rows : List Row) (words : List ℕ) : Type 0 where
  pub as_file : file < 2 ^ 32
  pub as_first : first < 2 ^ 64
  pub fit : All IsRow rows
  pub count : length rows < 2 ^ 32
  pub variables : variable_count rows < 2 ^ 32
  pub set : IsNumberSet words
  pub only_last : ended ≡ true → last ≡ true
