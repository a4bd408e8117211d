-- What the counts of faults say, and what a read of a source takes.
use Rattle.std.specs.Prelude.{◌≡◌, ◌≢◌, ◌<◌, ◌≤◌, ◌⊎◌, ℕ, ◌+◌, ◌-◌, ◌^◌, List, [], length}
use Rattle.std.specs.Prelude.{take, drop, Option, None, Some, Result, OnOk, OnErr, IsErrOf}

-- A count of faults never falls. It rose where it is larger, or stands at the last value of u64.
abbrev pub Rose : ℕ → ℕ → Type 0
Rose before now = (before < now) ⊎ (2 ^ 64 - 1 ≤ now)

-- what a call's answer says of the count of faults: it did not fall, Ok leaves it as it was, and at an error it rose
pub record Counts {T E : Type 0} (before now : ℕ) (result : Result T E) : Type 0 where
  pub later : before ≤ now
  pub steady : OnOk result (now ≡ before)
  pub failed : OnErr result (Rose before now)

-- the same of a call that also refuses for causes that are no faults, which leave the count as it was
pub record CountsOf {T E : Type 0} (fault : E) (before now : ℕ) (result : Result T E) : Type 0 where
  pub later : before ≤ now
  pub steady : OnOk result (now ≡ before)
  pub failed : IsErrOf result fault → Rose before now
  pub spared : (e : E) → IsErrOf result e → e ≢ fault → now ≡ before

-- a count that grew by so much, unless it stands at the last value of u64
abbrev pub Adds : ℕ → ℕ → ℕ → Type 0
Adds more before now = (now ≡ before + more) ⊎ (2 ^ 64 - 1 ≤ now)

-- A read took the first n of the bytes that were left, and they stand at the front of the buffer.
-- None were taken only where none was left.
pub record TakesFirst (n : ℕ) (buf bytes : List ℕ) (new : Option (List ℕ)) : Type 0 where
  pub enough : n ≤ length bytes
  pub begins : take n buf ≡ take n bytes
  pub at_end : n ≡ 0 → bytes ≡ []
  pub gone : new ≡ Some (drop n bytes)

-- the same of a source that may tell its bytes: it goes on telling them, or not telling them
abbrev pub Takes : ℕ → List ℕ → Option (List ℕ) → Option (List ℕ) → Type 0
Takes n buf None new = new ≡ None
Takes n buf (Some bytes) new = TakesFirst n buf bytes new
