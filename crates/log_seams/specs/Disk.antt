-- What a disk tells, and what each of its calls does to that. A disk need not tell its bytes; where it does not, nothing
-- is said of them.
use Rattle.std.specs.Prelude.{◌≡◌, ◌⊎◌, ℕ, ◌+◌, ◌-◌, ◌≤◌, min, max, List, [], ◌∷◌, ◌++◌, length, take, drop}
use Rattle.std.specs.Prelude.{Option, Some, None, option_map, is_some, IfSome, Result, IfOk, OnOk, OnErr, All}
use Rattle.log_seams.specs.Outside.{Counts}

-- the bytes that a read gives, where they are told; the images that a crash now may leave; the moment; the images that a
-- crash since a moment may have left; the ranges read so far, each as its place and its count of bytes, where they are
-- told; and how often a call has failed
pub record DiskState : Type 1 where
  pub seen : Option (List ℕ)
  pub images : List ℕ → Type 0
  pub clock : ℕ
  pub since : ℕ → List ℕ → Type 0
  pub ranges : Option (List (ℕ × ℕ))
  pub faults : ℕ

-- where the bytes are told, they are these
abbrev pub Reads : List ℕ → DiskState → Type 0
Reads bytes d = IfSome d.seen (λ told. told ≡ bytes)

-- where the bytes are told, a crash leaves these and nothing else
abbrev pub Only : Option (List ℕ) → (List ℕ → Type 0) → Type 0
Only None images = Unit {0}
Only (Some bytes) images = (c : List ℕ) → images c → c ≡ bytes

-- a crash now leaves what a read gives, as after a sync
abbrev pub IsSynced : DiskState → Type 0
IsSynced d = Only d.seen d.images

-- what holds of each state of a disk: what is read is one of the images, this moment is one of those since an earlier one,
-- since this moment there is no other, and since an earlier moment there are all images that are since a later one
pub record IsLawful (d : DiskState) : Type 0 where
  pub reads_as : IfSome d.seen d.images
  pub counts_now : (t : ℕ) (c : List ℕ) → t ≤ d.clock → d.images c → d.since t c
  pub only_now : (c : List ℕ) → d.since d.clock c → d.images c
  pub wider : (s t : ℕ) (c : List ℕ) → s ≤ t → d.since t c → d.since s c

-- the old bytes with these written over them at a place, past their end too
abbrev pub laid : ℕ → List ℕ → List ℕ → List ℕ
laid at bytes old = take at old ++ bytes ++ drop (at + length bytes) old

-- after a write of n bytes that a crash cuts short: any bytes in the range and past the old end, the same elsewhere
pub record Torn (at n : ℕ) (old new : List ℕ) : Type 0 where
  pub before : take at new ≡ take at old
  pub after : drop (at + n) new ≡ drop (at + n) old
  pub no_shorter : length old ≤ length new
  pub no_longer : length new ≤ max (length old) (at + n)

-- each new image is an old one after a step
abbrev pub Follows : (List ℕ → List ℕ → Type 0) → (List ℕ → Type 0) → (List ℕ → Type 0) → Type 0
Follows step old new = (c : List ℕ) → new c → (d : List ℕ) × old d × step d c

-- a crash leaves nothing that it would not have left before
abbrev pub NoMore : (List ℕ → Type 0) → (List ℕ → Type 0) → Type 0
NoMore old new = (c : List ℕ) → new c → old c

-- Time goes on by one call: a crash since t leaves what it might have left before, or what it may leave now.
pub record Elapses (old new : DiskState) : Type 0 where
  pub later : old.clock ≤ new.clock
  pub nothing_else : (t : ℕ) (c : List ℕ) → t ≤ old.clock → new.since t c → old.since t c ⊎ new.images c
  pub keeps : (t : ℕ) (c : List ℕ) → t ≤ old.clock → old.since t c → new.since t c

-- A crash at any moment from old to new leaves what has P; what was past stays, and nothing else is of the past.
pub record LeavesOnly (old new : DiskState) (P : List ℕ → Type 0) : Type 0 where
  pub later : old.clock ≤ new.clock
  pub each : (c : List ℕ) → new.since old.clock c → P c
  pub before : (t : ℕ) (c : List ℕ) → t ≤ old.clock → new.since t c → old.since t c ⊎ new.since old.clock c
  pub keeps : (t : ℕ) (c : List ℕ) → t ≤ old.clock → old.since t c → new.since t c

-- what calls that only read leave: the bytes and the images are as they were, while time may go on
pub record Rests (old new : DiskState) : Type 0 where
  pub seen : new.seen ≡ old.seen
  pub no_more : NoMore old.images new.images
  pub no_fewer : NoMore new.images old.images
  pub time : Elapses old new

-- what calls that write nothing leave: the bytes are as they were, and no image comes
pub record KeepsBytes (old new : DiskState) : Type 0 where
  pub seen : new.seen ≡ old.seen
  pub no_more : NoMore old.images new.images
  pub time : Elapses old new

-- what a read into a buffer gave: as many bytes as stand there and it has room for, and where the bytes are told, these
pub record Gave (told : Option (List ℕ)) (at n : ℕ) (old new : List ℕ) : Type 0 where
  pub within : n ≤ length old
  pub all : IfSome told (λ bytes. n ≡ min (length old) (length bytes - at))
  pub these : IfSome told (λ bytes. take n new ≡ take n (drop at bytes))

-- the ranges read, with one more
abbrev pub with_range : ℕ → ℕ → Option (List (ℕ × ℕ)) → Option (List (ℕ × ℕ))
with_range at n = option_map (λ ranges. ranges ++ (at, n) ∷ [])

-- at most one range more was read, which begins at this place and has at most n bytes
abbrev pub ReadsOnly : ℕ → ℕ → DiskState → DiskState → Type 0
ReadsOnly at n old new = (new.ranges ≡ old.ranges) ⊎ ((k : ℕ) × (k ≤ n) × (new.ranges ≡ with_range at k old.ranges))

-- the disk was only read, and each range that was read since has P
pub record ReadsSuch (P : ℕ × ℕ → Type 0) (old new : DiskState) : Type 0 where
  pub rests : Rests old new
  pub more : List (ℕ × ℕ)
  pub added : new.ranges ≡ option_map (λ ranges. ranges ++ more) old.ranges
  pub each : All P more

-- The calls, each by its answer.

-- the count of bytes
pub record HasLength {E : Type 0} (result : Result ℕ E) (old new : DiskState) : Type 0 where
  pub told : IfOk result (λ n. IfSome old.seen (λ bytes. n ≡ length bytes))
  pub rests : Rests old new
  pub ranges : new.ranges ≡ old.ranges
  pub counts : Counts old.faults new.faults result

-- a read at a place into a buffer, which answers how many bytes it gave
pub record HasRead {E : Type 0} (at : ℕ) (buf buf_new : List ℕ) (result : Result ℕ E) (old new : DiskState) : Type 0 where
  pub gave : IfOk result (λ n. Gave old.seen at n buf buf_new)
  pub rests : Rests old new
  pub range : IfOk result (λ n. new.ranges ≡ with_range at n old.ranges)
  pub no_range : OnErr result (new.ranges ≡ old.ranges)
  pub counts : Counts old.faults new.faults result

-- a write at a place: until a sync succeeds a crash may leave any bytes in its range, also where it failed
pub record HasWritten {E : Type 0} (at : ℕ) (bytes : List ℕ) (result : Result Unit E) (old new : DiskState) : Type 0 where
  pub written : OnOk result (new.seen ≡ option_map (laid at bytes) old.seen)
  pub tells : is_some new.seen ≡ is_some old.seen
  pub images : Follows (Torn at (length bytes)) old.images new.images
  pub time : Elapses old new
  pub ranges : new.ranges ≡ old.ranges
  pub counts : Counts old.faults new.faults result

-- a sync
pub record HasSynced {E : Type 0} (result : Result Unit E) (old new : DiskState) : Type 0 where
  pub durable : OnOk result (IsSynced new)
  pub keeps : KeepsBytes old new
  pub ranges : new.ranges ≡ old.ranges
  pub counts : Counts old.faults new.faults result
