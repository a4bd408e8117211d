-- What the fields and the laws of a disk in memory rest on.
use Rattle.std.specs.Prelude.{◌≡◌, ℕ, ◌+◌, ◌≤◌, List, [], ◌∷◌, ◌++◌, length, refl}
use Rattle.std.proofs.Common.{inl, inr, arith, sym, subst}
use Rattle.log_seams.specs.Replay.{Event, wrote, read, synced, other, logged, content, IsImage, IsSince}
use Rattle.log_seams.specs.declared.mem_disk.Call.{Call}
use Rattle.log_seams.specs.declared.mem_disk.Call.TheVariants.{Wrote, Read, Synced, Other}

-- a call that is no write
abbrev pub IsQuiet : Call → Type 0
IsQuiet (Wrote at count done) = ⊥
IsQuiet (Read at count) = Unit {0}
IsQuiet Synced = Unit {0}
IsQuiet Other = Unit {0}

-- the ranges with the one of a read
abbrev pub with_read : Event → List (ℕ × ℕ) → List (ℕ × ℕ)
with_read (wrote done at bytes) ranges = ranges
with_read (read at n) ranges = ranges ++ (at, n) ∷ []
with_read synced ranges = ranges
with_read other ranges = ranges

-- how many bytes of the log the calls have
abbrev pub total : List Call → ℕ
total [] = 0
total (c ∷ calls) = logged c + total calls

-- the laws of a disk
pub reads_as : (first : List ℕ) (events : List Event) → IsImage first events (content first events)
reads_as first [] = refl
reads_as first (wrote done at bytes ∷ older) = inl refl
reads_as first (read at n ∷ older) = reads_as first older
reads_as first (synced ∷ older) = refl
reads_as first (other ∷ older) = reads_as first older

pub counts_now : (first : List ℕ) (events : List Event) (t : ℕ) (c : List ℕ) → IsImage first events c → IsSince first events t c
counts_now first [] t c now = now
counts_now first (e ∷ older) t c now = inl now

pub only_now : (first : List ℕ) (events : List Event) (c : List ℕ)
    → IsSince first events (length events) c
    → IsImage first events c
only_now first [] c left = left
only_now first (e ∷ older) c (inl now) = now
only_now first (e ∷ older) c (inr was) = let late = was.0 in absurd (omega arith)

pub wider : (first : List ℕ) (events : List Event) (s t : ℕ) (c : List ℕ)
    → s ≤ t → IsSince first events t c → IsSince first events s c
wider first [] s t c le left = left
wider first (e ∷ older) s t c le (inl now) = inl now
wider first (e ∷ older) s t c le (inr was) = let late = was.0 in inr (omega arith, wider first older s t c le was.1)

-- what is read at a place of the content is an image of it too
pub reads_now : (first : List ℕ) (events : List Event) (bytes : List ℕ)
    → bytes ≡ content first events → IsImage first events bytes
reads_now first events bytes same = subst (IsImage first events) (sym same) (reads_as first events)
