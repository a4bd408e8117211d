-- The calls that a disk in memory keeps, as events with the newest first, and what follows from them:
-- its bytes, the images that a crash may leave, and the ranges read.
use Rattle.std.specs.Prelude.{◌≡◌, ◌⊎◌, ℕ, ◌/◌, ◌≤◌, Bool, nat_le, if◌then◌else◌}
use Rattle.std.specs.Prelude.{List, [], ◌∷◌, ◌++◌, length, take, drop, replicate}
use Rattle.log_seams.specs.Disk.{laid, Torn}
use Rattle.log_seams.specs.declared.mem_disk.Call.{Call}
use Rattle.log_seams.specs.declared.mem_disk.Call.TheVariants.{Wrote, Read, Synced, Other}
use Rattle.log_seams.specs.declared.mem_disk.Pending.{Pending}
use Rattle.log_seams.specs.declared.mem_disk.Pending.TheVariants.{All, Nothing, FirstHalf, Ones}

-- a write with its bytes, done or failed; a read that gave n bytes; a sync that succeeded; any other call
pub data Event : Type 0 where
  wrote : (done : Bool) (at : ℕ) (bytes : List ℕ) → Event
  read : (at n : ℕ) → Event
  synced : Event
  other : Event

-- how many bytes of the log a call has
abbrev pub logged : Call → ℕ
logged (Wrote at count done) = count
logged (Read at count) = 0
logged Synced = 0
logged Other = 0

-- a call, whose bytes stand at the front of the log
abbrev pub event_of : Call → List ℕ → Event
event_of (Wrote at count done) log = wrote done at (take count log)
event_of (Read at count) log = read at count
event_of Synced log = synced
event_of Other log = other

-- the events so far, and then those of the calls, whose bytes stand one behind the other in the log
abbrev pub events_after : List Event → List Call → List ℕ → List Event
events_after older [] log = older
events_after older (c ∷ calls) log = events_after (event_of c log ∷ older) calls (drop (logged c) log)

-- the events of the calls from the first on
abbrev pub events : List Call → List ℕ → List Event
events calls log = events_after [] calls log

-- the bytes after an event
abbrev pub after_event : Event → List ℕ → List ℕ
after_event (wrote done at bytes) old = if done then laid at bytes old else old
after_event (read at n) old = old
after_event synced old = old
after_event other old = old

-- the bytes that a read gives after the events
abbrev pub content : List ℕ → List Event → List ℕ
content first [] = first
content first (e ∷ older) = after_event e (content first older)

-- the ranges that the events read, the oldest first
abbrev pub reads_of : List Event → List (ℕ × ℕ)
reads_of [] = []
reads_of (wrote done at bytes ∷ older) = reads_of older
reads_of (read at n ∷ older) = reads_of older ++ (at, n) ∷ []
reads_of (synced ∷ older) = reads_of older
reads_of (other ∷ older) = reads_of older

-- a crash after the events may leave c
abbrev pub IsImage : List ℕ → List Event → List ℕ → Type 0
IsImage first [] c = c ≡ first
IsImage first (wrote done at bytes ∷ older) c =
    (c ≡ after_event (wrote done at bytes) (content first older))
    ⊎ ((d : List ℕ) × IsImage first older d × Torn at (length bytes) d c)
IsImage first (read at n ∷ older) c = IsImage first older c
IsImage first (synced ∷ older) c = c ≡ content first older
IsImage first (other ∷ older) c = IsImage first older c

-- a crash after the first t of the events, or later, may have left c
abbrev pub IsSince : List ℕ → List Event → ℕ → List ℕ → Type 0
IsSince first [] t c = IsImage first [] c
IsSince first (e ∷ older) t c = IsImage first (e ∷ older) c ⊎ ((t ≤ length older) × IsSince first older t c)

-- what the range of a write holds that was not synced: its bytes, what was there, the first half of its bytes
-- and then what was there, or the byte 1 in each place
abbrev pub held : Pending → ℕ → List ℕ → List ℕ → List ℕ
held All at bytes old = laid at bytes old
held Nothing at bytes old = old
held FirstHalf at bytes old = laid at (take (length bytes / 2) bytes) old
held Ones at bytes old = laid at (replicate (length bytes) 1) old

-- a write past the end is lost with the one before it that would have reached so far
abbrev pub torn_by : Pending → ℕ → List ℕ → List ℕ → List ℕ
torn_by pending at bytes old = if nat_le at (length old) then held pending at bytes old else old

-- the events up to the last sync that succeeded
abbrev pub settled_of : List Event → List Event
settled_of [] = []
settled_of (wrote done at bytes ∷ older) = settled_of older
settled_of (read at n ∷ older) = settled_of older
settled_of (synced ∷ older) = synced ∷ older
settled_of (other ∷ older) = settled_of older

-- the writes since then with their places, also those that failed, the newest first
abbrev pub pending_of : List Event → List (ℕ × List ℕ)
pending_of [] = []
pending_of (wrote done at bytes ∷ older) = (at, bytes) ∷ pending_of older
pending_of (read at n ∷ older) = pending_of older
pending_of (synced ∷ older) = []
pending_of (other ∷ older) = pending_of older

-- each of the writes laid over the bytes as it is held, the oldest first
abbrev pub all_torn_by : Pending → List (ℕ × List ℕ) → List ℕ → List ℕ
all_torn_by pending [] old = old
all_torn_by pending (w ∷ older) old = torn_by pending w.0 w.1 (all_torn_by pending older old)

-- what a crash leaves after the events: what was read at the last sync that succeeded, or the first bytes where none did,
-- with each write since then held so
abbrev pub left_by : Pending → List ℕ → List Event → List ℕ
left_by pending first events = all_torn_by pending (pending_of events) (content first (settled_of events))
