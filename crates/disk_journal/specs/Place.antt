-- Where a journal has come to on its disk, and what its calls leave there. Over a disk that does not tell its bytes
-- each of these words says nothing.
use Rattle.std.specs.Prelude.{◌≡◌, ◌≢◌, ◌⊎◌, ℕ, ◌+◌, ◌^◌, get_or, ◌≤◌, ◌<◌, List, []}
use Rattle.std.specs.Prelude.{◌∷◌, ◌++◌, length, take, drop, Option, Some, None}
use Rattle.log_seams.specs.Disk.{Torn}
use Rattle.record_format.specs.Header.{IsHeader, header_bytes}
use Rattle.record_format.specs.declared.header.Header.{Header}
use Rattle.record_format.specs.declared.header.TheConstants.{HEADER_LEN}
use Rattle.disk_journal.specs.declared.record.TheConstants.{OPEN_GATE, FRONT_LEN}
use Rattle.disk_journal.specs.Record.{Saved, body, payload_len, spelled, Stands, WithOrWithout, WithFirst, records, AllFit}

-- the first n records behind the header
abbrev pub entries : Option (List ℕ) → ℕ → List Saved
entries None n = []
entries (Some bytes) n = records n (drop HEADER_LEN bytes)

-- a walk has passed so many whole records and stands at this place, behind them
pub record HasWalked (head : List ℕ) (place count : ℕ) (bytes : List ℕ) : Type 0 where
  pub header : length head ≡ HEADER_LEN
  pub rest : List ℕ
  pub spells : bytes ≡ head ++ spelled (records count (drop HEADER_LEN bytes)) ++ rest
  pub at : place ≡ length (head ++ spelled (records count (drop HEADER_LEN bytes)))
  pub counted : length (records count (drop HEADER_LEN bytes)) ≡ count
  pub fit : AllFit (records count (drop HEADER_LEN bytes))

abbrev pub Walked : List ℕ → ℕ → ℕ → Option (List ℕ) → Type 0
Walked head place count None = Unit {0}
Walked head place count (Some bytes) = HasWalked head place count bytes

-- the bytes stand for so many records, the closed gate is at this place, and a crash leaves these bytes and no others
pub record IsSettled (head : List ℕ) (place count : ℕ) (images : List ℕ → Type 0) (bytes : List ℕ) : Type 0 where
  pub header : length head ≡ HEADER_LEN
  pub stands : Stands head (records count (drop HEADER_LEN bytes)) bytes
  pub at : place ≡ length (head ++ spelled (records count (drop HEADER_LEN bytes)))
  pub counted : length (records count (drop HEADER_LEN bytes)) ≡ count
  pub fit : AllFit (records count (drop HEADER_LEN bytes))
  pub only : (c : List ℕ) → images c → c ≡ bytes

abbrev pub AtEnd : List ℕ → ℕ → ℕ → Option (List ℕ) → (List ℕ → Type 0) → Type 0
AtEnd head place count None images = Unit {0}
AtEnd head place count (Some bytes) images = IsSettled head place count images bytes

-- the first bytes are no header
abbrev pub NoHeader : Option (List ℕ) → Type 0
NoHeader None = Unit {0}
NoHeader (Some bytes) = (h : Header) → IsHeader h → take HEADER_LEN bytes ≢ header_bytes h

-- the gate there is missing, or is open and no whole record follows it
abbrev pub IsDamaged : ℕ → Option (List ℕ) → Type 0
IsDamaged at None = Unit {0}
IsDamaged at (Some bytes) =
    (length bytes ≤ at)
    ⊎ ((get_or bytes at 0 ≡ OPEN_GATE) × (length bytes < at + FRONT_LEN + payload_len (drop at bytes)))

-- a gate is there, and it is closed
pub record HasClosedGate (at : ℕ) (bytes : List ℕ) : Type 0 where
  pub there : at < length bytes
  pub shut : get_or bytes at 0 ≢ OPEN_GATE

abbrev pub ClosedAt : ℕ → Option (List ℕ) → Type 0
ClosedAt at None = Unit {0}
ClosedAt at (Some bytes) = HasClosedGate at bytes

-- an open gate is there, and a whole record of this kind whose payload has this length
pub record HasRecord (at kind len : ℕ) (bytes : List ℕ) : Type 0 where
  pub within : at + FRONT_LEN + len ≤ length bytes
  pub fits : len < 2 ^ 64
  pub spells : drop at bytes
      ≡ OPEN_GATE ∷ body (record { kind = kind; payload = take len (drop (at + FRONT_LEN) bytes) })
      ++ drop (at + FRONT_LEN + len) bytes

abbrev pub OpenAt : ℕ → ℕ → ℕ → Option (List ℕ) → Type 0
OpenAt at kind len None = Unit {0}
OpenAt at kind len (Some bytes) = HasRecord at kind len bytes

-- one record more was passed, of this kind, with its payload at this place
abbrev pub Passed : Option (List ℕ) → ℕ → ℕ → ℕ → ℕ → Type 0
Passed None count kind payload len = Unit {0}
Passed (Some bytes) count kind payload len =
    (payload + len ≤ length bytes)
    × (records (count + 1) (drop HEADER_LEN bytes)
    ≡ records count (drop HEADER_LEN bytes)
    ++ (record { kind = kind; payload = take len (drop payload bytes) }) ∷ [])

-- so many bytes from a place on are there
abbrev pub HasRange : ℕ → ℕ → List ℕ → Type 0
HasRange at n bytes = at + n ≤ length bytes

-- c is the bytes after a write of n bytes there that a crash cuts short
abbrev pub TornFrom : Option (List ℕ) → ℕ → ℕ → List ℕ → Type 0
TornFrom None at n c = Unit {0}
TornFrom (Some bytes) at n c = Torn at n bytes c

-- c stands for the first so many records that are told, or for these and r
abbrev pub BeforeOrAfter : List ℕ → Option (List ℕ) → ℕ → Saved → List ℕ → Type 0
BeforeOrAfter head None count r c = Unit {0}
BeforeOrAfter head (Some bytes) count r c = WithOrWithout head (records count (drop HEADER_LEN bytes)) r c

-- the records are those of before, and the new ones behind them
abbrev pub Added : Option (List ℕ) → ℕ → List Saved → Option (List ℕ) → ℕ → Type 0
Added None count new now more = Unit {0}
Added (Some bytes) count new now more = entries now more ≡ records count (drop HEADER_LEN bytes) ++ new

-- c stands for the records that are told, and the first k of the new ones, for some k
abbrev pub WithFirstTold : List ℕ → Option (List ℕ) → ℕ → List Saved → List ℕ → Type 0
WithFirstTold head None count new c = Unit {0}
WithFirstTold head (Some bytes) count new c = WithFirst head (records count (drop HEADER_LEN bytes)) new c

-- k of the new ones are there, and the next may be
abbrev pub UnderWay : List ℕ → Option (List ℕ) → ℕ → List Saved → ℕ → List ℕ → Type 0
UnderWay head None count new k c = Unit {0}
UnderWay head (Some bytes) count new k c =
    Stands head (records count (drop HEADER_LEN bytes) ++ take k new) c
    ⊎ Stands head (records count (drop HEADER_LEN bytes) ++ take (k + 1) new) c
