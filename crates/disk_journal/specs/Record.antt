-- The bytes of a journal: a header, then for each record an open gate and the record, then a closed gate, then anything.
use Rattle.std.specs.Prelude.{◌≡◌, ◌≢◌, ◌⊎◌, ℕ, zero, suc, ◌+◌, ◌-◌, ◌^◌, ◌<◌, ◌≤◌}
use Rattle.std.specs.Prelude.{List, [], ◌∷◌, ◌++◌, length, take, drop, get_or}
use Rattle.std.specs.Int.{w64, to_le_bytes, from_le_bytes}
use Rattle.disk_journal.specs.declared.record.TheConstants.{OPEN_GATE, CLOSED_GATE, FRONT_LEN}

-- a record of the journal
pub record Saved : Type 0 where
  pub kind : ℕ
  pub payload : List ℕ

-- its kind, the length of its payload in eight bytes with the lowest first, and its payload
unfoldable pub body : Saved → List ℕ
body r = r.kind ∷ to_le_bytes w64 (length r.payload) ++ r.payload

-- what is written behind a closed gate: the record, and the next closed gate
abbrev pub frame_of : Saved → List ℕ
frame_of r = body r ++ CLOSED_GATE ∷ []

-- an open gate and the record, for each
abbrev pub spelled : List Saved → List ℕ
spelled [] = []
spelled (r ∷ rs) = OPEN_GATE ∷ body r ++ spelled rs

-- the bytes are the head, the records and a closed gate, and then anything
pub record Stands (head : List ℕ) (rs : List Saved) (bytes : List ℕ) : Type 0 where
  pub gate : ℕ
  pub rest : List ℕ
  pub spells : bytes ≡ head ++ spelled rs ++ gate ∷ rest
  pub closed : gate ≢ OPEN_GATE

-- the bytes stand for the records, or for these and one more
abbrev pub WithOrWithout : List ℕ → List Saved → Saved → List ℕ → Type 0
WithOrWithout head rs r bytes = Stands head rs bytes ⊎ Stands head (rs ++ r ∷ []) bytes

-- the bytes stand for the records, and none, the first, the first two, .. or all of the new ones
abbrev pub WithFirst : List ℕ → List Saved → List Saved → List ℕ → Type 0
WithFirst head rs new bytes = (k : ℕ) × (k ≤ length new) × Stands head (rs ++ take k new) bytes

-- the record that a framed text has
abbrev pub saved_of : List ℕ → Saved
saved_of text = record { kind = get_or text 0 0; payload = take (length text - FRONT_LEN) (drop 9 text) }

abbrev pub IsFrame : List ℕ → Type 0
IsFrame text = text ≡ frame_of (saved_of text)

-- the length that stands behind a gate and a kind
abbrev pub payload_len : List ℕ → ℕ
payload_len bytes = from_le_bytes w64 (take 8 (drop 2 bytes))

-- the record behind the gate that the bytes begin with
abbrev pub first_of : List ℕ → Saved
first_of bytes = record { kind = get_or bytes 1 0; payload = take (payload_len bytes) (drop FRONT_LEN bytes) }

-- the first n records from a gate on
abbrev pub records : ℕ → List ℕ → List Saved
records zero bytes = []
records (suc n) bytes = first_of bytes ∷ records n (drop (FRONT_LEN + payload_len bytes) bytes)

-- the length of each payload has eight bytes
abbrev pub Fits : Saved → Type 0
Fits r = length r.payload < 2 ^ 64

abbrev pub AllFit : List Saved → Type 0
AllFit [] = Unit {0}
AllFit (r ∷ rs) = Fits r × AllFit rs
