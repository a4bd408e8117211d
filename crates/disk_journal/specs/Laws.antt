-- What holds of the bytes of every journal.
use Rattle.std.specs.Prelude.{◌≡◌, ℕ, List}
use Rattle.disk_journal.specs.Record.{Saved, Stands, AllFit, saved_of, frame_of}

-- bytes stand for one list of records alone
abbrev pub StandForOne : Type 0
StandForOne =
    (head : List ℕ) (rs ss : List Saved) (bytes : List ℕ)
    → Stands head rs bytes → Stands head ss bytes
    → AllFit rs → AllFit ss → rs ≡ ss

-- the framed text of a record is the frame of that record and of no other
abbrev pub FramesOne : Type 0
FramesOne = (r : Saved) → saved_of (frame_of r) ≡ r
