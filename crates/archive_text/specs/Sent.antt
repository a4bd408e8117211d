-- How much of the text of a file a sink took.
use Rattle.std.specs.Prelude.{◌≡◌, ℕ, List, ◌++◌, Bool, Option, Some}
use Rattle.sink_pieces.specs.Output.{Gathers, GrewByFront}
use Rattle.segment_pages.specs.declared.refusal.PageRefusal.{PageRefusal}
use Rattle.archive_text.specs.declared.refusal.DecodeRefusal.{DecodeRefusal}
use Rattle.archive_text.specs.declared.walk.Walk.{Walk}
use Rattle.archive_text.specs.Ahead.{IsAhead, ahead, text_behind}

-- the refusal of a page
abbrev pub of_page : PageRefusal → DecodeRefusal
of_page PageRefusal.DiskFault = DecodeRefusal.DiskFault
of_page PageRefusal.Damaged = DecodeRefusal.Damaged
of_page PageRefusal.OutOfMemory = DecodeRefusal.OutOfMemory

-- the text is what the sink took since it had `start`, what is written out and not sent, and what the messages that are ahead
-- will be
pub record IsSent (types words : List (List ℕ)) (open_end : Bool) (bytes : List ℕ) (start now : Option (List ℕ))
    (w : Walk) (text : List ℕ) : Type 0 where
  pub messages : List (List ℕ)
  pub ahead : IsAhead types words (ahead w) bytes messages
  pub gathers : Gathers start now (w.lines.gathered.items ++ text_behind open_end w.lines.begun messages) text

-- where the bytes are told, the sink took more of each text
abbrev pub Sends : Option (List ℕ) → List (List ℕ) → List (List ℕ) → Option (List ℕ) → Option (List ℕ) → Walk → Walk → Type 0
Sends seen types words before after old new =
    (open_end : Bool) (bytes text : List ℕ) (start : Option (List ℕ)) → seen ≡ Some bytes
    → IsSent types words open_end bytes start before old text → IsSent types words open_end bytes start after new text

-- it took a front of each text
abbrev pub SendsFront : Option (List ℕ) → List (List ℕ) → List (List ℕ) → Option (List ℕ) → Option (List ℕ) → Walk → Type 0
SendsFront seen types words before after old =
    (open_end : Bool) (bytes text : List ℕ) (start : Option (List ℕ)) → seen ≡ Some bytes
    → IsSent types words open_end bytes start before old text → GrewByFront start after text

-- there is no such text
abbrev pub SendsNone : Option (List ℕ) → List (List ℕ) → List (List ℕ) → Option (List ℕ) → Walk → Type 0
SendsNone seen types words before old =
    (open_end : Bool) (bytes text : List ℕ) (start : Option (List ℕ)) → seen ≡ Some bytes
    → ¬ IsSent types words open_end bytes start before old text
