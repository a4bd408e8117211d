-- How much of a text was given, and what the next bytes of it are.
use Rattle.std.specs.Prelude.{◌≡◌, ℕ, ◌≤◌, List, [], ◌++◌, Bool, true, false, length, take, drop, Option, Some}
use Rattle.archive_text.specs.declared.walk.Walk.{Walk}
use Rattle.archive_text.specs.Ahead.{IsAhead, ahead, text_behind}

-- what the messages that are ahead will be, unless the text is written out to its end
abbrev pub yet : Bool → Bool → Bool → List (List ℕ) → List ℕ
yet true open_end begun messages = []
yet false open_end begun messages = text_behind open_end begun messages

-- of the text the given bytes are at its front: what was written out and not given follows, and what is ahead
pub record IsOnWay (types words : List (List ℕ)) (open_end : Bool) (bytes : List ℕ) (w : Walk) (text : List ℕ) : Type 0 where
  pub messages : List (List ℕ)
  pub ahead : IsAhead types words (ahead w) bytes messages
  pub is : drop w.lines.given text ≡ drop w.lines.sent w.lines.gathered.items ++ yet w.ended open_end w.lines.begun messages

-- the same of each text, where the bytes are told
abbrev pub OnWayTold : Option (List ℕ) → List (List ℕ) → List (List ℕ) → Bool → Walk → Walk → Type 0
OnWayTold seen types words open_end old new =
    (bytes text : List ℕ) → seen ≡ Some bytes → IsOnWay types words open_end bytes old text
    → IsOnWay types words open_end bytes new text

abbrev pub NotOnWay : Option (List ℕ) → List (List ℕ) → List (List ℕ) → Bool → Walk → Type 0
NotOnWay seen types words open_end w = (bytes text : List ℕ) → seen ≡ Some bytes → ¬ IsOnWay types words open_end bytes w text

-- the first n bytes of a buffer are the first of these, and there are none only where these end
pub record Gives (n : ℕ) (buf bytes : List ℕ) : Type 0 where
  pub enough : n ≤ length bytes
  pub begins : take n buf ≡ take n bytes
  pub at_end : n ≡ 0 → bytes ≡ []

-- the next bytes of each text
abbrev pub GivesTold : Option (List ℕ) → List (List ℕ) → List (List ℕ) → Bool → Walk → ℕ → List ℕ → Type 0
GivesTold seen types words open_end old n buf =
    (bytes text : List ℕ) → seen ≡ Some bytes → IsOnWay types words open_end bytes old text
    → Gives n buf (drop old.lines.given text)
