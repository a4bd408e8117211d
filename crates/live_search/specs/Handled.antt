-- What the handling of one more record does.
use Rattle.std.specs.Prelude.{◌≡◌, ◌⊎◌, ℕ, ◌+◌, List, Option}
use Rattle.record_format.specs.declared.header.Header.{Header}
use Rattle.wild_match.specs.declared.pattern.Item.{Item}
use Rattle.archive_meaning.specs.declared.entry.JournalEntry.{JournalEntry}
use Rattle.archive_meaning.specs.Held.{Held, nothing_held}
use Rattle.archive_meaning.specs.Legal.{Accepts, Run}
use Rattle.archive_open.specs.Grown.{GrownView, IsGrown, grown_of}
use Rattle.archive_open.specs.Kept.{Kept}
use Rattle.archive_open.specs.Walk.{IsNext}
use Rattle.disk_seal.specs.declared.found.Found.{Found}
use Rattle.pair_sieve.specs.Sieve.{Knows, SieveView, Tells}
use Rattle.printed_lines.specs.Lines.{Placed, lines_of}
use Rattle.sink_pieces.specs.Output.{Grew, GrewByFront}
use Rattle.live_search.specs.declared.progress.Progress.{Progress}
use Rattle.search_meaning.specs.Live.{Brings}

-- what is kept of the entries so far, what is searched for, what its sieve tells, how many entries the reader began with and how
-- many it has handled, and the gate behind these
pub record Reached : Type 0 where
  pub grown : GrownView
  pub pattern : List Item
  pub sieve : SieveView
  pub first : ℕ
  pub handled : ℕ
  pub at : ℕ

-- where this tells which texts are kept
abbrev pub reached_of : {B : Type 0} → (B → Kept) → Progress B → Reached
reached_of kept p = record { grown = grown_of kept p.grown; pattern = p.pattern; sieve = p.sieve; first = p.first; handled = p.handled; at = p.at }

-- its sieve knows of the texts that are kept
abbrev pub KnowsTexts : Reached → Type 0
KnowsTexts r = Knows r.pattern r.grown.kept.types r.grown.kept.words r.sieve

-- the reader stands behind that record
pub record GoesPast (f : Found) (old new : Reached) : Type 0 where
  pub pattern : new.pattern ≡ old.pattern
  pub first : new.first ≡ old.first
  pub handled : new.handled ≡ old.handled + 1
  pub at : new.at ≡ f.place.payload + f.place.length

-- the reader stands where it stood
pub record StaysThere (old new : Reached) : Type 0 where
  pub pattern : new.pattern ≡ old.pattern
  pub first : new.first ≡ old.first
  pub handled : new.handled ≡ old.handled

-- the record is of an entry that goes on with these ones, of which the reader keeps what they hold, and its sieve tells of their
-- texts
pub record Meets (f : Found) (r : Reached) (h : Header) (es : List JournalEntry) (e : JournalEntry) (held : Held) : Type 0 where
  pub next : IsNext r.at f.place.kind f.payload h es e
  pub run : Run h nothing_held es held
  pub grown : IsGrown r.grown h held
  pub sieved : Tells r.pattern held.types held.words r.sieve

-- what the entry brings was printed, and what is held with it is kept; the sieve tells of its texts
pub record HasHandled (h : Header) (held : Held) (e : JournalEntry) (old new : Reached) (before after : Option (List ℕ)) : Type 0 where
  pub more : Held
  pub here : List Placed
  pub accepts : Accepts h held e more
  pub brings : Brings h old.pattern held e here
  pub grown : IsGrown new.grown h more
  pub sieved : Tells old.pattern more.types more.words new.sieve
  pub printed : Grew before after (lines_of here)

-- a front of what the entry brings was printed
pub record HasBegun (h : Header) (held : Held) (e : JournalEntry) (old : Reached) (before after : Option (List ℕ)) : Type 0 where
  pub more : Held
  pub here : List Placed
  pub accepts : Accepts h held e more
  pub brings : Brings h old.pattern held e here
  pub printed : GrewByFront before after (lines_of here)

-- the record was handled
pub record Handles (f : Found) (old new : Reached) (before after : Option (List ℕ)) : Type 0 where
  pub past : GoesPast f old new
  pub done : (h : Header) (es : List JournalEntry) (e : JournalEntry) (held : Held) → Meets f old h es e held
      → HasHandled h held e old new before after

-- it was begun
pub record Begins (f : Found) (old new : Reached) (before after : Option (List ℕ)) : Type 0 where
  pub past : GoesPast f old new
  pub begun : (h : Header) (es : List JournalEntry) (e : JournalEntry) (held : Held) → Meets f old h es e held
      → HasBegun h held e old before after

-- or it was not
pub record Leaves (old new : Reached) (before after : Option (List ℕ)) : Type 0 where
  pub stays : StaysThere old new
  pub nothing : after ≡ before

-- the handling stopped
abbrev pub Stops : Found → Reached → Reached → Option (List ℕ) → Option (List ℕ) → Type 0
Stops f old new before after = Leaves old new before after ⊎ Begins f old new before after

-- no entry has the record that goes on with what the reader keeps
abbrev pub MeetsNone : Found → Reached → Type 0
MeetsNone f r = (h : Header) (es : List JournalEntry) (e : JournalEntry) (held : Held) → ¬ Meets f r h es e held
