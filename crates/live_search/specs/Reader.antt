-- A reader, and what it stands for.
use Rattle.std.specs.Prelude.{◌≡◌, ◌≢◌, ◌≤◌, ℕ, List, ◌++◌, length, Bool, true, false, Option, Some, None, is_none, is_some}
use Rattle.log_seams.specs.Outside.{Rose}
use Rattle.sink_pieces.specs.Output.{Took}
use Rattle.record_format.specs.declared.header.Header.{Header}
use Rattle.record_format.specs.Header.{IsHeader}
use Rattle.archive_meaning.specs.declared.entry.JournalEntry.{JournalEntry}
use Rattle.archive_meaning.specs.Held.{Held, nothing_held}
use Rattle.archive_meaning.specs.Legal.{Run}
use Rattle.archive_meaning.specs.Spelled.{front_of}
use Rattle.archive_open.specs.Grown.{IsGrown}
use Rattle.disk_seal.specs.Beside.{Follower}
use Rattle.pair_sieve.specs.Sieve.{Tells}
use Rattle.printed_lines.specs.Lines.{Placed, lines_of}
use Rattle.live_search.specs.declared.refusal.LiveRefusal.{LiveRefusal}
use Rattle.live_search.specs.declared.refusal.LiveRefusal.TheVariants.{DiskFault, SinkFault, Damaged, OutOfMemory}
use Rattle.live_search.specs.declared.fixed.LiveFixed.{LiveFixed}
use Rattle.live_search.specs.Handled.{Reached}
use Rattle.search_meaning.specs.Live.{Live}

-- what the reader has come to; its output, the name of the borrow, and the output as it was when the reader was made; and why it
-- reads no further
pub record LiveView (K : Type 0) : Type 0 where
  pub reached : Reached
  pub out : K
  pub name : ℕ
  pub begun : K
  pub refusal : Option LiveRefusal

-- the count of faults of its output did not fall: it rose where this is why it reads no further, and else stayed
pub record KeepsCount {K : Type 0} (faults : K → ℕ) (begun out : K) (refusal : Option LiveRefusal) : Type 0 where
  pub later : faults begun ≤ faults out
  pub rose : refusal ≡ Some SinkFault → Rose (faults begun) (faults out)
  pub steady : refusal ≢ Some SinkFault → faults out ≡ faults begun

-- it reads no further since the disk failed
abbrev pub has_halted : Option LiveRefusal → Bool
has_halted None = false
has_halted (Some DiskFault) = true
has_halted (Some SinkFault) = false
has_halted (Some (Damaged at)) = false
has_halted (Some OutOfMemory) = false

module _ {K : Type 0} (written : K → Option (List ℕ)) where
  -- Behind entries that hold this it has handled these: it has printed the lines of what is found in them, or a front of those
  -- where it reads no further; else it keeps what is held with them, and its sieve tells of the texts.
  pub record HasGone (r : LiveView K) (h : Header) (held : Held) (es : List JournalEntry) : Type 0 where
    pub found : List Placed
    pub end : Held
    pub live : Live h r.reached.pattern held es found end
    pub grown : r.refusal ≡ None → IsGrown r.reached.grown h end
    pub sieved : r.refusal ≡ None → Tells r.reached.pattern end.types end.words r.reached.sieve
    pub printed : Took (is_none r.refusal) (written r.begun) (written r.out) (lines_of found)

  -- it has begun behind the first entries and handled the others
  pub record LiveStands (r : LiveView K) (h : Header) (start handled : List JournalEntry) : Type 0 where
    pub header : IsHeader h
    pub whole : (at : ℕ) → r.refusal ≢ Some (Damaged at)
    pub gate : r.refusal ≡ None → r.reached.at ≡ length (front_of h (start ++ handled))
    pub gone : (held : Held) → Run h nothing_held start held → HasGone r h held handled

  abbrev pub live_follower : LiveView K → Follower (LiveFixed K)
  live_follower r = record {
    first = r.reached.first;
    handled = r.reached.handled;
    refused = is_some r.refusal;
    halted = has_halted r.refusal;
    fixed = record { name = r.name; begun = r.begun; pattern = r.reached.pattern };
    stands = LiveStands r;
  }
