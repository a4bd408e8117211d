-- When an ingest may begin, and what it leaves.
use Rattle.std.specs.Prelude.{◌≡◌, ◌⊎◌, ℕ, ◌+◌, ◌<◌, ◌&&◌, Bool, true, false, not, List, [], ◌∷◌, ◌++◌, length, is_some, Option, None, Some, IfSome, slice_get, All}
use Rattle.std.specs.List.{Contains, filter_map}
use mathlib.Core.List.{IsPrefix}
use Rattle.log_seams.specs.declared.disk.Disk.{Ghosts as DiskGhosts}
use Rattle.log_seams.specs.Outside.{Rose}
use Rattle.turn_lock.specs.declared.grows.Grows.{Ghosts}
use Rattle.turn_lock.specs.Words.{about_by, seen_by, IsOpening}
use Rattle.dict_core.specs.Books.{BookState}
use Rattle.dict_lock.specs.Shared.{BookPass}
use Rattle.row_codec.specs.declared.namer.Which.{Which}
use Rattle.row_codec.specs.Messages.{IsTypeOf, IsWordOf}
use Rattle.row_codec.specs.Naming.{Known}
use Rattle.disk_journal.specs.declared.journal.Journal.{Journal}
use Rattle.disk_journal.specs.Journal.{state_of}
use Rattle.disk_journal.specs.State.{JournalState}
use Rattle.archive_meaning.specs.declared.entry.JournalEntry.{JournalEntry}
use Rattle.archive_meaning.specs.declared.entry.JournalEntry.TheVariants.{Files, Types, Words, Segment}
use Rattle.archive_meaning.specs.Spelled.{types_of}
use Rattle.message_reader.specs.Versions.{MessagesOf}
use Rattle.disk_seal.specs.Known.{limit_in}
use Rattle.disk_seal.specs.Told.{IfTold, journal_in}
use Rattle.ingest_meaning.specs.WordsIn.{words_of}
use Rattle.disk_seal.specs.View.{StoreView, state_by, journal_of, Kept}
use Rattle.disk_seal.specs.Opening.{MayOpen}
use Rattle.ingest_workers.specs.declared.job.Job.{Job}
use Rattle.ingest_workers.specs.declared.worker.Plan.{Plan}
use Rattle.ingest_workers.specs.declared.outcome.Outcome.{Outcome}
use Rattle.ingest_workers.specs.declared.outcome.Cause.TheVariants.{OutOfMemory}
use Rattle.ingest_workers.specs.Outcome.{nothing_done}
use Rattle.ingest_workers.specs.Journal.{FrontHolds, Holds}
use Rattle.ingest_meaning.specs.Parts.{IsCut, IsOpen, Part, messages_in, rest_of, segments_from, in_file}
use Rattle.ingest_workers.specs.Causes.{Grounds, HasJobCause, log_of}
use Rattle.ingest_meaning.specs.Dictionaries.{limit_of, IsFullBy, IsTextOf, header_limits, book_texts, HasTextsBehind}
use Rattle.ingest_meaning.specs.Given.{AreAllOf, AreFirstOf, IsNextOf}
use Rattle.ingest_workers.specs.Full.{Books, WasFullBehind}
use Rattle.ingest_meaning.specs.Room.{HadNoRoom}
use Rattle.ingest_workers.specs.NoRoom.{IsBetween, WereKnown}
use Rattle.ingest_workers.specs.JobDone.{HasSourceBack, in_source}
use Rattle.ingest_workers.specs.StartedWorkers.{BookMaker, EndsBook}
use Rattle.ingest_workers.specs.Worker.{IsGiven}

-- there was no memory before any work
abbrev pub not_begun : Outcome
not_begun = record { messages = 0; whole = false; cause = Some OutOfMemory }

-- the entries of a journal, where they are told
abbrev pub told_entries : JournalState → List JournalEntry
told_entries j = journal_in j.disk.seen j.count

-- where the journal's bytes are told, the books have its texts, and the limits of its header
pub record HoldTexts (j : JournalState) (types words : BookState) : Type 0 where
  pub types_are : IfTold (is_some j.disk.seen) ((types.texts ≡ types_of (told_entries j)) × (types.limit ≡ j.header.types_limit))
  pub words_are : IfTold (is_some j.disk.seen) ((words.texts ≡ words_of (told_entries j)) × (words.limit ≡ j.header.words_limit))

module _ {S : Type 0} where
  -- the file of the first job
  abbrev pub first_file : List (Job S) → ℕ
  first_file [] = 0
  first_file (j ∷ js) = j.file

  -- The job was not done yet, and its file is this one, which where the journal is told has a name there and no segment.
  pub record IsNewFile (j : JournalState) (file : ℕ) (job : Job S) : Type 0 where
    pub outcome : job.outcome ≡ nothing_done
    pub file_is : job.file ≡ file
    pub small : job.file < 4294967296
    pub empty : IfTold (is_some j.disk.seen) (Holds j.header (told_entries j) job.file [] false false)

  -- the jobs' files are new, and consecutive from the first one on
  abbrev pub AreNew : ℕ → JournalState → List (Job S) → Type 0
  AreNew first j js = (i : ℕ) (job : Job S) → slice_get js i ≡ Some job → IsNewFile j (first + i) job

  -- none of the jobs was begun, since there was no memory
  pub record AreRefused (js js' : List (Job S)) : Type 0 where
    pub counted : length js' ≡ length js
    pub each : (i : ℕ) (job : Job S) → slice_get js' i ≡ Some job → job.outcome ≡ not_begun
    pub same : (i : ℕ) (job : Job S) → slice_get js i ≡ Some job
        → (new : Job S) × (slice_get js' i ≡ Some new) × (new.file ≡ job.file) × (new.source ≡ job.source)

  -- the text is one of the encoding of a message of one of the jobs' sources
  abbrev pub IsTypeGiven : (S → Option (List ℕ)) → ℕ → List (Job S) → List ℕ → Type 0
  IsTypeGiven left version js t = (m : List ℕ) × IsGiven left version js m × IsTypeOf version m t

  abbrev pub IsWordGiven : (S → Option (List ℕ)) → ℕ → List (Job S) → List ℕ → Type 0
  IsWordGiven left version js t = (m : List ℕ) × IsGiven left version js m × IsWordOf version m t

  -- the entry is one of texts, or a segment of one of the jobs' files
  abbrev pub IsOfJobs : List (Job S) → JournalEntry → Type 0
  IsOfJobs js (Files names) = ⊥
  IsOfJobs js (Types first texts) = Unit {0}
  IsOfJobs js (Words first texts) = Unit {0}
  IsOfJobs js (Segment s) = (i : ℕ) × (job : Job S) × (slice_get js i ≡ Some job) × (job.file ≡ s.file)

-- the book has so many texts; where they are told, these and this limit
pub record HasBook (told : Bool) (limit : ℕ) (texts : List (List ℕ)) (saved : ℕ) (b : BookState) : Type 0 where
  pub counted : saved ≡ length b.texts
  pub are : IfTold told ((b.texts ≡ texts) × (b.limit ≡ limit))

-- the maker is that of a lock just made of a book with so many texts; where they are told, it has these and this limit
pub record OpensBook {G : Ghosts BookState (List ℕ) ℕ} (first : ℕ) (told : Bool) (limit : ℕ) (texts : List (List ℕ)) (saved : ℕ)
    (m : BookMaker G) : Type 0 where
  pub book : BookState
  pub opening : IsOpening m first book.texts book.limit
  pub has : HasBook told limit texts saved book

-- where the bytes are told, this holds of their messages in this version, and of whether the last line had its newline
abbrev pub OfMessages : ℕ → Option (List ℕ) → (List (List ℕ) → Bool → Type 0) → Type 0
OfMessages version bytes P = IfSome bytes (λ b. (messages : List (List ℕ)) (ended : Bool) → MessagesOf version b messages ended
    → P messages ended)

module _ {D : Type 0} {d : DiskGhosts D} where
  -- the store that is made of a journal and passes that have seen so many texts
  abbrev pub opened_over : Journal D d → BookPass → BookPass → ℕ → ℕ → StoreView D
  opened_over j types words types_saved words_saved = record {
    disk = j.disk.now;
    name = j.disk.ghost_name;
    opened = j.disk.now;
    faults = (d.state j.disk.now).faults;
    header = j.header;
    place = j.place;
    count = j.count;
    closed = j.closed;
    first = j.count;
    types = types;
    words = words;
    types_saved = types_saved;
    words_saved = words_saved;
    stopped = None;
  }

  -- The journal's disk is that of a store that was opened over the journal of before, and keeps what a store keeps: its disk's
  -- bytes and each image of it stand for its entries, since the opening each stands for some first of these with those of before;
  -- of a store that a fault stopped they stand for these, or these with the one that was under way, and the disk's count of
  -- faults rose. Where it did not, a store may be opened again.
  pub record IsLeftBy (store : StoreView D) (before after : Journal D d) : Type 0 where
    pub name : after.disk.ghost_name ≡ before.disk.ghost_name
    pub opened : store.opened ≡ before.disk.now
    pub disk : store.disk ≡ after.disk.now
    pub header : store.header ≡ before.header
    pub first : store.first ≡ before.count
    pub header_now : after.header ≡ before.header
    pub place : after.place ≡ store.place
    pub count : after.count ≡ store.count
    pub closed : after.closed ≡ store.closed
    pub kept : Kept (state_by d.state store)
    pub again : ¬ Rose (d.state before.disk.now).faults (d.state after.disk.now).faults
        → (store.stopped ≡ None) × MayOpen (state_of after)

  -- segments of at most so many rows, in the version of the journal's header
  abbrev pub plan_of : ℕ → Journal D d → Plan
  plan_of rows j = record { rows = rows; version = j.header.version }

  -- the journal is as it was, or its disk stands for the same entries, to which more may be appended
  pub record HasStayed (store : StoreView D) (before after : Journal D d) : Type 0 where
    pub left_by : IsLeftBy store before after
    pub running : store.stopped ≡ None
    pub entries : journal_of (state_by d.state store) ≡ told_entries (state_of before)

  abbrev pub IsAsItWas : Journal D d → Journal D d → Type 0
  IsAsItWas before after = (after ≡ before) ⊎ ((store : StoreView D) × HasStayed store before after)

module _ {D : Type 0} {d : DiskGhosts D} where
  -- So many bytes behind an end go past the header's limit of length. Where the journal is told, they are those of the next
  -- segment of a file, whose messages are those of these bytes, and of the texts before it. That is the next whole part, or the
  -- rest where this holds of the messages up to its end; and it is the end of entries that begin with those of before and stand
  -- first in the journal afterwards.
  abbrev pub HadNoRoomOver : (List JournalEntry → Which → List (List ℕ) → Type 0) → Plan → ℕ → Option (List ℕ) → Journal D d
      → Journal D d → (List (List ℕ) → Type 0) → List (List ℕ) → ℕ → ℕ → Type 0
  HadNoRoomOver has plan file bytes before after last sealed end need =
      (before.header.length_limit < end + need)
      × IfTold (is_some (state_of before).disk.seen)
      (HadNoRoom before.header plan.rows plan.version file
      (IsBetween (told_entries (state_of before)) (told_entries (state_of after))) has
      (AreFirstOf plan.version bytes) last sealed end need)

  -- What causes say of the journal and its disk, of a file with these bytes: when a book is full; what had no room; the disk's
  -- count of faults rose, from this one to that one.
  abbrev pub grounds_over : (Option (List ℕ) → List (List ℕ) → Which → ℕ → Type 0)
      → (List JournalEntry → Which → List (List ℕ) → Type 0) → Plan → ℕ → Option (List ℕ) → Journal D d → Journal D d → Grounds
  grounds_over full has plan file bytes before after = record {
    full = full bytes;
    no_room = HadNoRoomOver has plan file bytes before after;
    failed = λ opened now. (opened ≡ (state_of before).disk.faults) × Rose opened (state_of after).disk.faults
        × (now ≡ (state_of after).disk.faults);
  }

-- what makers know of the two books
abbrev pub known_at : {G : Ghosts BookState (List ℕ) ℕ} → BookMaker G → Known
known_at m = record { texts = seen_by m; added = []; limit = limit_in (about_by m) }

abbrev pub books_at : {G H : Ghosts BookState (List ℕ) ℕ} → BookMaker G → BookMaker H → Books
books_at types words = record { types = known_at types; words = known_at words }

module _ {S : Type 0} where
  -- The texts of a book are those of the entries, and others of the encodings of messages of the jobs' sources.
  abbrev pub WereGiven : (S → Option (List ℕ)) → Plan → List (Job S) → List JournalEntry → Which → List (List ℕ) → Type 0
  WereGiven left plan js front book texts = HasTextsBehind (IsTextOf plan.version (IsGiven left plan.version js) book)
      (book_texts book front) texts

module _ {S D : Type 0} {d : DiskGhosts D} where
  -- the text is one of the book in the journal, or one of the encoding of a message of one of the jobs' sources
  abbrev pub IsThereOrGiven : (S → Option (List ℕ)) → Plan → List (Job S) → Journal D d → Which → List ℕ → Type 0
  IsThereOrGiven left plan js before book t = Contains (book_texts book (told_entries (state_of before))) t
      ⊎ IsTextOf plan.version (IsGiven left plan.version js) book t

  -- Where the journal is told, a book may have so many texts by the header, and there are as many of the journal and of the jobs'
  -- sources. One more is of the encoding of the message of these bytes that is the next one behind these.
  abbrev pub IsFullByGiven : (S → Option (List ℕ)) → Plan → List (Job S) → Journal D d → Option (List ℕ) → List (List ℕ) → Which
      → ℕ → Type 0
  IsFullByGiven left plan js before bytes sealed book count =
      IfTold (is_some (state_of before).disk.seen) ((count ≡ limit_of (header_limits before.header) book)
      × IsFullBy (IsThereOrGiven left plan js before book)
      (IsTextOf plan.version (IsNextOf plan.version bytes sealed) book) count)

  -- A job that was done has its source back, of the same name, whose count of faults did not fall. Of the first messages of the
  -- source, which the outcome counts, the cause holds.
  pub record HasItsCause (full : Option (List ℕ) → List (List ℕ) → Which → ℕ → Type 0)
      (has : List JournalEntry → Which → List (List ℕ) → Type 0) (left name : S → Option (List ℕ)) (faults : S → ℕ)
      (plan : Plan) (before after : Journal D d) (old new : Job S) : Type 0 where
    pub source : HasSourceBack name faults old new
    pub sealed : List (List ℕ)
    pub count : new.outcome.messages ≡ length sealed
    pub first : OfMessages plan.version (left source.before) (λ messages e. IsPrefix sealed messages)
    pub cause : HasJobCause (grounds_over full has plan old.file (left source.before) before after)
        (log_of left faults source.before source.after) plan.version sealed new.outcome.cause

  -- each job has, where a book is full by this behind messages of its bytes, and had texts by that
  pub record HaveCausesBy (full : Option (List ℕ) → List (List ℕ) → Which → ℕ → Type 0)
      (has : List JournalEntry → Which → List (List ℕ) → Type 0) (left name : S → Option (List ℕ)) (faults : S → ℕ)
      (plan : Plan) (before after : Journal D d) (js js' : List (Job S)) : Type 0 where
    pub counted : length js' ≡ length js
    pub each : (i : ℕ) (job : Job S) → slice_get js i ≡ Some job
        → (new : Job S) × (slice_get js' i ≡ Some new) × HasItsCause full has left name faults plan before after job new

  abbrev pub HaveCauses : (S → Option (List ℕ)) → (S → Option (List ℕ)) → (S → ℕ) → Plan → Journal D d → Journal D d
      → List (Job S) → List (Job S) → Type 0
  HaveCauses left name faults plan before after js js' =
      HaveCausesBy (IsFullByGiven left plan js before) (WereGiven left plan js) left name faults plan before after js js'

  -- the same where a book was full at the source's next message, and its texts are known
  abbrev pub HaveCausesIn : Books → (S → Option (List ℕ)) → (S → Option (List ℕ)) → (S → ℕ) → Plan → Journal D d → Journal D d
      → List (Job S) → List (Job S) → Type 0
  HaveCausesIn books left name faults plan before after js js' =
      HaveCausesBy (WasFullBehind plan.version books) (WereKnown books) left name faults plan before after js js'

module _ {S D : Type 0} {d : DiskGhosts D} where
  -- A job was done. The messages that its outcome counts are the first ones of its source, and all of them where the file is
  -- whole, or its source was read and there is no cause. Of a file that was to be whole there is a cause exactly where it is not;
  -- a part is not whole. Where its source was not opened nothing was done. The messages are cut in parts. Where the journal is
  -- told, the file's segments among the new entries are exactly those of the parts, in order, and a front of the journal holds
  -- exactly these messages of the file.
  pub record IsFileOf (left : S → Option (List ℕ)) (plan : Plan) (before : Journal D d) (fresh : List JournalEntry)
      (old new : Job S) : Type 0 where
    pub file : new.file ≡ old.file
    pub covered : List (List ℕ)
    pub ended : Bool
    pub count : new.outcome.messages ≡ length covered
    pub cause : old.is_open ≡ true → old.is_part ≡ false → is_some new.outcome.cause ≡ not new.outcome.whole
    pub part : old.is_part ≡ true → new.outcome.whole ≡ false
    pub unopened : old.is_open ≡ false → new.outcome ≡ nothing_done
    pub first : OfMessages plan.version (in_source left old.source) (λ messages e. IsPrefix covered messages)
    pub all : new.outcome.whole ≡ true → OfMessages plan.version (in_source left old.source)
        (λ messages e. (covered ≡ messages) × (ended ≡ e))
    pub none : old.is_open ≡ true → new.outcome.cause ≡ None → AreAllOf plan.version (in_source left old.source) covered
    pub closed : List Part
    pub rest : Part
    pub parts : covered ≡ messages_in closed ++ rest.messages
    pub cut : All (IsCut plan.rows) closed
    pub not_yet : IsOpen plan.rows rest
    pub segments : IfTold (is_some (state_of before).disk.seen) (filter_map (in_file old.file) fresh
        ≡ segments_from old.file 0 closed ++ rest_of old.file (length (messages_in closed)) new.outcome.whole ended rest)
    pub held : IfTold (is_some (state_of before).disk.seen)
        (FrontHolds before.header (told_entries (state_of before) ++ fresh) old.file covered new.outcome.whole
        (new.outcome.whole && ended))

  -- Each job was done. Where they are told, the journal's entries are those of before and new ones, which are texts and segments
  -- of the jobs' files.
  pub record HasStored (left : S → Option (List ℕ)) (plan : Plan) (js js' : List (Job S)) (before after : Journal D d)
      (store : StoreView D) : Type 0 where
    pub left_by : IsLeftBy store before after
    pub fresh : List JournalEntry
    pub grown : journal_of (state_by d.state store) ≡ told_entries (state_of before) ++ fresh
    pub counted : length js' ≡ length js
    pub files : (i : ℕ) (job : Job S) → slice_get js i ≡ Some job
        → (new : Job S) × (slice_get js' i ≡ Some new) × IsFileOf left plan before fresh job new
    pub others : All (IsOfJobs js) fresh

  -- the same, and the passes of both books ended
  pub record HasEndedBooks {G : Ghosts BookState (List ℕ) ℕ} (left : S → Option (List ℕ)) (plan : Plan) (js js' : List (Job S))
      (before after : Journal D d) (types types' words words' : BookMaker G) : Type 0 where
    pub store : StoreView D
    pub stored : HasStored left plan js js' before after store
    pub of_types : EndsBook (IsTypeGiven left plan.version js) types types' store.types
    pub of_words : EndsBook (IsWordGiven left plan.version js) words words' store.words

  -- The same, and each text that the new entries add is one of the encoding of a message of one of the jobs' sources.
  pub record HasIngested (left : S → Option (List ℕ)) (plan : Plan) (js js' : List (Job S))
      (before after : Journal D d) : Type 0 where
    pub store : StoreView D
    pub stored : HasStored left plan js js' before after store
    pub types : All (IsTypeGiven left plan.version js) (types_of stored.fresh)
    pub words : All (IsWordGiven left plan.version js) (words_of stored.fresh)
