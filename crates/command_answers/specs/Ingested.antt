-- What the taking of files into an archive leaves: the journal, the content of the archive, what a crash may leave of it,
-- and what is printed.
use Rattle.std.proofs.Common.{inl, inr}
use Rattle.std.specs.Prelude.{◌≡◌, ◌≢◌, ◌+◌, ◌<◌, ◌≤◌, ◌⊎◌, ℕ, Bool, true, false, List, [], ◌∷◌, ◌++◌, length, map, take, All, Option, Some, None, IfSome, slice_get}
use Rattle.std.specs.List.{AllZip, Contains, filter_map, flat_map}
use Rattle.std.specs.Str.{is_utf8}
use mathlib.Core.List.{IsPrefix}
use Rattle.log_seams.specs.Disk.{DiskState, NoMore}
use Rattle.log_seams.specs.Outside.{Rose}
use Rattle.record_format.specs.declared.header.Header.{Header}
use Rattle.row_codec.specs.Messages.{IsTypeOf, IsWordOf}
use Rattle.plain_list.specs.Texts.{AreDistinct}
use Rattle.archive_meaning.specs.declared.entry.JournalEntry.{JournalEntry}
use Rattle.archive_meaning.specs.declared.entry.JournalEntry.TheVariants.{Files, Types, Words, Segment}
use Rattle.archive_meaning.specs.Held.{File, content_of}
use Rattle.archive_meaning.specs.Stands.{StandsFor}
use Rattle.archive_meaning.specs.Spelled.{end_of}
use Rattle.archive_open.specs.Shown.{StandsForNone}
use Rattle.ingest_meaning.specs.Room.{files_size, HadNoRoom}
use Rattle.row_codec.specs.declared.namer.Which.{Which}
use Rattle.ingest_meaning.specs.Dictionaries.{limit_of, IsFullBy, IsTextOf, HasTextsBehind, book_texts, header_limits}
use Rattle.ingest_meaning.specs.Given.{AreAllOf, AreFirstOf, IsAmongFirst, IsMessageAt, IsNextOf}
use Rattle.ingest_meaning.specs.Parts.{in_file, IsCut, IsOpen, Part, messages_in, rest_of, segments_from}
use Rattle.message_reader.specs.Taken.{IsBeforeLong, IsReadShort, lines_count}
use Rattle.message_reader.specs.Versions.{MessagesOf}
use Rattle.sink_pieces.specs.Output.{Grew, GrewByFront}
use Rattle.command_refusals.specs.Outside.{Outside}
use Rattle.file_lines.specs.Directory.{FileLine, directory_from}
use Rattle.command_refusals.specs.Ending.{EndsWith, EndsWithoutMemory, RoseIn, SaysIn, Stayed, TookNothing}
use Rattle.command_answers.specs.Names.{RefusesMore, RefusesNames}
use Rattle.command_refusals.specs.LogLimits.{IsLong, most_messages}
use Rattle.command_refusals.specs.Reading.{OverJournal}
use Rattle.command_refusals.specs.Outcome.{of_add}
use Rattle.command_answers.specs.Taken.{IsDamagedAt, file_error, file_status, gravest}
use Rattle.command_refusals.specs.declared.outcome.AddRefusal.{AddRefusal}
use Rattle.command_refusals.specs.declared.outcome.PartCause.{PartCause}
use Rattle.command_refusals.specs.declared.outcome.AddRefusal.TheVariants.{NameTooLong, TooManyFiles}
use Rattle.command_refusals.specs.declared.outcome.PartCause.TheVariants.{OpenFault, ReadFault, LineTooLong, TooManyLines, Full}
use Rattle.command_refusals.specs.declared.refusal.Refusal.TheVariants.{SinkFault}

-- What came of a file: its name, the bytes that it was made of, where they are told, whether its log was opened, how many
-- messages of it the archive has, whether these are all, and why they are not.
pub record FileOutcome : Type 0 where
  pub name : List ℕ
  pub log : Option (List ℕ)
  pub opened : Bool
  pub messages : ℕ
  pub whole : Bool
  pub refusal : Option PartCause

abbrev pub names_in : List FileOutcome → List (List ℕ)
names_in came = map (λ c. c.name) came

abbrev pub line_of_came : FileOutcome → FileLine
line_of_came c = record { name = c.name; messages = c.messages; whole = c.whole }

-- ---- the journal

-- where the bytes of a log are told, the message is one of theirs
abbrev pub IsMessageIn : ℕ → Option (List ℕ) → List ℕ → Type 0
IsMessageIn version log message =
    IfSome log (λ bytes. (messages : List (List ℕ)) (ended : Bool) → MessagesOf version bytes messages ended
    → Contains messages message)

-- The message is one of the log of a file. A log that was not opened has none, whatever it was not opened for; of one that was,
-- and whose bytes are not told, nothing is said.
abbrev pub IsGivenBy : ℕ → FileOutcome → List ℕ → Type 0
IsGivenBy version c message = (c.opened ≡ true) × IsMessageIn version c.log message

-- it is one of these files
abbrev pub IsGiven : ℕ → List FileOutcome → List ℕ → Type 0
IsGiven version came message = (c : FileOutcome) × Contains came c × IsGivenBy version c message

-- An entry that may stand behind the names of new files, which are numbered on from `first`: a segment of one of them, or
-- texts of the encodings of their messages.
abbrev pub IsOfNew : ℕ → List FileOutcome → ℕ → JournalEntry → Type 0
IsOfNew version came first (Files more) = ⊥
IsOfNew version came first (Types number texts) =
    All (λ text. (m : List ℕ) × IsGiven version came m × IsTypeOf version m text) texts
IsOfNew version came first (Words number texts) =
    All (λ text. (m : List ℕ) × IsGiven version came m × IsWordOf version m text) texts
IsOfNew version came first (Segment s) = (first ≤ s.file) × (s.file < first + length came)

-- ---- the content

-- A new file holds the first messages of its log, as many as it is told with, and all of them where nothing was refused of it,
-- which is where it is told as whole.
pub record IsFront (version : ℕ) (c : FileOutcome) (f : File) : Type 0 where
  pub name : f.name ≡ c.name
  pub messages : length f.messages ≡ c.messages
  pub whole : f.whole ≡ c.whole
  pub front : IfSome c.log (λ bytes. (messages : List (List ℕ)) (ended : Bool)
      → MessagesOf version bytes messages ended → IsPrefix f.messages messages)
  pub all : c.refusal ≡ None → (c.whole ≡ true) × IfSome c.log (λ bytes. MessagesOf version bytes f.messages f.ended)

-- ---- what a crash leaves

-- the bytes stand for the journal, or for it and the record that was under way
abbrev pub StandsForEither : Header → List JournalEntry → List JournalEntry → List ℕ → Type 0
StandsForEither h es tail bytes = StandsFor bytes h es ⊎ StandsFor bytes h (es ++ tail)

-- The disk as it reads, and each image at the end, stand for the journal. Each image since the start stands for a journal
-- between the one before and this one. Where a call of the disk failed, one record more may be under way.
pub record LeavesJournal (h : Header) (before es : List JournalEntry) (old new : DiskState) : Type 0 where
  pub tail : List JournalEntry
  pub one : length tail ≤ 1
  pub none : (Rose old.faults new.faults → ⊥) → tail ≡ []
  pub reads : IfSome new.seen (StandsForEither h es tail)
  pub now : (c : List ℕ) → new.images c → StandsForEither h es tail c
  pub since : (c : List ℕ) → new.since old.clock c → (some : List JournalEntry) × IsPrefix before some
      × IsPrefix some (es ++ tail) × StandsFor c h some

-- ---- by the answer

-- Nothing was taken in: the journal is as it was.
pub record TakesNothing (h : Header) (before : List JournalEntry) (old new : DiskState) : Type 0 where
  pub leaves : LeavesJournal h before before old new

-- The segments of a file among the entries are the parts of its messages, in order: each is cut where it has so many rows or is
-- full in another way, and not sooner, and the last one has the rest.
pub record IsCutInto (rows number : ℕ) (f : File) (added : List JournalEntry) : Type 0 where
  pub closed : List Part
  pub rest : Part
  pub parts : f.messages ≡ messages_in closed ++ rest.messages
  pub cut : All (IsCut rows) closed
  pub not_yet : IsOpen rows rest
  pub segments : filter_map (in_file number) added ≡ segments_from number 0 closed ++ rest_of number
      (length (messages_in closed)) f.whole f.ended rest

-- The names were added to the journal, and then what came of each file, in segments of at most so many rows.
pub record TakesIn {bytes : List ℕ} (rows : ℕ) (h : Header) (before : List JournalEntry) (stood : StandsFor bytes h before)
    (names : List (List ℕ)) (came : List FileOutcome) (old new : DiskState) : Type 0 where
  pub added : List JournalEntry
  pub each : All (IsOfNew h.version came (length stood.legal.held.names)) added
  pub leaves : LeavesJournal h before (before ++ (Files names ∷ added)) old new
  pub files : List File
  pub content_is : (image : List ℕ) (stands : StandsFor image h (before ++ (Files names ∷ added)))
      → content_of stands.legal.held ≡ content_of stood.legal.held ++ files
  pub fronts : AllZip (IsFront h.version) came files
  pub cuts : (i : ℕ) (f : File) → slice_get files i ≡ Some f → IsCutInto rows (length stood.legal.held.names + i) f added

-- Where the disk tells its bytes, these and each image of it stand for one journal at the start. Then this holds of it.
abbrev pub FromArchive : DiskState
    → ((h : Header) (before : List JournalEntry) (bytes : List ℕ) → StandsFor bytes h before → Type 0) → Type 0
FromArchive old P =
    IfSome old.seen (λ bytes. (h : Header) (before : List JournalEntry) (stood : StandsFor bytes h before)
    → ((c : List ℕ) → old.images c → StandsFor c h before) → P h before bytes stood)

-- ---- causes

-- what is told of the logs around a call: the counts of faults in opening and in reading them, and what was left unread
pub record Logs : Type 0 where
  pub opens : List ℕ → ℕ × ℕ
  pub reads : List ℕ → ℕ × ℕ
  pub unread : List ℕ → Option (List ℕ)

abbrev pub logs_of : Outside → Logs
logs_of seen = record { opens = seen.opens; reads = seen.reads; unread = seen.unread }

-- where the bytes are told, they have more messages than so many
abbrev pub HasMoreThan : ℕ → ℕ → Option (List ℕ) → Type 0
HasMoreThan count version told =
    IfSome told (λ bytes. (messages : List (List ℕ)) (ended : Bool) → MessagesOf version bytes messages ended
    → count < length messages)

-- the text is one of the book in the journal, or one of the encoding of a message of these files
abbrev pub IsThereOrGiven : ℕ → List FileOutcome → List JournalEntry → Which → List ℕ → Type 0
IsThereOrGiven version came es book text =
    Contains (book_texts book es) text ⊎ IsTextOf version (IsGiven version came) book text

-- this holds of the messages of a file that were taken in
pub record OfTaken (c : FileOutcome) (P : List (List ℕ) → Type 0) : Type 0 where
  pub sealed : List (List ℕ)
  pub count : c.messages ≡ length sealed
  pub holds : P sealed

-- There are as many texts of the journal and of these files, and one more is of the encoding of a log's next message, behind
-- those that were taken of it.
abbrev pub IsFullBehind : List FileOutcome → Header → List JournalEntry → FileOutcome → List (List ℕ) → Which → ℕ → Type 0
IsFullBehind came h es c taken book count =
    IsFullBy (IsThereOrGiven h.version came es book)
    (IsTextOf h.version (IsNextOf h.version c.log taken) book) count

-- A book may have so many texts, and is full behind the messages of the file that were taken in.
abbrev pub IsFullByGiven : List FileOutcome → Header → List JournalEntry → FileOutcome → Which → ℕ → Type 0
IsFullByGiven came h es c book count =
    (count ≡ limit_of (header_limits h) book) × OfTaken c (λ sealed. IsFullBehind came h es c sealed book count)

-- The texts of a book are those of the entries, and others of the encodings of messages of these files.
abbrev pub WereGiven : ℕ → List FileOutcome → List JournalEntry → Which → List (List ℕ) → Type 0
WereGiven version came front book texts =
    HasTextsBehind (IsTextOf version (IsGiven version came) book) (book_texts book front) texts

-- Why no further message of a file's log was taken than these, into an archive with these entries: a read of it failed behind
-- them, the next line is too long, there are too many, or a dictionary is full at the next one.
abbrev pub IsStoppedBy : Logs → List FileOutcome → Header → List JournalEntry → FileOutcome → List (List ℕ) → PartCause → Type 0
IsStoppedBy logs came h es c taken ReadFault = RoseIn (logs.reads c.name)
    × IfSome c.log (λ bytes. (behind : Option (List ℕ)) × IsReadShort h.version bytes taken behind)
IsStoppedBy logs came h es c taken (LineTooLong line) =
    (line ≡ lines_count taken + 1) × IfSome c.log (IsBeforeLong h.version taken)
IsStoppedBy logs came h es c taken TooManyLines =
    (length taken ≡ most_messages) × HasMoreThan most_messages h.version c.log
IsStoppedBy logs came h es c taken (Full book count) =
    (count ≡ limit_of (header_limits h) book) × IsFullBehind came h es c taken book count
IsStoppedBy logs came h es c taken _ = ⊥

-- The log has ended with these messages: they are all of its messages, or there is such a cause.
abbrev pub HasEnded : Logs → List FileOutcome → Header → List JournalEntry → FileOutcome → List (List ℕ) → Type 0
HasEnded logs came h es c taken = AreAllOf h.version c.log taken
    ⊎ ((cause : PartCause) × IsStoppedBy logs came h es c taken cause)

-- the entries begin with these ones, and where the disk's bytes are told and stand for a journal, it begins with the entries
abbrev pub StandFirst : Header → List JournalEntry → DiskState → List JournalEntry → Type 0
StandFirst h named new front =
    IsPrefix named front × IfSome new.seen (λ bytes. (es : List JournalEntry) → StandsFor bytes h es → IsPrefix front es)

-- Behind the messages of a file that were taken in, its next segment did not fit: the next whole part, of at most so many rows,
-- or the rest, where no whole part is left and the log has ended. The archive's end is that of entries which begin with the names
-- of these files, numbered on from `first`, and the bytes are those of the segment and of the texts before it.
pub record DidNotFit (logs : Logs) (rows first : ℕ) (came : List FileOutcome) (h : Header) (named : List JournalEntry)
    (new : DiskState) (c : FileOutcome) (end need : ℕ) : Type 0 where
  pub place : ℕ
  pub at : slice_get came place ≡ Some c
  pub room : OfTaken c (λ sealed. HadNoRoom h rows h.version (first + place) (StandFirst h named new)
      (WereGiven h.version came) (AreFirstOf h.version c.log) (HasEnded logs came h named c) sealed end need)

-- A read of a log with these bytes failed, and the messages that were taken in are those of the bytes before the fault: of all
-- but those that were left behind it.
pub record WasCutShort (version : ℕ) (c : FileOutcome) (bytes : List ℕ) : Type 0 where
  pub taken : List (List ℕ)
  pub count : c.messages ≡ length taken
  pub behind : Option (List ℕ)
  pub short : IsReadShort version bytes taken behind

-- What was left of a file's log is what is told as unread of its name; of several files of one name it is the first. Where logs do
-- not tell their names, the same is told of each text that was not given as a name.
abbrev pub IsLeftOf : (List ℕ → Option (List ℕ)) → List FileOutcome → ℕ → FileOutcome → Option (List ℕ) → Type 0
IsLeftOf unread came place c behind = (behind ≡ unread c.name) ⊎ Contains (take place (names_in came)) c.name
    ⊎ ((n : List ℕ) → is_utf8 n ≡ true → ¬ Contains (names_in came) n → unread n ≡ unread c.name)

-- Each log of which a read failed was cut short where it is told that it was left.
abbrev pub AreCutShort : (List ℕ → Option (List ℕ)) → ℕ → List FileOutcome → Type 0
AreCutShort unread version came =
    (place : ℕ) (c : FileOutcome) (bytes : List ℕ) → slice_get came place ≡ Some c → c.refusal ≡ Some ReadFault
    → c.log ≡ Some bytes → (cut : WasCutShort version c bytes) × IsLeftOf unread came place c cut.behind

-- The line of this number of a log with these bytes is the first that is too long: the messages before it were taken in, and it
-- follows them.
pub record IsNextTooLong (version : ℕ) (c : FileOutcome) (line : ℕ) (bytes : List ℕ) : Type 0 where
  pub taken : List (List ℕ)
  pub count : c.messages ≡ length taken
  pub follows : line ≡ lines_count taken + 1
  pub before : IsBeforeLong version taken bytes

-- What a refusal that came of a file rests on, where this came of all files that were given, in segments of at most so many rows.
-- Want of memory is free.
abbrev pub HasFileCause : ℕ → List FileOutcome → Outside → DiskState → DiskState → FileOutcome → Option PartCause → Type 0
HasFileCause rows came seen old new c None = c.whole ≡ true
HasFileCause rows came seen old new c (Some OpenFault) = RoseIn (seen.opens c.name) × (c.opened ≡ false)
HasFileCause rows came seen old new c (Some ReadFault) = RoseIn (seen.reads c.name)
HasFileCause rows came seen old new c (Some (LineTooLong line)) =
    IfSome c.log (λ bytes. IsLong bytes line)
    × FromArchive old (λ h before bytes stood. IfSome c.log (IsNextTooLong h.version c line))
HasFileCause rows came seen old new c (Some TooManyLines) =
    (c.messages ≡ most_messages)
    × FromArchive old (λ h before bytes stood. HasMoreThan most_messages h.version c.log)
HasFileCause rows came seen old new c (Some (Full book count)) =
    FromArchive old (λ h before bytes stood. IsFullByGiven came h before c book count)
HasFileCause rows came seen old new c (Some (PartCause.ArchiveFull end need)) =
    FromArchive old (λ h before bytes stood. DidNotFit (logs_of seen) rows (length stood.legal.held.names) came h
    (before ++ Files (names_in came) ∷ []) new c end need)
HasFileCause rows came seen old new c (Some PartCause.DiskFault) = Rose old.faults new.faults
HasFileCause rows came seen old new c (Some PartCause.OutOfMemory) = Unit {0}

-- A log was not opened since its opening failed, or there was no memory for it, and nothing was taken of it.
abbrev pub WasNotOpened : FileOutcome → Type 0
WasNotOpened c = (c.messages ≡ 0) × ((c.refusal ≡ Some OpenFault) ⊎ (c.refusal ≡ Some PartCause.OutOfMemory))

-- A file is whole exactly where nothing was refused of it, and a refusal has its cause.
pub record CameOfFile (rows : ℕ) (came : List FileOutcome) (seen : Outside) (old new : DiskState) (c : FileOutcome) : Type 0 where
  pub cause : HasFileCause rows came seen old new c c.refusal
  pub part : c.refusal ≢ None → c.whole ≡ false
  pub unopened : c.opened ≡ false → WasNotOpened c

-- the bytes are as they were, and no image came: nothing was written
abbrev pub WroteNothing : DiskState → DiskState → Type 0
WroteNothing old new = (new.seen ≡ old.seen) × NoMore old.images new.images

-- with these names the archive of before has not too many files
abbrev pub AreFewFor : List (List ℕ) → DiskState → Type 0
AreFewFor names old = FromArchive old (λ h before bytes stood. RefusesMore (length stood.legal.held.names) (length names) None)

-- The names go past the archive's limit of length: the archive ends there, and their record needs so many bytes. They are not too
-- many.
pub record GoPast (names : List (List ℕ)) (h : Header) (before : List JournalEntry) (held end need : ℕ) : Type 0 where
  pub ends : end ≡ end_of h before
  pub needs : need ≡ files_size names
  pub past : h.length_limit < end + need
  pub few : RefusesMore held (length names) None

-- What a refusal of the whole call rests on. That there are too many files is found before the disk is written and before it is
-- asked whether the names fit.
abbrev pub HasCallCause : List (List ℕ) → DiskState → DiskState → AddRefusal → Type 0
HasCallCause names old new (NameTooLong index) = RefusesNames names (Some (NameTooLong index))
HasCallCause names old new (TooManyFiles held more) =
    RefusesNames names (Some (TooManyFiles held more))
    ⊎ (RefusesMore held more (Some (TooManyFiles held more)) × (more ≡ length names)
    × OverJournal old.seen (λ journal. held ≡ length journal.names))
HasCallCause names old new AddRefusal.DiskFault = Rose old.faults new.faults × (WroteNothing old new ⊎ AreFewFor names old)
HasCallCause names old new (AddRefusal.Damaged at) = IfSome old.seen StandsForNone
HasCallCause names old new AddRefusal.OutOfMemory = Unit {0}
HasCallCause names old new (AddRefusal.ArchiveFull end need) =
    FromArchive old (λ h before bytes stood. GoPast names h before (length stood.legal.held.names) end need)

-- ---- a full dictionary with one worker, which takes the files in their order

-- How many messages of a file may have been met behind those that were taken in, by what was refused of it. A log that was not
-- opened or cannot be read on leaves none, a full dictionary the one that it stops, and any other refusal those that were in hand
-- for a segment of at most so many rows.
abbrev pub unsealed_of : ℕ → Option PartCause → ℕ
unsealed_of rows None = 0
unsealed_of rows (Some OpenFault) = 0
unsealed_of rows (Some ReadFault) = 0
unsealed_of rows (Some (LineTooLong line)) = 0
unsealed_of rows (Some TooManyLines) = 0
unsealed_of rows (Some (Full book count)) = 1
unsealed_of rows (Some _) = rows

module _ (rows : ℕ) where
  -- the message was met in this file, whose log was opened
  abbrev pub WasMetIn : ℕ → FileOutcome → List ℕ → Type 0
  WasMetIn version c m = (c.opened ≡ true) × IsAmongFirst version c.log (c.messages + unsealed_of rows c.refusal) m

  -- it was met in one of these files
  abbrev pub WasMetInOneOf : ℕ → List FileOutcome → List ℕ → Type 0
  WasMetInOneOf version came m = (c : FileOutcome) × Contains came c × WasMetIn version c m

  -- A book may have so many texts, and there are as many of the journal and of the messages that were met in these files. One
  -- more is of the file's next message, directly behind those that were taken in.
  abbrev pub IsFullInTurn : Header → List JournalEntry → List FileOutcome → FileOutcome → Which → ℕ → Type 0
  IsFullInTurn h es met c book count =
      (count ≡ limit_of (header_limits h) book)
      × IsFullBy (λ text. Contains (book_texts book es) text
      ⊎ IsTextOf h.version (WasMetInOneOf h.version met) book text)
      (IsTextOf h.version (IsMessageAt h.version c.log c.messages) book) count

-- this holds of the files up to each one that a full dictionary stopped, of this one, and of the dictionary and the count that
-- are told
abbrev pub OfStopped : (List FileOutcome → FileOutcome → Which → ℕ → Type 0) → List FileOutcome → Type 0
OfStopped P came =
    (place : ℕ) (c : FileOutcome) (book : Which) (count : ℕ) → slice_get came place ≡ Some c → c.refusal ≡ Some (Full book count)
    → P (take (place + 1) came) c book count

-- each full dictionary was so by the archive of before and the files up to the one that it stopped
abbrev pub AreFullInTurn : ℕ → DiskState → List FileOutcome → Type 0
AreFullInTurn rows old came =
    OfStopped (λ met c book count. FromArchive old
    (λ h before bytes stood. IsFullInTurn rows h before met c book count)) came

-- ---- what was taken in fits in the dictionaries

-- The message was taken in with a file whose bytes are told: it is one of their first messages, as many as the archive has of the
-- file.
pub record WasTakenWith (version : ℕ) (c : FileOutcome) (m : List ℕ) : Type 0 where
  pub bytes : List ℕ
  pub told : c.log ≡ Some bytes
  pub messages : List (List ℕ)
  pub ended : Bool
  pub are : MessagesOf version bytes messages ended
  pub first : Contains (take c.messages messages) m

-- it was taken in with one of these files
abbrev pub WasTakenIn : ℕ → List FileOutcome → List ℕ → Type 0
WasTakenIn version came m = (c : FileOutcome) × Contains came c × WasTakenWith version c m

-- the text is one of the book in the journal, or one of the encoding of a message that was taken in
abbrev pub IsThereOrTakenIn : Header → List JournalEntry → List FileOutcome → Which → List ℕ → Type 0
IsThereOrTakenIn h es came book text = Contains (book_texts book es) text
    ⊎ IsTextOf h.version (WasTakenIn h.version came) book text

-- distinct such texts are no more than the book may have
abbrev pub FitIn : Header → List JournalEntry → List FileOutcome → Which → Type 0
FitIn h es came book = (texts : List (List ℕ)) → AreDistinct texts → All (IsThereOrTakenIn h es came book) texts
    → length texts ≤ limit_of (header_limits h) book

-- so it is of each dictionary of the archive of before
abbrev pub AllFit : DiskState → List FileOutcome → Type 0
AllFit old came = FromArchive old (λ h before bytes stood. (book : Which) → FitIn h before came book)

-- ---- the answers

-- The call was refused before the names were added, and nothing was printed.
pub record RefusesIngest (names : List (List ℕ)) (seen : Outside) (old new : DiskState) (status : ℕ) : Type 0 where
  pub refusal : AddRefusal
  pub ends : EndsWith seen [] status (Some (of_add refusal))
  pub nothing : TookNothing seen.out
  pub sink : Stayed seen.out_faults
  pub cause : HasCallCause names old new refusal
  pub disk : FromArchive old (λ h before bytes stood. TakesNothing h before old new)

-- this holds of the refusal, where the call was refused so
abbrev pub IfRefused : {names : List (List ℕ)} {seen : Outside} {old new : DiskState} {status : ℕ} {Takes : Type 0}
    → (AddRefusal → Type 0) → RefusesIngest names seen old new status ⊎ Takes → Type 0
IfRefused P (inl refuses) = P refuses.refusal
IfRefused P (inr takes) = Unit {0}

-- where damage is told, it is at its place, whatever archive is known
abbrev pub TellsDamage : DiskState → DiskState → AddRefusal → Type 0
TellsDamage old new (AddRefusal.Damaged at) = IsDamagedAt at old new
TellsDamage old new _ = Unit {0}

-- What came of each file is printed, in their order, numbered on from `first`; then a line on the error output for each that
-- is not whole, and the status is the gravest. Where the output fails, or there is no memory for its lines, this alone is told.
abbrev pub PrintsCame : List FileOutcome → ℕ → Outside → ℕ → Type 0
PrintsCame came first seen status =
    ((status ≡ gravest (map (λ c. file_status c.refusal) came))
    × Grew seen.out.0 seen.out.1 (directory_from first (map line_of_came came))
    × SaysIn seen (flat_map (λ c. file_error c.name c.refusal) came) × Stayed seen.out_faults)
    ⊎ (EndsWith seen [] status (Some SinkFault)
    × GrewByFront seen.out.0 seen.out.1 (directory_from first (map line_of_came came)) × RoseIn seen.out_faults)
    ⊎ (EndsWithoutMemory seen status
    × GrewByFront seen.out.0 seen.out.1 (directory_from first (map line_of_came came)) × Stayed seen.out_faults)

-- The names were added, numbered on from `first`, and the files taken in, each from what is told of its name, in segments of at
-- most so many rows.
pub record AddsFiles (rows : ℕ) (names : List (List ℕ)) (seen : Outside) (old new : DiskState) : Type 0 where
  pub came : List FileOutcome
  pub first : ℕ
  pub names_are : map (λ c. c.name) came ≡ names
  pub logs : All (λ c. c.log ≡ seen.content c.name) came
  pub numbered : OverJournal old.seen (λ journal. first ≡ length journal.names)
  pub disk : FromArchive old (λ h before bytes stood. TakesIn rows h before stood names came old new)

-- The same, and what came of each file has its cause; a log of which a read failed was cut short there. With one worker a
-- dictionary is full by the files up to the one that it stopped. With any number what was taken in fits in the dictionaries.
pub record TakesFiles (workers rows : ℕ) (names : List (List ℕ)) (seen : Outside) (old new : DiskState) : Type 0 where
  pub adds : AddsFiles rows names seen old new
  pub each : All (CameOfFile rows adds.came seen old new) adds.came
  pub cut : FromArchive old (λ h before bytes stood. AreCutShort seen.unread h.version adds.came)
  pub in_turn : workers ≡ 1 → AreFullInTurn rows old adds.came
  pub fits : AllFit old adds.came

-- How `ingest` ends, which has so many workers, and cuts files into segments of at most so many rows: it is refused, or what came
-- of each file is printed.
abbrev pub EndsIngest : ℕ → ℕ → List (List ℕ) → Outside → DiskState → DiskState → ℕ → Type 0
EndsIngest workers rows names seen old new status =
    RefusesIngest names seen old new status
    ⊎ ((takes : TakesFiles workers rows names seen old new) × PrintsCame takes.adds.came takes.adds.first seen status)
