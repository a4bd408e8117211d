-- What was taken in fits in the dictionaries.
use Rattle.std.proofs.Common.{◌≡◌, ◌+◌, ◌++◌, ◌∷◌, [], ◌≤◌, ◌==◌, ⊎_elim, inl, inr, refl, sym, ap, ap₂, ◌∙◌, subst, ℕ, zero, suc, Bool, true, false, if◌then◌else◌, List, length, map, take, Option, Some, None, get_or, append-nil, arith}
use Rattle.std.specs.Prelude.{All, IfSome, is_some, nat_eq, slice_get}
use Rattle.std.specs.List.{AllZip, Contains, IsDistinct}
use Rattle.std.specs.Cmp.Lexicographic.{bytes_decides, nat_list_eq_equiv, pointwise}
use Rattle.std.proofs.lemmas.List.Elements.{All-append, All-cons, All-contains, All-nil, All-weaker, Contains-append_left, Contains-append_right, recursion_from_All}
use Rattle.std.proofs.lemmas.Map.Made.{length-le_from_is_member}
use Rattle.std.proofs.lemmas.Map.Views.{Contains-from_any, list_any-from_Contains}
use Rattle.std.proofs.lemmas.Option.{get_or_from_slice_get, slice_get-get_or, slice_get_within}
use Rattle.std.proofs.Math.Seq.{take-append_seam}
use mathlib.Core.List.{IsPrefix}
use Rattle.log_seams.specs.Disk.{DiskState}
use Rattle.logtype_text.specs.Laws.{OneListOfParts}
use Rattle.logtype_text.specs.Parts.{Part, Constant, Variable, symbol_of}
use Rattle.logtype_text.specs.TypeText.{type_text}
use Rattle.logtype_text.specs.Encoded.{word_texts}
use Rattle.logtype_text.specs.declared.symbols.Kind.TheVariants.{Whole, Word, Decimal}
use Rattle.record_format.specs.declared.header.Header.{Header}
use Rattle.record_format.specs.Header.{IsHeader}
use Rattle.column_store.specs.declared.row.Row.{Row}
use Rattle.row_codec.proofs.OneCutLemmas.{one_cut}
use Rattle.row_codec.specs.declared.namer.Which.{Which}
use Rattle.row_codec.specs.declared.namer.Which.TheVariants.{Types as WhichTypes, Words as WhichWords}
use Rattle.row_codec.specs.Means.{AreCanonical, EachWord, HasWord, IsCanonical}
use Rattle.row_codec.specs.Messages.{IsTypeOf, IsWordOf}
use Rattle.plain_list.specs.Texts.{AreDistinct}
use Rattle.message_reader.specs.Versions.{MessagesOf}
use Rattle.disk_journal.specs.declared.record.TheConstants.{CLOSED_GATE}
use Rattle.archive_meaning.specs.declared.entry.JournalEntry.{JournalEntry}
use Rattle.archive_meaning.specs.declared.entry.JournalEntry.TheVariants.{Files, Types, Words, Segment}
use Rattle.archive_meaning.specs.Held.{File, Held, Piece, content_of, files_from, messages_of, nothing_held}
use Rattle.archive_meaning.specs.Legal.{Accepts, Run, piece_of}
use Rattle.archive_meaning.specs.Spelled.{front_of, types_of}
use Rattle.archive_meaning.specs.Stands.{IsLegal, StandsFor}
use Rattle.archive_meaning.proofs.JudgeLemmas.{run_types}
use Rattle.archive_meaning.proofs.SumsLemmas.{messages_joined}
use Rattle.archive_meaning.proofs.UniqueLemmas.{legal_front}
use Rattle.ingest_meaning.specs.WordsIn.{words_of}
use Rattle.disk_seal.proofs.NextLemmas.{run_words}
use Rattle.ingest_meaning.specs.Dictionaries.{IsTextOf, book_texts, header_limits, limit_of}
use Rattle.ingest_workers.proofs.ClosingLemmas.{types_joined, words_joined}
use Rattle.ingest_workers.proofs.JournalLemmas.{all_canonical}
use Rattle.ingest_workers.specs.Ingested.{OfMessages}
use Rattle.command_answers.specs.Ingested.{AllFit, FileOutcome, FitIn, FromArchive, IsFront, IsThereOrTakenIn, StandsForEither, TakesIn, WasTakenIn}
use Rattle.file_outcomes.proofs.JoinLemmas.{types_held, words_held}

abbrev Texts : Type 0
Texts = List (List ℕ)

-- ---- distinct texts that all stand in a list are no more than it has

apart : (text : List ℕ) (texts : Texts) → AreDistinct (text ∷ texts) → (i : ℕ) (other : List ℕ) → slice_get texts i ≡ Some other → pointwise nat_eq text other ≡ false
apart text texts distinct i other at = by_test (pointwise nat_eq text other) refl
  where
    by_test : (b : Bool) → pointwise nat_eq text other ≡ b → pointwise nat_eq text other ≡ false
    by_test false is = is
    by_test true is = absurd (cc (distinct 0 (suc i) other (ap (λ (t : List ℕ). Some t) ((bytes_decides text other).0 is)) at))

none_twice : (texts : Texts) → AreDistinct texts → IsDistinct (pointwise nat_eq) texts
unfolding IsDistinct
none_twice [] distinct = tt
none_twice (text ∷ texts) distinct = (
  recursion_from_All (λ (other : List ℕ). pointwise nat_eq text other ≡ false) texts (λ i d within. apart text texts distinct i (get_or texts i d) (slice_get-get_or texts i d within)),
  none_twice texts (λ i j other a b. cc (distinct (suc i) (suc j) other a b)),
)

no_more_than : (known texts : Texts) → AreDistinct texts → All (Contains known) texts → length texts ≤ length known
no_more_than known texts distinct each =
    length-le_from_is_member nat_list_eq_equiv texts known (none_twice texts distinct)
    (λ text there. list_any-from_Contains nat_list_eq_equiv text known (All-contains (Contains known) texts text each (Contains-from_any (λ a b is. (bytes_decides a b).0 is) text texts there)))

-- ---- the texts of a message that a row means

contained : {A : Type 0} (xs : List A) (i : ℕ) (x : A) → slice_get xs i ≡ Some x → Contains xs x
contained xs i x at = (i, slice_get_within xs i x at, get_or_from_slice_get xs i x x at)

-- some row by these texts is the encoding of the message
abbrev pub IsEncodedBy : ℕ → Held → List ℕ → Type 0
IsEncodedBy version held m = (row : Row) × IsCanonical version row held.types held.words m

words_known : (words : Texts) (parts : List Part) (row : List ℕ) → EachWord (HasWord words) parts row → All (Contains words) (word_texts parts)
words_known words [] row has = All-nil (Contains words)
words_known words (Constant b ∷ parts) row has = words_known words parts row has
words_known words (Variable kind text ∷ parts) [] has = absurd has
words_known words (Variable Whole text ∷ parts) (w ∷ row) has = words_known words parts row has.1
words_known words (Variable Decimal text ∷ parts) (w ∷ row) has = words_known words parts row has.1
words_known words (Variable Word text ∷ parts) (w ∷ row) has = All-cons (Contains words) text (word_texts parts) (contained words w text has.0.1) (words_known words parts row has.1)

module _ (one : OneListOfParts) (version : ℕ) (held : Held) (m text : List ℕ) (by : IsEncodedBy version held m) where
  type_known : IsTypeOf version m text → Contains held.types text
  type_known (parts, cut, is) =
      let same = one_cut one version m by.0 held.types held.words parts by.1 cut in
      contained held.types by.0.log_type text (by.1.means.typed ∙ ap (λ (t : List ℕ). Some t) (ap (λ (ps : List Part). type_text (map symbol_of ps)) same ∙ sym is))

  word_known : IsWordOf version m text → Contains held.words text
  word_known (parts, cut, is) =
      let same = one_cut one version m by.0 held.types held.words parts by.1 cut in
      All-contains (Contains held.words) (word_texts parts) text (words_known held.words parts by.0.words (subst (λ (ps : List Part). EachWord (HasWord held.words) ps by.0.words) same by.1.means.coded)) is

-- ---- what a legal journal holds

rows_mean : (version : ℕ) (held : Held) (rows : List Row) (messages : Texts) → AreCanonical version rows held.types held.words messages → All (IsEncodedBy version held) messages
rows_mean version held [] [] are = All-nil (IsEncodedBy version held)
rows_mean version held [] (m ∷ messages) are = absurd are
rows_mean version held (r ∷ rows) [] are = absurd are
rows_mean version held (r ∷ rows) (m ∷ messages) are = All-cons (IsEncodedBy version held) m messages (r, are.0) (rows_mean version held rows messages are.1)

module _ (h : Header) (file : ℕ) (more : Held) where
  -- each message of the file among these is encoded by the texts in the end
  abbrev AllEncoded : List Piece → Type 0
  AllEncoded pieces = All (IsEncodedBy h.version more) (messages_of file pieces)

  encoded_step : (old mid : Held) (e : JournalEntry) (es : List JournalEntry) → Run h old (e ∷ es) more → Accepts h old e mid → AllEncoded old.pieces → AllEncoded mid.pieces
  encoded_step old mid (Files names) es run takes each = subst (λ (x : Held). AllEncoded x.pieces) (sym takes) each
  encoded_step old mid (Types first texts) es run takes each = subst (λ (x : Held). AllEncoded x.pieces) (sym takes.1) each
  encoded_step old mid (Words first texts) es run takes each = subst (λ (x : Held). AllEncoded x.pieces) (sym takes.1) each
  encoded_step old mid (Segment s) es run (messages, adds, is) each = subst (λ (x : Held). AllEncoded x.pieces) (sym is)
      (subst (All (IsEncodedBy h.version more)) (sym (messages_joined file old.pieces (piece_of s messages ∷ [])))
      (All-append (IsEncodedBy h.version more) (messages_of file old.pieces) (messages_of file (piece_of s messages ∷ [])) each (of_piece (s.file == file))))
    where
      types_on : IsPrefix old.types more.types
      types_on = (types_of (Segment s ∷ es), sym (run_types h old more (Segment s ∷ es) run))

      words_on : IsPrefix old.words more.words
      words_on = (words_of (Segment s ∷ es), sym (run_words h old more (Segment s ∷ es) run))

      all : All (IsEncodedBy h.version more) messages
      all = rows_mean h.version more s.rows messages (all_canonical h.version s.rows old.types old.words more.types more.words messages types_on words_on adds.canonical)

      of_piece : (mine : Bool) → All (IsEncodedBy h.version more) ((if mine then messages else []) ++ [])
      of_piece true = subst (All (IsEncodedBy h.version more)) (sym (append-nil messages)) all
      of_piece false = All-nil (IsEncodedBy h.version more)

  encoded_run : (old : Held) (es : List JournalEntry) → Run h old es more → AllEncoded old.pieces → AllEncoded more.pieces
  encoded_run old [] run each = subst (λ (x : Held). AllEncoded x.pieces) (sym run) each
  encoded_run old (e ∷ es) run each = encoded_run run.0 es run.2 (encoded_step old run.0 e es run run.1 each)

module _ (h : Header) where
  -- a dictionary has no more texts than the header lets it have
  abbrev AreFew : Held → Type 0
  AreFew held = (length held.types ≤ h.types_limit) × (length held.words ≤ h.words_limit)

  few_step : (old mid : Held) (e : JournalEntry) → Accepts h old e mid → AreFew old → AreFew mid
  few_step old mid (Files names) takes few = subst AreFew (sym takes) few
  few_step old mid (Types first texts) takes few = subst AreFew (sym takes.1) (takes.0.book.most, few.1)
  few_step old mid (Words first texts) takes few = subst AreFew (sym takes.1) (few.0, takes.0.book.most)
  few_step old mid (Segment s) takes few = subst AreFew (sym takes.2) few

  few_run : (old more : Held) (es : List JournalEntry) → Run h old es more → AreFew old → AreFew more
  few_run old more [] run few = subst AreFew (sym run) few
  few_run old more (e ∷ es) run few = few_run run.0 more es run.2 (few_step old run.0 e run.1 few)

module _ (h : Header) (es : List JournalEntry) (legal : IsLegal h es) where
  -- each message of the file is encoded by the texts that are held
  abbrev pub IsEncodedFile : File → Type 0
  IsEncodedFile f = All (IsEncodedBy h.version legal.held) f.messages

  pub encoded_from : (k : ℕ) (names : Texts) → All IsEncodedFile (files_from k names legal.held.pieces)
  encoded_from k [] = All-nil IsEncodedFile
  encoded_from k (name ∷ names) =
      All-cons IsEncodedFile _ (files_from (k + 1) names legal.held.pieces) (encoded_run h k legal.held nothing_held es legal.run (All-nil (IsEncodedBy h.version legal.held))) (encoded_from (k + 1) names)

  files_encoded : All IsEncodedFile (content_of legal.held)
  files_encoded = encoded_from 0 legal.held.names

  limits_kept : (book : Which) → length (book_texts book es) ≤ limit_of (header_limits h) book
  limits_kept WhichTypes = subst (λ (l : Texts). length l ≤ h.types_limit) (types_held h es legal) (few_run h nothing_held legal.held es legal.run (omega arith, omega arith)).0
  limits_kept WhichWords = subst (λ (l : Texts). length l ≤ h.words_limit) (words_held h es legal) (few_run h nothing_held legal.held es legal.run (omega arith, omega arith)).1

  -- a legal journal has bytes
  bytes_stand : IsHeader h → StandsFor (front_of h es ++ CLOSED_GATE ∷ []) h es
  bytes_stand header = record { header = header; legal = legal; stands = record { gate = CLOSED_GATE; rest = []; spells = refl; closed = λ is. absurd (cc (is)) } }

-- ---- what was taken in

texts_stay : (before more : List JournalEntry) (book : Which) (text : List ℕ) → Contains (book_texts book before) text → Contains (book_texts book (before ++ more)) text
texts_stay before more WhichTypes text there = subst (λ (l : Texts). Contains l text) (sym (types_joined before more)) (Contains-append_left (types_of before) (types_of more) text there)
texts_stay before more WhichWords text there = subst (λ (l : Texts). Contains l text) (sym (words_joined before more)) (Contains-append_left (words_of before) (words_of more) text there)

-- what stands beside an element
beside : {A B : Type 0} (R : A → B → Type 0) (xs : List A) (ys : List B) (i : ℕ) (x : A) → AllZip R xs ys → slice_get xs i ≡ Some x → (y : B) × Contains ys y × R x y
beside {A} {B} R xs ys i x both at = let y = go xs ys i both at in (y.0, contained ys i y.0 y.1, y.2)
  where
    go : (xs : List A) (ys : List B) (i : ℕ) → AllZip R xs ys → slice_get xs i ≡ Some x → (y : B) × (slice_get ys i ≡ Some y) × R x y
    go [] ys i both at = absurd (cc (at))
    go (a ∷ xs) [] i both at = absurd both
    go (a ∷ xs) (y ∷ ys) zero both at = (y, refl, subst (λ z. R z y) (cc (at)) both.0)
    go (a ∷ xs) (y ∷ ys) (suc i) both at = go xs ys i both.1 at

-- the file has the first messages of its log, as many as it is told with
pub record HasFirst (version : ℕ) (c : FileOutcome) (f : File) : Type 0 where
  pub messages : length f.messages ≡ c.messages
  pub front : OfMessages version c.log (λ messages ended. IsPrefix f.messages messages)

first_messages : (version : ℕ) (c : FileOutcome) (f : File) (bytes : List ℕ) (messages : Texts) (ended : Bool) → HasFirst version c f → c.log ≡ Some bytes → MessagesOf version bytes messages ended
    → take c.messages messages ≡ f.messages
first_messages version c f bytes messages ended has told are =
    let begins : IsPrefix f.messages messages =
    subst (λ (o : Option (List ℕ)). OfMessages version o (λ ms e. IsPrefix f.messages ms)) told has.front messages ended are in
    ap₂ (λ n (ms : Texts). take n ms) (sym has.messages) (sym begins.1) ∙ take-append_seam f.messages begins.0

-- where each of the files has the first messages of its log, and they are encoded by the texts that are held, what was taken in is
pub taken_encoded : (R : FileOutcome → File → Type 0) (version : ℕ) (held : Held) (came : List FileOutcome) (files : List File) → AllZip R came files
    → ((c : FileOutcome) (f : File) → R c f → HasFirst version c f) → ((f : File) → Contains files f → All (IsEncodedBy version held) f.messages)
    → (m : List ℕ) → WasTakenIn version came m → IsEncodedBy version held m
taken_encoded R version held came files zip first_of encoded m (c, there, was) =
    let f = beside R came files there.0 c zip (slice_get-get_or came there.0 c there.1 ∙ ap (λ (x : FileOutcome). Some x) there.2) in
    let first = first_messages version c f.0 was.bytes was.messages was.ended (first_of c f.0 f.2) was.told was.are in
    All-contains (IsEncodedBy version held) f.0.messages m (encoded f.0 f.1) (subst (λ (ms : Texts). Contains ms m) first was.first)

module _ (one : OneListOfParts) (h : Header) (before more : List JournalEntry) (legal : IsLegal h (before ++ more)) (came : List FileOutcome)
    (encoded : (m : List ℕ) → WasTakenIn h.version came m → IsEncodedBy h.version legal.held m) where
  taken_known : (book : Which) (text : List ℕ) → IsTextOf h.version (WasTakenIn h.version came) book text → Contains (book_texts book (before ++ more)) text
  taken_known WhichTypes text (m, taken, is) = subst (λ (l : Texts). Contains l text) (types_held h (before ++ more) legal) (type_known one h.version legal.held m text (encoded m taken) is)
  taken_known WhichWords text (m, taken, is) = subst (λ (l : Texts). Contains l text) (words_held h (before ++ more) legal) (word_known one h.version legal.held m text (encoded m taken) is)

  pub fit_in : (book : Which) → FitIn h before came book
  fit_in book texts distinct each =
      let known = All-weaker (IsThereOrTakenIn h before came book) (Contains (book_texts book (before ++ more))) (λ text is. ⊎_elim (texts_stay before more book text) (taken_known book text) is) texts each in
      omega (arith, no_more_than (book_texts book (before ++ more)) texts distinct known, limits_kept h (before ++ more) legal book)

-- ---- what an ingest took in

module _ (h : Header) (before : List JournalEntry) {bytes : List ℕ} (stood : StandsFor bytes h before) (rows : ℕ) (names : Texts) (came : List FileOutcome) (old new : DiskState)
    (takes : TakesIn rows h before stood names came old new) (header : IsHeader h) (legal : IsLegal h (before ++ (Files names ∷ takes.added))) where
  abbrev es : List JournalEntry
  es = before ++ (Files names ∷ takes.added)

  file_encoded : (f : File) → Contains takes.files f → All (IsEncodedBy h.version legal.held) f.messages
  unfolding bytes_stand
  file_encoded f there =
      let in_content : Contains (content_of legal.held) f = subst (λ (fs : List File). Contains fs f) (sym (takes.content_is (front_of h es ++ CLOSED_GATE ∷ []) (bytes_stand h es legal header)))
      (Contains-append_right (content_of stood.legal.held) takes.files f there) in
      All-contains (IsEncodedFile h es legal) (content_of legal.held) f (files_encoded h es legal) in_content

  ingest_encoded : (m : List ℕ) → WasTakenIn h.version came m → IsEncodedBy h.version legal.held m
  ingest_encoded = taken_encoded (IsFront h.version) h.version legal.held came takes.files takes.fronts (λ c f is. record { messages = is.messages; front = is.front }) file_encoded

-- ---- where the disk's bytes are told

legal_told : (h : Header) (es tail : List JournalEntry) (told : Option (List ℕ)) → is_some told ≡ true → IfSome told (StandsForEither h es tail) → IsHeader h × IsLegal h es
legal_told h es tail None is reads = absurd (cc (is))
legal_told h es tail (Some bytes) is (inl stood) = (stood.header, stood.legal)
legal_told h es tail (Some bytes) is (inr stood) = (stood.header, legal_front h es tail stood.legal)

pub all_fit : (rows : ℕ) → OneListOfParts → (names : Texts) (came : List FileOutcome) (old new : DiskState) → is_some new.seen ≡ is_some old.seen
    → FromArchive old (λ h before bytes stood. TakesIn rows h before stood names came old new) → AllFit old came
all_fit rows one names came old new tells from = go old.seen tells from
  where
    go : (was : Option (List ℕ)) → is_some new.seen ≡ is_some was
        → IfSome was (λ bytes. (h : Header) (before : List JournalEntry) (stood : StandsFor bytes h before) → ((c : List ℕ) → old.images c → StandsFor c h before) → TakesIn rows h before stood names came old new)
        → IfSome was (λ bytes. (h : Header) (before : List JournalEntry) (stood : StandsFor bytes h before) → ((c : List ℕ) → old.images c → StandsFor c h before) → (book : Which) → FitIn h before came book)
    go None tells from = tt
    go (Some bytes) tells from = λ h before stood only book.
        let takes = from h before stood only in
        let is = legal_told h (before ++ (Files names ∷ takes.added)) takes.leaves.tail new.seen tells takes.leaves.reads in
        fit_in one h before (Files names ∷ takes.added) is.1 came (ingest_encoded h before stood rows names came old new takes is.0 is.1) book
