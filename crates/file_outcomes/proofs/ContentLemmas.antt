-- What the archive holds of files that were taken in.
use Rattle.std.proofs.Common.{◌≡◌, ◌≢◌, not, ◌+◌, ◌<◌, ◌≤◌, ◌&&◌, ◌⊎◌, ⊎_elim, inl, inr, refl, sym, ap, ap₂, subst, ◌∙◌, ℕ, zero, suc, Bool, true, false, List, [], ◌∷◌, ◌++◌, length, map, Option, Some, None, arith, append_assoc}
use Rattle.std.specs.Prelude.{All, IfSome, is_some, option_map, slice_get}
use Rattle.std.specs.List.{AllZip, Contains, filter_map}
use Rattle.column_store.specs.Columns.{IsFull}
use Rattle.std.proofs.lemmas.Option.{get_or_from_slice_get, slice_get-map, slice_get_within}
use Rattle.std.proofs.lemmas.List.Elements.{All-cons, All-drop, All-head, All-nil, All-tail, All-take, All-weaker}
use Rattle.std.proofs.Math.Seq.{drop-append_seam, take-append_seam}
use mathlib.Core.List.{IsPrefix}
use Rattle.log_seams.specs.declared.disk.Disk.{Ghosts as DiskGhosts}
use Rattle.log_seams.specs.Disk.{DiskState, IsLawful}
use Rattle.record_format.specs.declared.header.Header.{Header}
use Rattle.row_codec.specs.Messages.{IsTypeOf, IsWordOf}
use Rattle.message_reader.specs.Versions.{MessagesOf}
use Rattle.message_reader.proofs.VersionLawLemmas.{messages_exist, messages_none}
use Rattle.disk_journal.specs.declared.journal.Journal.{Journal}
use Rattle.disk_journal.specs.Journal.{state_of}
use Rattle.archive_meaning.specs.declared.entry.JournalEntry.{JournalEntry}
use Rattle.archive_meaning.specs.declared.entry.JournalEntry.TheVariants.{Files, Types, Words, Segment}
use Rattle.archive_meaning.specs.Held.{File, Held, Piece, content_of, files_from, is_ended, is_whole, messages_of, nothing_held}
use Rattle.archive_meaning.specs.Legal.{Run}
use Rattle.archive_meaning.specs.Spelled.{types_in, types_of}
use Rattle.archive_meaning.specs.Stands.{IsLegal, StandsFor}
use Rattle.archive_meaning.proofs.RunLemmas.{one_held}
use Rattle.archive_meaning.proofs.UniqueLemmas.{legal_front}
use Rattle.disk_seal.specs.View.{journal_of, state_by, tells}
use Rattle.ingest_meaning.specs.WordsIn.{words_in, words_of}
use Rattle.ingest_workers.specs.declared.job.Job.{Job}
use Rattle.ingest_workers.specs.declared.outcome.Outcome.{Outcome}
use Rattle.ingest_workers.specs.Ingested.{AreRefused, HasIngested, IsAsItWas, IsFileOf, IsOfJobs, IsTypeGiven, IsWordGiven, OfMessages, plan_of, told_entries}
use Rattle.ingest_workers.specs.Journal.{FrontHolds}
use Rattle.ingest_workers.specs.JobDone.{in_source}
use Rattle.ingest_meaning.specs.Given.{AreAllOf}
use Rattle.ingest_meaning.specs.Parts.{in_file}
use Rattle.ingest_meaning.specs.Parts.{IsCut, IsOpen, Part, columns_of, front, messages_in, rest_of, segments_from}
use Rattle.ingest_workers.specs.Worker.{IsGiven as IsGivenByJobs}
use Rattle.command_answers.specs.Ingested.{FileOutcome, IsCutInto, IsFront, IsGiven, IsGivenBy, IsOfNew, LeavesJournal, TakesIn}
use Rattle.file_outcomes.specs.JournalLeft.{HasNames, HasTakenIn, IsLogOf}
use Rattle.file_outcomes.proofs.JoinLemmas.{HasNone, new_file, with_names}
use Rattle.file_outcomes.proofs.LeavesLemmas.{left_entries, left_leaves, of_told, same_leaves, stayed_entries}
use Rattle.file_outcomes.proofs.NamingLemmas.{content_of_new, run_of_new}
use Rattle.file_outcomes.proofs.PieceLemmas.{HoldsOf, IsNewFrom, one_file}

-- ---- one new file

-- the parts of a file's messages, and its segments among new entries
pub record HasParts (rows file : ℕ) (fresh : List JournalEntry) (covered : List (List ℕ)) (whole ended : Bool) : Type 0 where
  pub closed : List Part
  pub rest : Part
  pub parts : covered ≡ messages_in closed ++ rest.messages
  pub cut : All (IsCut rows) closed
  pub not_yet : IsOpen rows rest
  pub segments : filter_map (in_file file) fresh ≡ segments_from file 0 closed ++ rest_of file (length (messages_in closed)) whole ended rest

-- a file that is not whole leaves its end aside
rest_of_whole : (file n : ℕ) (whole ended : Bool) (rest : Part) → rest_of file n whole ended rest ≡ rest_of file n whole (whole && ended) rest
rest_of_whole file n true ended rest = refl
rest_of_whole file n false ended rest = refl

-- where nothing was added there is one part without messages
abbrev no_part : Part
no_part = record { rows = []; messages = [] }

no_parts : (rows file : ℕ) (ended : Bool) → 0 < rows → HasParts rows file [] [] false ended
no_parts rows file ended some = record {
  closed = [];
  rest = no_part;
  parts = refl;
  cut = All-nil (IsCut rows);
  not_yet = record { even = refl; not_yet = λ k within full. absurd (omega (arith, some, many k full)) };
  segments = refl;
}
  where
    many : (k : ℕ) → IsFull (columns_of (front k no_part)) rows → rows ≤ 0
    many zero (inl rows_are) = rows_are
    many zero (inr (inl variables)) = absurd (omega (arith, variables))
    many zero (inr (inr bytes)) = absurd (omega (arith, bytes))
    many (suc k) (inl rows_are) = rows_are
    many (suc k) (inr (inl variables)) = absurd (omega (arith, variables))
    many (suc k) (inr (inr bytes)) = absurd (omega (arith, bytes))

-- What the archive has of a file: as many messages as are told, which are the first ones of its log, and all of them where nothing
-- was refused of it. Where it is whole then, it is marked as the log ends.
pub record IsTold (version rows : ℕ) (fresh : List JournalEntry) (ps : List Piece) (file : ℕ) (c : FileOutcome) : Type 0 where
  pub covered : List (List ℕ)
  pub ended : Bool
  pub holds : HoldsOf file ps covered c.whole (c.whole && ended)
  pub count : c.messages ≡ length covered
  pub cut : HasParts rows file fresh covered c.whole ended
  pub first : OfMessages version c.log (λ messages e. IsPrefix covered messages)
  pub none : c.refusal ≡ None → AreAllOf version c.log covered
  pub all : c.refusal ≡ None → c.whole ≡ true → OfMessages version c.log (λ messages e. (covered ≡ messages) × (ended ≡ e))

-- the same of the file
pub record IsFileFor (version : ℕ) (c : FileOutcome) (f : File) : Type 0 where
  pub name : f.name ≡ c.name
  pub messages : length f.messages ≡ c.messages
  pub whole : f.whole ≡ c.whole
  pub first : OfMessages version c.log (λ messages e. IsPrefix f.messages messages)
  pub none : c.refusal ≡ None → AreAllOf version c.log f.messages
  pub all : c.refusal ≡ None → c.whole ≡ true → OfMessages version c.log (λ messages e. (f.messages ≡ messages) × (f.ended ≡ e))

abbrev file_in : FileOutcome → ℕ → List Piece → File
file_in c file ps = record { name = c.name; messages = messages_of file ps; whole = is_whole file ps; ended = is_ended file ps }

of_log_map : (version : ℕ) (log : Option (List ℕ)) (P Q : List (List ℕ) → Bool → Type 0) → ((messages : List (List ℕ)) (e : Bool) → P messages e → Q messages e) → OfMessages version log P → OfMessages version log Q
of_log_map version None P Q on p = tt
of_log_map version (Some bytes) P Q on p = λ messages e are. on messages e (p messages e are)

file_for_told : (version : ℕ) {rows : ℕ} {fresh : List JournalEntry} (ps : List Piece) (file : ℕ) (c : FileOutcome) → IsTold version rows fresh ps file c → IsFileFor version c (file_in c file ps)
file_for_told version ps file c is = record {
  name = refl;
  messages = ap length is.holds.messages ∙ sym is.count;
  whole = is.holds.whole_is;
  first = of_log_map version c.log (λ messages e. IsPrefix is.covered messages) (λ messages e. IsPrefix (messages_of file ps) messages) (λ messages e begins. subst (λ ms. IsPrefix ms messages) (sym is.holds.messages) begins) is.first;
  none = λ spared. subst (AreAllOf version c.log) (sym is.holds.messages) (is.none spared);
  all = λ spared full. of_log_map version c.log (λ messages e. (is.covered ≡ messages) × (is.ended ≡ e)) (λ messages e. (messages_of file ps ≡ messages) × (is_ended file ps ≡ e))
      (λ messages e same. (is.holds.messages ∙ same.0, is.holds.ended_is ∙ (ap (λ b. b && is.ended) full ∙ same.1))) (is.all spared full);
}

-- of all files, in order
pub files_for : (version : ℕ) {rows : ℕ} {fresh : List JournalEntry} (ps : List Piece) (k : ℕ) (names : List (List ℕ)) (came : List FileOutcome) → map (λ (c : FileOutcome). c.name) came ≡ names
    → ((i : ℕ) (c : FileOutcome) → slice_get came i ≡ Some c → IsTold version rows fresh ps (k + i) c) → AllZip (IsFileFor version) came (files_from k names ps)
files_for version {rows} {fresh} ps k names came are each = subst (λ l. AllZip (IsFileFor version) came (files_from k l ps)) are (go k came each)
  where
    go : (k : ℕ) (came : List FileOutcome) → ((i : ℕ) (c : FileOutcome) → slice_get came i ≡ Some c → IsTold version rows fresh ps (k + i) c) → AllZip (IsFileFor version) came (files_from k (map (λ (c : FileOutcome). c.name) came) ps)
    go k [] each = tt
    go k (c ∷ came) each = (
      file_for_told version ps k c (subst (λ n. IsTold version rows fresh ps n c) (omega arith) (each 0 c refl)),
      go (k + 1) came (λ i d at. subst (λ n. IsTold version rows fresh ps n d) (omega arith) (each (suc i) d at)),
    )

-- where a file is whole if nothing was refused of it
front_for : (version : ℕ) (c : FileOutcome) (f : File) → (c.refusal ≡ None → c.whole ≡ true) → IsFileFor version c f → IsFront version c f
front_for version c f full is = record {
  name = is.name;
  messages = is.messages;
  whole = is.whole;
  front = is.first;
  all = λ spared. (full spared, all_by c.log (is.all spared (full spared)));
}
  where
    all_by : (log : Option (List ℕ)) → OfMessages version log (λ messages e. (f.messages ≡ messages) × (f.ended ≡ e)) → IfSome log (λ bytes. MessagesOf version bytes f.messages f.ended)
    all_by None all = tt
    all_by (Some b) all =
        let some = messages_exist version b in
        let same = all some.0 some.1 some.2 in
        subst (λ ms. MessagesOf version b ms f.ended) (sym same.0) (subst (λ e. MessagesOf version b some.0 e) (sym same.1) some.2)

fronts_for : (version : ℕ) (came : List FileOutcome) (fs : List File) → ((i : ℕ) (c : FileOutcome) → slice_get came i ≡ Some c → c.refusal ≡ None → c.whole ≡ true) → AllZip (IsFileFor version) came fs → AllZip (IsFront version) came fs
fronts_for version [] [] full zip = tt
fronts_for version [] (f ∷ fs) full zip = absurd zip
fronts_for version (c ∷ came) [] full zip = absurd zip
fronts_for version (c ∷ came) (f ∷ fs) full zip = (front_for version c f (full 0 c refl) zip.0, fronts_for version came fs (λ i d at. full (suc i) d at) zip.1)

-- the file at a place has the messages of its pieces
file_is : (ps : List Piece) (k : ℕ) (names : List (List ℕ)) (i : ℕ) (f : File) → slice_get (files_from k names ps) i ≡ Some f → (f.messages ≡ messages_of (k + i) ps) × (f.whole ≡ is_whole (k + i) ps) × (f.ended ≡ is_ended (k + i) ps)
file_is ps k [] i f at = absurd (cc (at))
file_is ps k (name ∷ names) zero f at =
    let here : k ≡ k + 0 = omega arith in
    let is : record { name = name; messages = messages_of k ps; whole = is_whole k ps; ended = is_ended k ps } ≡ f = cc (at) in (
      sym (ap (λ (x : File). x.messages) is) ∙ ap (λ n. messages_of n ps) here,
      sym (ap (λ (x : File). x.whole) is) ∙ ap (λ n. is_whole n ps) here,
      sym (ap (λ (x : File). x.ended) is) ∙ ap (λ n. is_ended n ps) here,
    )
file_is ps k (name ∷ names) (suc i) f at =
    let here : (k + 1) + i ≡ k + suc i = omega arith in
    let rest = file_is ps (k + 1) names i f at in
    (rest.0 ∙ ap (λ n. messages_of n ps) here, rest.1 ∙ ap (λ n. is_whole n ps) here, rest.2 ∙ ap (λ n. is_ended n ps) here)

-- and is cut into the parts that are told of it
cut_of_parts : (rows : ℕ) (fresh : List JournalEntry) (ps : List Piece) (file : ℕ) (f : File) (covered : List (List ℕ)) (whole ended : Bool) → HoldsOf file ps covered whole (whole && ended) → HasParts rows file fresh covered whole ended
    → (f.messages ≡ messages_of file ps) × (f.whole ≡ is_whole file ps) × (f.ended ≡ is_ended file ps) → IsCutInto rows file f fresh
cut_of_parts rows fresh ps file f covered whole ended holds cut is = record {
  closed = cut.closed;
  rest = cut.rest;
  parts = is.0 ∙ (holds.messages ∙ cut.parts);
  cut = cut.cut;
  not_yet = cut.not_yet;
  segments = cut.segments ∙ ap (λ l. segments_from file 0 cut.closed ++ l) (rest_of_whole file n whole ended cut.rest
      ∙ ap₂ (λ w e. rest_of file n w e cut.rest) (sym (is.1 ∙ holds.whole_is)) (sym (is.2 ∙ holds.ended_is)));
}
  where
    n : ℕ
    n = length (messages_in cut.closed)

-- the names have a file at each place
named_files : {A B : Type 0} (R : A → B → Type 0) (xs : List A) (ys : List B) (i : ℕ) (y : B) → AllZip R xs ys → slice_get ys i ≡ Some y → (x : A) × (slice_get xs i ≡ Some x)
named_files R [] [] i y zip at = absurd (cc (at))
named_files R [] (z ∷ ys) i y zip at = absurd zip
named_files R (x ∷ xs) [] i y zip at = absurd (cc (at))
named_files R (x ∷ xs) (z ∷ ys) zero y zip at = (x, refl)
named_files R (x ∷ xs) (z ∷ ys) (suc i) y zip at = named_files R xs ys i y zip.1 at

-- so are all files, in order
pub cuts_for : (version rows : ℕ) (fresh : List JournalEntry) (ps : List Piece) (first : ℕ) (names : List (List ℕ)) (came : List FileOutcome) → ((i : ℕ) (c : FileOutcome) → slice_get came i ≡ Some c → IsTold version rows fresh ps (first + i) c)
    → AllZip (IsFileFor version) came (files_from first names ps) → (i : ℕ) (f : File) → slice_get (files_from first names ps) i ≡ Some f → IsCutInto rows (first + i) f fresh
cuts_for version rows fresh ps first names came each zip i f at =
    let c = named_files (IsFileFor version) came (files_from first names ps) i f zip at in
    let told = each i c.0 c.1 in
    cut_of_parts rows fresh ps (first + i) f told.covered c.0.whole told.ended told.holds told.cut (file_is ps first names i f at)

-- ---- the entries of the new files

all_left : {A : Type 0} (P : A → Type 0) (xs ys : List A) → All P (xs ++ ys) → All P xs
all_left P xs ys all = subst (All P) (take-append_seam xs ys) (All-take P (length xs) (xs ++ ys) all)

all_right : {A : Type 0} (P : A → Type 0) (xs ys : List A) → All P (xs ++ ys) → All P ys
all_right P xs ys all = subst (All P) (drop-append_seam xs ys) (All-drop P (length xs) (xs ++ ys) all)

module _ {S : Type 0} (left : S → Option (List ℕ)) (version : ℕ) (came : List FileOutcome) (first : ℕ) (js : List (Job S)) where
  -- the jobs are those of the files
  pub record AreJobsOf : Type 0 where
    pub file : (i : ℕ) (job : Job S) → slice_get js i ≡ Some job → job.file ≡ first + i
    pub log : (i : ℕ) (job : Job S) → slice_get js i ≡ Some job → (c : FileOutcome) × (slice_get came i ≡ Some c) × IsLogOf c (in_source left job.source)

  nothing_given : (m : List ℕ) → ((messages : List (List ℕ)) (ended : Bool) → MessagesOf version [] messages ended → Contains messages m) → ⊥
  nothing_given m given = none_in (given [] true (messages_none version))
    where
      none_in : Contains [] m → ⊥
      none_in c = absurd (omega (arith, c.1))

  -- a message of a job is one of a file whose log could be opened
  pub given_of_names : AreJobsOf → (m : List ℕ) → IsGivenByJobs left version js m → IsGiven version came m
  given_of_names of m given =
      let log = of.log given.0 given.1 given.2 in (
        log.0,
        contains_at came given.0 log.0 log.1,
        by_log log.0 (in_source left given.1.source) log.2 given.3,
      )
    where
      contains_at : (l : List FileOutcome) (i : ℕ) (c : FileOutcome) → slice_get l i ≡ Some c → Contains l c
      contains_at l i c at = (i, slice_get_within l i c at, get_or_from_slice_get l i c c at)

      by_log : (c : FileOutcome) (told : Option (List ℕ)) → IsLogOf c told → IfSome told (λ b. (messages : List (List ℕ)) (ended : Bool) → MessagesOf version b messages ended → Contains messages m) → IsGivenBy version c m
      by_log c told (inl same) one = (same.1, subst (λ (o : Option (List ℕ)). IfSome o (λ b. (messages : List (List ℕ)) (ended : Bool) → MessagesOf version b messages ended → Contains messages m)) same.0 one)
      by_log c told (inr none) one =
          absurd (nothing_given m (subst (λ (o : Option (List ℕ)). IfSome o (λ b. (messages : List (List ℕ)) (ended : Bool) → MessagesOf version b messages ended → Contains messages m)) none one))

  pub all_of_names : AreJobsOf → (es : List JournalEntry) → All (IsOfJobs js) es → All (IsTypeGiven left version js) (types_of es) → All (IsWordGiven left version js) (words_of es) → All (IsOfNew version came first) es
  all_of_names of [] each types words = All-nil (IsOfNew version came first)
  all_of_names of (e ∷ es) each types words =
      All-cons (IsOfNew version came first) e es
      (entry e (All-head (IsOfJobs js) e es each) (all_left (IsTypeGiven left version js) (types_in e) (types_of es) types) (all_left (IsWordGiven left version js) (words_in e) (words_of es) words))
      (all_of_names of es (All-tail (IsOfJobs js) e es each) (all_right (IsTypeGiven left version js) (types_in e) (types_of es) types) (all_right (IsWordGiven left version js) (words_in e) (words_of es) words))
    where
      entry : (e : JournalEntry) → IsOfJobs js e → All (IsTypeGiven left version js) (types_in e) → All (IsWordGiven left version js) (words_in e) → IsOfNew version came first e
      entry (Files more) is t w = is
      entry (Types number texts) is t w = All-weaker (IsTypeGiven left version js) (λ text. (m : List ℕ) × IsGiven version came m × IsTypeOf version m text) (λ text g. (g.0, given_of_names of g.0 g.1, g.2)) texts t
      entry (Words number texts) is t w = All-weaker (IsWordGiven left version js) (λ text. (m : List ℕ) × IsGiven version came m × IsWordOf version m text) (λ text g. (g.0, given_of_names of g.0 g.1, g.2)) texts w
      entry (Segment s) is t w =
          let file : is.1.file ≡ first + is.0 = of.file is.0 is.1 is.2 in
          let named = of.log is.0 is.1 is.2 in
          (omega (arith, file, is.3), omega (arith, file, is.3, slice_get_within came is.0 named.0 named.1))

new_from : (version : ℕ) (came : List FileOutcome) (first : ℕ) (e : JournalEntry) → IsOfNew version came first e → IsNewFrom first e
new_from version came first (Files more) new = new
new_from version came first (Types number texts) new = tt
new_from version came first (Words number texts) new = tt
new_from version came first (Segment s) new = new.0

-- ---- what is told of a file by its job

module _ (h : Header) (base fresh : List JournalEntry) (mid held : Held) (ran : Run h nothing_held base mid) (run : Run h mid fresh held) where
  -- of a file whose job was not begun nothing is held
  pub none_told : (rows file : ℕ) (c : FileOutcome) → 0 < rows → HasNone file mid.pieces → fresh ≡ [] → c.messages ≡ 0 → c.whole ≡ false → c.refusal ≢ None → IsTold h.version rows fresh held.pieces file c
  none_told rows file c some none nothing count part refused =
      let same : held ≡ mid = subst (λ es. Run h mid es held) nothing run in
      let here : HasNone file held.pieces = subst (λ (x : Held). HasNone file x.pieces) (sym same) none in
      record {
        covered = [];
        ended = false;
        holds = record { messages = here.messages; whole_is = here.whole ∙ sym part; ended_is = here.ended ∙ sym (ap (λ b. b && false) part) };
        count = count;
        cut = subst (λ w. HasParts rows file fresh [] w false) (sym part) (subst (λ es. HasParts rows file es [] false false) (sym nothing) (no_parts rows file false some));
        first = always c.log;
        none = λ spared. absurd (refused spared);
        all = λ spared. absurd (refused spared);
      }
    where
      always : (o : Option (List ℕ)) → OfMessages h.version o (λ messages e. IsPrefix [] messages)
      always None = tt
      always (Some b) = λ messages e are. (messages, refl)

  -- of a file whose job was done these are
  pub file_told : {S D : Type 0} {d : DiskGhosts D} (left : S → Option (List ℕ)) (j : Journal D d) → is_some (state_of j).disk.seen ≡ true → j.header ≡ h → told_entries (state_of j) ≡ base → (rows file : ℕ) (c : FileOutcome) (old done : Job S)
      → HasNone file mid.pieces → old.file ≡ file → IsFileOf left (plan_of rows j) j fresh old done → c.messages ≡ done.outcome.messages → c.whole ≡ done.outcome.whole
      → IsLogOf c (in_source left old.source) → (c.refusal ≡ None → (in_source left old.source ≡ c.log) × (old.is_open ≡ true) × (done.outcome.cause ≡ None)) → IsTold h.version rows fresh held.pieces file c
  file_told {S} {D} {d} left j told header entries rows file c old done empty number is count whole log opened =
      record {
        covered = is.covered;
        ended = is.ended;
        holds = holds;
        count = count ∙ is.count;
        cut = parts;
        first = front_by c.log (in_source left old.source) (⊎_elim (λ same. inl same.0) (λ none. inr none) log) (subst (λ v. OfMessages v (in_source left old.source) (λ messages e. IsPrefix is.covered messages)) version is.first);
        none = λ spared. let o = opened spared in
            subst (λ l. AreAllOf h.version l is.covered) o.0 (subst (λ v. AreAllOf v (in_source left old.source) is.covered) version (is.none o.1 o.2));
        all = λ spared full. subst (λ l. OfMessages h.version l (λ messages e. (is.covered ≡ messages) × (is.ended ≡ e))) (opened spared).0
            (subst (λ v. OfMessages v (in_source left old.source) (λ messages e. (is.covered ≡ messages) × (is.ended ≡ e))) version (is.all (sym whole ∙ full)));
      }
    where
      version : (plan_of rows j).version ≡ h.version
      version = ap (λ (x : Header). x.version) header

      front_by : (log was : Option (List ℕ)) → (was ≡ log) ⊎ (was ≡ Some []) → OfMessages h.version was (λ messages e. IsPrefix is.covered messages) → OfMessages h.version log (λ messages e. IsPrefix is.covered messages)
      front_by log was (inl same) one = subst (λ (o : Option (List ℕ)). OfMessages h.version o (λ messages e. IsPrefix is.covered messages)) same one
      front_by None was (inr none) one = tt
      front_by (Some b) was (inr none) one = λ messages e are.
          let nothing : IsPrefix is.covered [] = subst (λ (o : Option (List ℕ)). OfMessages h.version o (λ messages e. IsPrefix is.covered messages)) none one [] true (messages_none h.version) in
          subst (λ ms. IsPrefix ms messages) (sym (front_of_nothing is.covered nothing)) (messages, refl)
        where
          front_of_nothing : (xs : List (List ℕ)) → IsPrefix xs [] → xs ≡ []
          front_of_nothing [] p = refl
          front_of_nothing (x ∷ xs) p = absurd (cc (p.1))

      parts : HasParts rows file fresh is.covered c.whole is.ended
      parts = subst (λ w. HasParts rows file fresh is.covered w is.ended) (sym whole) (subst (λ n. HasParts rows n fresh is.covered done.outcome.whole is.ended) number (record {
        closed = is.closed;
        rest = is.rest;
        parts = is.parts;
        cut = is.cut;
        not_yet = is.not_yet;
        segments = of_told (is_some (state_of j).disk.seen) told is.segments;
      }))

      holds : HoldsOf file held.pieces is.covered c.whole (c.whole && is.ended)
      holds =
          let segments = of_told (is_some (state_of j).disk.seen) told is.segments in
          let front : FrontHolds h (base ++ fresh) old.file is.covered done.outcome.whole (done.outcome.whole && is.ended) =
          subst (λ es. FrontHolds h (es ++ fresh) old.file is.covered done.outcome.whole (done.outcome.whole && is.ended)) entries
          (subst (λ x. FrontHolds x (told_entries (state_of j) ++ fresh) old.file is.covered done.outcome.whole (done.outcome.whole && is.ended)) header
          (of_told (is_some (state_of j).disk.seen) told is.held)) in
          subst (λ w. HoldsOf file held.pieces is.covered w (w && is.ended)) (sym whole)
          (subst (λ n. HoldsOf n held.pieces is.covered done.outcome.whole (done.outcome.whole && is.ended)) number
          (one_file h base fresh mid held old.file (subst (λ n. HasNone n mid.pieces) (sym number) empty) ran run
          rows is.covered done.outcome.whole is.ended is.closed is.rest is.parts is.cut is.not_yet segments front))

-- ---- the archive with the new files

module _ (h : Header) (before : List JournalEntry) (names : List (List ℕ)) {bytes : List ℕ} (stood : StandsFor bytes h before) (fresh : List JournalEntry)
    (legal : IsLegal h (before ++ (Files names ∷ fresh))) (came : List FileOutcome) (new : All (IsOfNew h.version came (length stood.legal.held.names)) fresh) where
  abbrev first : ℕ
  first = length stood.legal.held.names

  abbrev mid : Held
  mid = with_names stood.legal.held names

  runs : (more : Held) → Run h stood.legal.held (Files names ∷ []) more → more ≡ mid
  runs more run = run.2 ∙ run.1

  new_entries : All (IsNewFrom first) fresh
  new_entries = All-weaker (IsOfNew h.version came first) (IsNewFrom first) (new_from h.version came first) fresh new

  run_new : Run h mid fresh legal.held
  run_new = run_of_new h before (Files names ∷ []) fresh names stood runs legal new_entries

  -- what is told of each file makes what the archive has of them
  pub taken_in : (rows : ℕ) (old late : DiskState) → LeavesJournal h before (before ++ (Files names ∷ fresh)) old late → map (λ (c : FileOutcome). c.name) came ≡ names
      → ((i : ℕ) (c : FileOutcome) → slice_get came i ≡ Some c → IsTold h.version rows fresh legal.held.pieces (first + i) c) → ((i : ℕ) (c : FileOutcome) → slice_get came i ≡ Some c → c.refusal ≡ None → c.whole ≡ true)
      → (t : TakesIn rows h before stood names came old late) × (t.added ≡ fresh)
  taken_in rows old late leaves are each full = (
    record {
      added = fresh;
      each = new;
      leaves = leaves;
      files = files_from first names legal.held.pieces;
      content_is = λ image stands.
          ap content_of (one_held h nothing_held stands.legal.held legal.held (before ++ (Files names ∷ fresh)) stands.legal.run legal.run) ∙ content_of_new h before (Files names ∷ []) fresh names stood runs legal new_entries;
      fronts = fronts_for h.version came (files_from first names legal.held.pieces) full zip;
      cuts = cuts_for h.version rows fresh legal.held.pieces first names came each zip;
    },
    refl,
  )
    where
      zip : AllZip (IsFileFor h.version) came (files_from first names legal.held.pieces)
      zip = files_for h.version legal.held.pieces first names came are each

  -- a new file that was not begun
  pub none_new : (rows i : ℕ) (c : FileOutcome) → 0 < rows → i < length names → fresh ≡ [] → c.messages ≡ 0 → c.whole ≡ false → c.refusal ≢ None → IsTold h.version rows fresh legal.held.pieces (first + i) c
  none_new rows i c some within = let empty = new_file h before names stood.legal i within in none_told h (before ++ Files names ∷ []) fresh mid legal.held empty.run run_new rows (first + i) c some empty.none

  -- one whose job was done
  file_new : {S D : Type 0} {d : DiskGhosts D} (left : S → Option (List ℕ)) (j : Journal D d) → HasNames h before names (state_of j) → (rows i : ℕ) (c : FileOutcome) (old done : Job S) → i < length names → old.file ≡ first + i
      → IsFileOf left (plan_of rows j) j fresh old done → c.messages ≡ done.outcome.messages → c.whole ≡ done.outcome.whole
      → IsLogOf c (in_source left old.source) → (c.refusal ≡ None → (in_source left old.source ≡ c.log) × (old.is_open ≡ true) × (done.outcome.cause ≡ None)) → IsTold h.version rows fresh legal.held.pieces (first + i) c
  file_new left j named rows i c old done within =
      let empty = new_file h before names stood.legal i within in
      file_told h (before ++ Files names ∷ []) fresh mid legal.held empty.run run_new left j named.told named.header named.entries rows (first + i) c old done empty.none

-- ---- the files of the jobs

-- What is told of a file by its job. Where nothing was refused of it, its log was opened for the job, which was that of a whole file
-- and had no cause.
pub record CameOfJob {S : Type 0} (left : S → Option (List ℕ)) (js js' : List (Job S)) (i : ℕ) (c : FileOutcome) : Type 0 where
  pub old : Job S
  pub done : Job S
  pub at : slice_get js i ≡ Some old
  pub at_done : slice_get js' i ≡ Some done
  pub messages : c.messages ≡ done.outcome.messages
  pub whole : c.whole ≡ done.outcome.whole
  pub opened : c.refusal ≡ None → (in_source left old.source ≡ c.log) × (old.is_open ≡ true) × (old.is_part ≡ false) × (done.outcome.cause ≡ None)

pub named_at : (came : List FileOutcome) (names : List (List ℕ)) → map (λ (c : FileOutcome). c.name) came ≡ names → (i : ℕ) (c : FileOutcome) → slice_get came i ≡ Some c → slice_get names i ≡ Some c.name
named_at came names are i c at =
    subst (λ l. slice_get l i ≡ Some c.name) are (slice_get-map (λ (x : FileOutcome). x.name) came i ∙ ap (option_map (λ (x : FileOutcome). x.name)) at)

module _ {S D : Type 0} {d : DiskGhosts D} (left : S → Option (List ℕ)) (h : Header) (before : List JournalEntry) (names : List (List ℕ)) {bytes : List ℕ} (stood : StandsFor bytes h before)
    (j after : Journal D d) (law : IsLawful (d.state after.disk.now)) (named : HasNames h before names (state_of j)) (js js' : List (Job S)) (came : List FileOutcome) (of : AreJobsOf left h.version came (length stood.legal.held.names) js)
    (are : map (λ (c : FileOutcome). c.name) came ≡ names) (each : (i : ℕ) (c : FileOutcome) → slice_get came i ≡ Some c → CameOfJob left js js' i c) where
  -- the jobs were done
  ingested_takes_in : (rows : ℕ) (done : HasIngested left (plan_of rows j) js js' j after) → (t : TakesIn rows h before stood names came (d.state j.disk.now) (d.state after.disk.now)) × (t.added ≡ done.stored.fresh)
  ingested_takes_in rows done =
      let s = done.stored in
      let k = s.left_by.kept in
      let told : tells (state_by d.state done.store) ≡ true = ap (λ (x : D). is_some (d.state x).seen) s.left_by.opened ∙ named.told in
      let version : (plan_of rows j).version ≡ h.version = ap (λ (x : Header). x.version) named.header in
      let grown : journal_of (state_by d.state done.store) ≡ before ++ (Files names ∷ s.fresh) = s.grown ∙ (ap (λ l. l ++ s.fresh) named.entries ∙ append_assoc before (Files names ∷ []) s.fresh) in
      let legal : IsLegal h (before ++ (Files names ∷ s.fresh)) =
      subst (IsLegal h) grown
      (legal_front h (journal_of (state_by d.state done.store)) k.under (subst (λ x. IsLegal x (journal_of (state_by d.state done.store) ++ k.under)) (s.left_by.header ∙ named.header) (of_told (tells (state_by d.state done.store)) told k.legal))) in
      let new : All (IsOfNew h.version came (length stood.legal.held.names)) s.fresh =
      all_of_names left h.version came (length stood.legal.held.names) js of s.fresh s.others (subst (λ v. All (IsTypeGiven left v js) (types_of s.fresh)) version done.types) (subst (λ v. All (IsWordGiven left v js) (words_of s.fresh)) version done.words) in
      taken_in h before names stood s.fresh legal came new rows (d.state j.disk.now) (d.state after.disk.now) (left_leaves h before names j after law named done.store s.left_by s.fresh s.grown) are
      (λ i c at.
      let one = each i c at in
      let its = s.files i one.old one.at in
      let log = of.log i one.old one.at in
      let same : its.0 ≡ one.done = some_is its.0 one.done (sym its.1 ∙ one.at_done) in
      let file : log.0 ≡ c = some_is log.0 c (sym log.1 ∙ at) in
      file_new h before names stood s.fresh legal came new left j named rows i c one.old one.done (slice_get_within names i c.name (named_at came names are i c at)) (of.file i one.old one.at)
      (subst (λ (x : Job S). IsFileOf left (plan_of rows j) j s.fresh one.old x) same its.2) one.messages one.whole (subst (λ (x : FileOutcome). IsLogOf x (in_source left one.old.source)) file log.2)
      (λ spared. let o = one.opened spared in (o.0, o.1, o.3)))
      (λ i c at spared.
      let one = each i c at in
      let its = s.files i one.old one.at in
      let o = one.opened spared in
      one.whole ∙ not_false one.done.outcome.whole (sym (subst (λ (x : Job S). is_some x.outcome.cause ≡ not x.outcome.whole) (some_is its.0 one.done (sym its.1 ∙ one.at_done)) (its.2.cause o.1 o.2)) ∙ ap is_some o.3))
    where
      some_is : {A : Type 0} (x y : A) → Some x ≡ Some y → x ≡ y
      some_is x y e = cc (e)

      not_false : (b : Bool) → not b ≡ false → b ≡ true
      not_false true is = refl
      not_false false is = absurd (cc (is))

  pub ingested_taken : (rows : ℕ) → HasIngested left (plan_of rows j) js js' j after → HasTakenIn rows h before stood names came (state_of j) (state_of after)
  ingested_taken rows done =
      let s = done.stored in
      let t = ingested_takes_in rows done in record {
        takes = t.0;
        entries = left_entries done.store j after s.left_by ∙ (s.grown ∙ (ap (λ l. l ++ s.fresh) named.entries ∙ (append_assoc before (Files names ∷ []) s.fresh ∙ ap (λ (l : List JournalEntry). before ++ (Files names ∷ l)) (sym t.1))));
      }

  -- none of them was begun
  refused_takes_in : (rows : ℕ) → 0 < rows → IsLawful (d.state j.disk.now) → ((c : List ℕ) → (d.state j.disk.now).images c → StandsFor c h (before ++ Files names ∷ [])) → IsLegal h (before ++ Files names ∷ []) → IsAsItWas j after → AreRefused js js'
      → (t : TakesIn rows h before stood names came (d.state j.disk.now) (d.state after.disk.now)) × (t.added ≡ [])
  refused_takes_in rows some law_j only legal stayed refused =
      taken_in h before names stood [] legal came (All-nil (IsOfNew h.version came (length stood.legal.held.names))) rows (d.state j.disk.now) (d.state after.disk.now) (same_leaves h before names j after law named law_j only stayed) are
      (λ i c at.
      let one = each i c at in
      let none = refused.each i one.done one.at_done in
      none_new h before names stood [] legal came (All-nil (IsOfNew h.version came (length stood.legal.held.names))) rows i c some (slice_get_within names i c.name (named_at came names are i c at)) refl
      (one.messages ∙ ap (λ (o : Outcome). o.messages) none) (one.whole ∙ ap (λ (o : Outcome). o.whole) none)
      (λ spared. absurd (cc (sym (ap (λ (o : Outcome). o.cause) none) ∙ (one.opened spared).3))))
      (λ i c at spared. let one = each i c at in absurd (cc (sym (ap (λ (o : Outcome). o.cause) (refused.each i one.done one.at_done)) ∙ (one.opened spared).3)))

  pub refused_taken : (rows : ℕ) → 0 < rows → IsLawful (d.state j.disk.now) → ((c : List ℕ) → (d.state j.disk.now).images c → StandsFor c h (before ++ Files names ∷ [])) → IsLegal h (before ++ Files names ∷ []) → IsAsItWas j after → AreRefused js js'
      → HasTakenIn rows h before stood names came (state_of j) (state_of after)
  refused_taken rows some law_j only legal stayed refused =
      let t = refused_takes_in rows some law_j only legal stayed refused in record {
        takes = t.0;
        entries = stayed_entries j after stayed ∙ (named.entries ∙ ap (λ (l : List JournalEntry). before ++ (Files names ∷ l)) (sym t.1));
      }
