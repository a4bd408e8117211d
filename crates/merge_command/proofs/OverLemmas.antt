-- The files of a second archive behind those of an archive, as they are told.
use Rattle.std.proofs.Common.{◌≡◌, ◌+◌, ◌<◌, ◌≤◌, ◌&&◌, ◌⊎◌, inl, inr, refl, sym, ap, subst, ◌∙◌, ℕ, zero, suc, true, List, [], ◌∷◌, ◌++◌, length, map, take, Option, Some, None, arith}
use Rattle.std.specs.Prelude.{All, IfSome, is_some, slice_get}
use Rattle.std.specs.List.{filter_map}
use Rattle.std.proofs.lemmas.Option.{slice_get_within}
use Rattle.std.proofs.lemmas.List.{length-map, nil_from_length, take_all}
use Rattle.std.proofs.lemmas.List.Elements.{All-weaker}
use mathlib.Core.List.{IsPrefix}
use Rattle.log_seams.specs.Disk.{DiskState}
use Rattle.record_format.specs.declared.header.Header.{Header}
use Rattle.disk_journal.specs.State.{JournalState}
use Rattle.archive_meaning.specs.declared.entry.JournalEntry.{JournalEntry}
use Rattle.archive_meaning.specs.declared.entry.JournalEntry.TheVariants.{Files, Types, Words, Segment}
use Rattle.archive_meaning.specs.Held.{File, Held, Piece, content_of, files_from, is_whole, messages_of}
use Rattle.archive_meaning.specs.Stands.{IsLegal, StandsFor}
use Rattle.archive_meaning.proofs.UniqueLemmas.{legal_front}
use Rattle.archive_open.specs.Shown.{IsArchiveOf, Opens, Shown, counted}
use Rattle.archive_open.specs.declared.files.FileEntry.{FileEntry}
use Rattle.ingest_meaning.specs.Parts.{in_file}
use Rattle.ingest_workers.specs.Ingested.{told_entries}
use Rattle.ingest_workers.specs.Journal.{FrontHolds}
use Rattle.search_meaning.specs.Journal.{OfJournal}
use Rattle.archive_merge.specs.Behind.{HasRun, IsOfFiles, SecondView, places_for}
use Rattle.archive_merge.specs.Files.{AreCutAs}
use Rattle.archive_merge.specs.Laws.{FilesAreRuns, SegmentsAreTheirs, view_in}
use Rattle.archive_merge.specs.Left.{LeavesEntries}
use Rattle.archive_merge.specs.Merging.{IsMergedFile}
use Rattle.archive_merge.specs.Named.{AreNamesOf, names_of}
use Rattle.archive_merge.specs.Runs.{SoFar, held_of}
use Rattle.archive_merge.specs.declared.file.Merged.{Merged}
use Rattle.command_answers.specs.Ingested.{LeavesJournal}
use Rattle.command_answers.specs.Merging.{AreFrontsOf, AreSegmentsAs}
use Rattle.merge_command.specs.Came.{lines_by}
use Rattle.file_outcomes.proofs.LeavesLemmas.{of_told}
use Rattle.file_outcomes.proofs.PieceLemmas.{HoldsOf, IsNewFrom}
use Rattle.merge_command.proofs.ContentLemmas.{IsFrontAt, IsNoneAt, IsSameAt, all_same, content_is, fronts_are, holds, line_of_held, told_lines}
use Rattle.file_outcomes.proofs.AppendLemmas.{length-files}
use Rattle.merge_command.proofs.SegmentLemmas.{cuts_theirs}

-- ---- what the disk is left with

-- the same, as the answers tell it
pub leaves_journal : (h : Header) (before es : List JournalEntry) (old new : DiskState) → LeavesEntries h before es old new → LeavesJournal h before es old new
leaves_journal h before es old new left = record {
  tail = left.tail;
  one = left.one;
  none = left.none;
  reads = left.reads;
  now = left.now;
  since = left.since;
}

-- the entries that are left make a legal archive
pub legal_left : (h : Header) (before es : List JournalEntry) (old new : DiskState) → is_some new.seen ≡ true → LeavesEntries h before es old new → IsLegal h es
legal_left h before es old new told left = go new.seen told left.reads
  where
    go : (seen : Option (List ℕ)) → is_some seen ≡ true → IfSome seen (λ bytes. StandsFor bytes h es ⊎ StandsFor bytes h (es ++ left.tail)) → IsLegal h es
    go None some reads = absurd (cc (some))
    go (Some bytes) some (inl stands) = stands.legal
    go (Some bytes) some (inr stands) = legal_front h es left.tail stands.legal

-- ---- the new entries

-- segments of files that are numbered on from the first are those of new files
new_from : (first : ℕ) (files : List Merged) → ((i : ℕ) (file : Merged) → slice_get files i ≡ Some file → file.file ≡ first + i) → (e : JournalEntry) → IsOfFiles files e → IsNewFrom first e
new_from first files numbers (Files names) is = is
new_from first files numbers (Types number texts) is = tt
new_from first files numbers (Words number texts) is = tt
new_from first files numbers (Segment s) is = omega (arith, numbers is.0 is.1 is.2, is.3)

pub all_new : (first : ℕ) (files : List Merged) (es : List JournalEntry) → ((i : ℕ) (file : Merged) → slice_get files i ≡ Some file → file.file ≡ first + i) → All (IsOfFiles files) es → All (IsNewFrom first) es
all_new first files es numbers each = All-weaker (IsOfFiles files) (IsNewFrom first) (new_from first files numbers) es each

-- ---- the second archive

-- the names of the files of an archive that a journal holds are the journal's
names_held : (k : ℕ) (names : List (List ℕ)) (ps : List Piece) → map (λ (f : FileEntry). f.name) (map counted (files_from k names ps)) ≡ names
names_held k [] ps = refl
names_held k (name ∷ names) ps = ap (λ ns. name ∷ ns) (names_held (k + 1) names ps)

pub names_shown : (b : Shown) (h : Header) (es : List JournalEntry) (held : Held) → IsArchiveOf b h es held → names_of b.files ≡ held.names
names_shown b h es held is = ap names_of is.files ∙ names_held 0 held.names held.pieces

-- there is one at each place
at_place : {A : Type 0} (xs : List A) (i : ℕ) → i < length xs → (x : A) × (slice_get xs i ≡ Some x)
at_place [] i within = absurd (omega (arith, within))
at_place (x ∷ xs) zero within = (x, refl)
at_place (x ∷ xs) (suc i) within = at_place xs i (omega (arith, within))

zero_plus : (i : ℕ) → i ≡ 0 + i
zero_plus i = omega arith

-- ---- what was merged, where the journal is told

module _ (runs : FilesAreRuns) (s : SecondView) (b : Shown) (opens : Opens s.told b) (view : (bytes : List ℕ) → s.told ≡ Some bytes → s ≡ view_in bytes b)
    (h : Header) (before naming fresh : List JournalEntry) {bytes : List ℕ} (stood : StandsFor bytes h before) (ms : List Merged) (few : length ms ≤ length b.files)
    (named : AreNamesOf naming (take (length ms) (names_of b.files))) (legal : IsLegal h (before ++ (naming ++ fresh)))
    (new : All (IsNewFrom (length stood.legal.held.names)) fresh)
    (j : JournalState) (told : is_some j.disk.seen ≡ true) (header : j.header ≡ h) (entries : told_entries j ≡ before)
    (done : ℕ) (numbers : (i : ℕ) (m : Merged) → slice_get ms i ≡ Some m → m.file ≡ length stood.legal.held.names + i)
    (each : (i : ℕ) (m : Merged) → slice_get ms i ≡ Some m → IsMergedFile s i done j (naming ++ fresh) m) where
  abbrev first : ℕ
  first = length stood.legal.held.names

  abbrev names : List (List ℕ)
  names = take (length ms) (names_of b.files)

  abbrev pub pieces : List Piece
  pieces = legal.held.pieces

  abbrev pub files : List File
  files = files_from first names pieces

  length-names : length names ≡ length ms
  length-names = taken (length ms) (names_of b.files) (omega (arith, few, length-map b.files (λ (f : FileEntry). f.name)))
    where
      taken : (n : ℕ) (xs : List (List ℕ)) → n ≤ length xs → length (take n xs) ≡ n
      taken zero xs low = refl
      taken (suc n) [] low = absurd (omega (arith, low))
      taken (suc n) (x ∷ xs) low = ap suc (taken n xs (omega (arith, low)))

  -- what is held of the file at a place
  held_at : (i : ℕ) (m : Merged) (at : slice_get ms i ≡ Some m) → HoldsOf (first + i) pieces (each i m at).covered m.whole (m.whole && (each i m at).ended)
  held_at i m at =
      let f = each i m at in
      let number = numbers i m at in
      holds h before naming fresh names stood named legal new i (omega (arith, slice_get_within ms i m at, length-names)) f.covered m.whole f.ended f.segments f.rows_count f.last_is f.ended_is
      (subst (λ n. filter_map (in_file n) (naming ++ fresh) ≡ f.segments) number (of_told (is_some j.disk.seen) told f.sealed))
      (subst (λ n. FrontHolds h (before ++ (naming ++ fresh)) n f.covered m.whole (m.whole && f.ended)) number
      (subst (λ es. FrontHolds h (es ++ (naming ++ fresh)) m.file f.covered m.whole (m.whole && f.ended)) entries
      (subst (λ x. FrontHolds x (told_entries j ++ (naming ++ fresh)) m.file f.covered m.whole (m.whole && f.ended)) header
      (of_told (is_some j.disk.seen) told f.held))))

  pub content : (image : List ℕ) (stands : StandsFor image h (before ++ (naming ++ fresh))) → content_of stands.legal.held ≡ content_of stood.legal.held ++ files
  content = content_is h before naming fresh names stood named legal new

  pub lines : lines_by b.files ms ≡ map line_of_held files
  lines =
      subst (λ n. lines_by b.files ms ≡ map line_of_held (files_from n names pieces)) (omega arith)
      (told_lines first pieces 0 b.files ms few
      (λ i m at. let f = each i m at in let is = held_at i m at in
      subst (λ n. (m.messages ≡ length (messages_of (first + n) pieces)) × (m.whole ≡ is_whole (first + n) pieces)) (zero_plus i) (f.count ∙ sym (ap length is.messages), sym is.whole_is)))

  -- the file of the second archive at a place, where its bytes stand for a journal
  run_at : (bytes : List ℕ) → s.told ≡ Some bytes → (g : Header) (es : List JournalEntry) (other : StandsFor bytes g es) → IsArchiveOf b g es other.legal.held → (i : ℕ) → HasRun s i (held_of i other.legal.held)
  run_at bytes told_is g es other is i = subst (λ v. HasRun v i (held_of i other.legal.held)) (sym (view bytes told_is)) (runs bytes g es b i other is)

  -- a file that is done is that of the second archive
  same_at : (image : List ℕ) → s.told ≡ Some image → (g : Header) (es : List JournalEntry) (other : StandsFor image g es) → IsArchiveOf b g es other.legal.held → (i : ℕ) (m : Merged) → slice_get ms i ≡ Some m → i < done
      → IsSameAt pieces other.legal.held.pieces (first + i) i
  same_at image told_is g es other is i m at low =
      let f = each i m at in
      let held = held_at i m at in
      let full : held_of i other.legal.held ≡ record { messages = f.covered; whole = m.whole; ended = m.whole && f.ended } = f.all low (held_of i other.legal.held) (run_at image told_is g es other is i) in record {
        messages = held.messages ∙ sym (ap (λ (x : SoFar). x.messages) full);
        whole_is = held.whole_is ∙ sym (ap (λ (x : SoFar). x.whole) full);
        ended_is = held.ended_is ∙ sym (ap (λ (x : SoFar). x.ended) full);
      }

  -- another has first messages of it, and is a part
  front_at : (image : List ℕ) → s.told ≡ Some image → (g : Header) (es : List JournalEntry) (other : StandsFor image g es) → IsArchiveOf b g es other.legal.held → (i : ℕ) (m : Merged) → slice_get ms i ≡ Some m → done ≤ i
      → IsFrontAt pieces other.legal.held.pieces (first + i) i
  front_at image told_is g es other is i m at many =
      let f = each i m at in
      let held = held_at i m at in
      let run = run_at image told_is g es other is i in
      let part = f.part many (held_of i other.legal.held) run in record {
        messages = subst (λ l. IsPrefix l (messages_of i other.legal.held.pieces)) (sym held.messages) (f.first_ones (held_of i other.legal.held) run);
        part = (held.whole_is ∙ part, held.ended_is ∙ ap (λ b. b && f.ended) part);
      }

  -- and behind the first of these there is nothing
  none_at : (i : ℕ) (m : Merged) → slice_get ms i ≡ Some m → done < i → IsNoneAt pieces (first + i)
  none_at i m at many =
      let f = each i m at in
      let held = held_at i m at in
      let none = f.none many in record {
        messages = held.messages ∙ nil_from_length f.covered (sym f.count ∙ none.0);
        part = (held.whole_is ∙ none.1, held.ended_is ∙ ap (λ b. b && f.ended) none.1);
      }

  pub fronts : OfJournal s.told (λ g es other. AreFrontsOf done (content_of other) files)
  fronts = go s.told refl opens
    where
      go : (seen : Option (List ℕ)) → s.told ≡ seen → Opens seen b → OfJournal seen (λ g es other. AreFrontsOf done (content_of other) files)
      go None told_is opened = tt
      go (Some image) told_is opened = λ g es other.
          let is = opened g es other in
          let same : names_of b.files ≡ other.legal.held.names = names_shown b g es other.legal.held is in
          let theirs : List Piece = other.legal.held.pieces in
          subst (λ n. AreFrontsOf done (content_of other.legal.held) (files_from n names pieces)) (omega arith)
          (subst (λ ns. AreFrontsOf done (content_of other.legal.held) (files_from (first + 0) (take (length ms) ns) pieces)) (sym same)
          (fronts_are first pieces theirs 0 (length ms) done other.legal.held.names
          (omega (arith, few, ap length same, length-map b.files (λ (f : FileEntry). f.name)))
          (λ i less low. let m = at_place ms i less in subst (λ n. IsSameAt pieces theirs (first + n) n) (zero_plus i) (same_at image told_is g es other is i m.0 m.1 low))
          (λ i less many. let m = at_place ms i less in subst (λ n. IsFrontAt pieces theirs (first + n) n) (zero_plus i) (front_at image told_is g es other is i m.0 m.1 many))
          (λ i less many. let m = at_place ms i less in subst (λ n. IsNoneAt pieces (first + n)) (zero_plus i) (none_at i m.0 m.1 many))))

  -- the segments of each are as the first ones there
  pub cuts : SegmentsAreTheirs → OfJournal s.told (λ g es other. (i : ℕ) → i < length files → AreSegmentsAs (first + i) (filter_map (in_file i) es) (filter_map (in_file (first + i)) (naming ++ fresh)))
  cuts law = go s.told refl opens
    where
      go : (seen : Option (List ℕ)) → s.told ≡ seen → Opens seen b → OfJournal seen (λ g es other. (i : ℕ) → i < length files → AreSegmentsAs (first + i) (filter_map (in_file i) es) (filter_map (in_file (first + i)) (naming ++ fresh)))
      go None told_is opened = tt
      go (Some image) told_is opened = λ g es other i less.
          let is = opened g es other in
          let m = at_place ms i (omega (arith, less, length-files first names pieces, length-names)) in
          let f = each i m.0 m.1 in
          let number = numbers i m.0 m.1 in
          let places : places_for s i ≡ places_for (view_in image b) i = ap (λ v. places_for v i) (view image told_is) in
          let cut = f.cuts (held_of i other.legal.held) (run_at image told_is g es other is i) in
          let here = subst (λ n. AreCutAs n (places_for (view_in image b) i) f.segments) number (subst (λ l. AreCutAs m.0.file l f.segments) places cut) in
          subst (AreSegmentsAs (first + i) (filter_map (in_file i) es)) (sym (of_told (is_some j.disk.seen) told f.sealed) ∙ ap (λ n. filter_map (in_file n) (naming ++ fresh)) number)
          (cuts_theirs image (first + i) (places_for (view_in image b) i) (filter_map (in_file i) es) f.segments (law image g es b i other is) here)

  -- where all was done
  pub whole : length b.files ≤ done → length ms ≡ length b.files → OfJournal s.told (λ g es other. files ≡ content_of other)
  whole finished all = go s.told refl opens
    where
      go : (seen : Option (List ℕ)) → s.told ≡ seen → Opens seen b → OfJournal seen (λ g es other. files ≡ content_of other)
      go None told_is opened = tt
      go (Some image) told_is opened = λ g es other.
          let is = opened g es other in
          let same : names_of b.files ≡ other.legal.held.names = names_shown b g es other.legal.held is in
          let taken : names ≡ other.legal.held.names = take_all (length ms) (names_of b.files) (omega (arith, all, length-map b.files (λ (f : FileEntry). f.name))) ∙ same in
          subst (λ n. files_from n names pieces ≡ content_of other.legal.held) (omega arith)
          (subst (λ ns. files_from (first + 0) ns pieces ≡ content_of other.legal.held) (sym taken)
          (all_same first pieces other.legal.held.pieces 0 other.legal.held.names
          (λ i less.
          let within : i < length ms = omega (arith, less, ap length taken, length-names) in
          let m = at_place ms i within in
          subst (λ n. IsSameAt pieces other.legal.held.pieces (first + n) n) (zero_plus i) (same_at image told_is g es other is i m.0 m.1 (omega (arith, finished, all, within))))))
