-- What a refusal of a merge rests on, as it is told.
use Rattle.std.proofs.Common.{◌≡◌, ◌+◌, ◌<◌, ◌≤◌, ◌⊎◌, ⊎_elim, inl, inr, drop, refl, sym, ap, subst, ◌∙◌, ℕ, zero, suc, true, List, [], ◌∷◌, length, Some, arith}
use Rattle.std.specs.Prelude.{is_some, min, slice_get}
use Rattle.std.specs.List.{Contains}
use Rattle.std.proofs.lemmas.List.Elements.{All-weaker}
use mathlib.Core.List.{IsPrefix}
use Rattle.log_seams.specs.declared.disk.Disk.{Ghosts as DiskGhosts}
use Rattle.record_format.specs.declared.header.Header.{Header}
use Rattle.disk_journal.specs.Journal.{state_of}
use Rattle.disk_journal.specs.declared.journal.Journal.{Journal}
use Rattle.row_codec.specs.Means.{AreCanonical}
use Rattle.row_codec.specs.declared.namer.Which.{Which}
use Rattle.row_codec.specs.declared.namer.Which.TheVariants.{Types, Words}
use Rattle.archive_meaning.specs.declared.entry.JournalEntry.{JournalEntry}
use Rattle.archive_meaning.specs.declared.entry.SegmentEntry.{SegmentEntry}
use Rattle.archive_meaning.specs.Held.{Held}
use Rattle.archive_meaning.specs.Spelled.{end_of}
use Rattle.archive_open.specs.Kept.{Kept}
use Rattle.archive_open.specs.Shown.{IsArchiveOf, Shown}
use Rattle.archive_open.specs.declared.files.FileEntry.{FileEntry}
use Rattle.ingest_meaning.specs.Dictionaries.{HasTextsBehind, IsFullBy, book_texts}
use Rattle.ingest_meaning.specs.Room.{needed_behind}
use Rattle.ingest_workers.specs.Ingested.{told_entries}
use Rattle.archive_merge.specs.Behind.{AreOfBoth, IsFullByBoth, LackedRoom, SecondView, old_texts}
use Rattle.archive_merge.specs.Laws.{IsSegmentAt, view_in}
use Rattle.archive_merge.specs.declared.file.Merged.{Merged}
use Rattle.archive_merge.proofs.SealingLemmas.{canonical_long}
use Rattle.file_lines.specs.Directory.{FileLine}
use Rattle.command_answers.specs.Merging.{IsFullOfBoth, LacksRoom, Merge, texts_held}
use Rattle.merge_command.specs.Came.{lines_by, name_in}
use Rattle.file_outcomes.proofs.LeavesLemmas.{of_told}

-- ---- texts

-- the texts of the second archive are those that its journal holds
pub texts_same : (s : SecondView) (b : Shown) (bytes : List ℕ) (g : Header) (es : List JournalEntry) (other : Held) → s ≡ view_in bytes b → IsArchiveOf b g es other → (book : Which) → old_texts s book ≡ texts_held book other
texts_same s b bytes g es other view is Types = ap (λ (v : SecondView). v.texts.types) view ∙ ap (λ (k : Kept). k.types) is.kept
texts_same s b bytes g es other view is Words = ap (λ (v : SecondView). v.texts.words) view ∙ ap (λ (k : Kept). k.words) is.kept

-- what is said of texts, where they are also of a wider kind
full_wider : (P Q next next' : List ℕ → Type 0) (count : ℕ) → ((t : List ℕ) → P t → Q t) → ((t : List ℕ) → next t → next' t) → IsFullBy P next count → IsFullBy Q next' count
full_wider P Q next next' count wider wider_next full = record {
  texts = full.texts;
  all = full.all;
  distinct = full.distinct;
  each = All-weaker P Q wider full.texts full.each;
  text = full.text;
  is = wider_next full.text full.is;
  new = full.new;
}

behind_wider : (P Q : List ℕ → Type 0) (first texts : List (List ℕ)) → ((t : List ℕ) → P t → Q t) → HasTextsBehind P first texts → HasTextsBehind Q first texts
behind_wider P Q first texts wider has = record { begins = has.begins; distinct = has.distinct; others = All-weaker P Q wider (drop (length first) texts) has.others }

module _ {D : Type 0} {d : DiskGhosts D} (s : SecondView) (h : Header) (before : List JournalEntry) (j after : Journal D d) (told : is_some (state_of j).disk.seen ≡ true) (header : j.header ≡ h) (entries : told_entries (state_of j) ≡ before)
    (es : List JournalEntry) (left : told_entries (state_of after) ≡ es) (other : Held) (texts : (book : Which) → old_texts s book ≡ texts_held book other)
    (needs needs' : Which → List ℕ → Type 0) (needed : (book : Which) (t : List ℕ) → needs book t → needs' book t) where
  -- a dictionary that is full
  pub full_of_both : (book : Which) (count : ℕ) → IsFullByBoth needs s j book count → IsFullOfBoth needs' h before other book count
  full_of_both book count full =
      let was = of_told (is_some (state_of j).disk.seen) told full in
      subst (λ es. IsFullOfBoth needs' h es other book count) entries
      (subst (λ x. IsFullOfBoth needs' x (told_entries (state_of j)) other book count) header (
        was.0,
        full_wider _ _ _ _ count (λ t. ⊎_elim (λ (a : Contains (book_texts book (told_entries (state_of j))) t). inl a) (λ (b : needs book t). inr (needed book t b)))
            (λ t a. (subst (λ ts. Contains ts t) (texts book) a.0, a.1)) was.1,
      ))

  -- a segment that does not fit, which is this one of the second archive's journal
  pub lacks_room : (bytes : List ℕ) → s.told ≡ Some bytes → s.version ≡ h.version → (next : SegmentEntry) (first file done number end need : ℕ) → file ≡ number → h.length_limit < end + need
      → (lacked : LackedRoom (AreOfBoth needs) s first file done j after end need) → IsSegmentAt bytes lacked.place next → LacksRoom needs' h before es other number next end need
  lacks_room bytes told_is version next first file done number end need same past lacked at = record {
    front = lacked.front;
    begins = (subst (λ l. IsPrefix l lacked.front) entries lacked.between.0, subst (λ l. IsPrefix lacked.front l) left lacked.between.1);
    ends = subst (λ x. end ≡ end_of x lacked.front) header lacked.ends;
    past = past;
    texts = in_book;
    are = are;
    segment = lacked.segment;
    same = record {
      file = lacked.file_is ∙ same;
      first = lacked.at ∙ at.first;
      rows = omega (
        arith,
        canonical_long s.version lacked.segment.rows lacked.types lacked.words lacked.messages lacked.canonical,
        canonical_long s.version lacked.rows s.texts.types s.texts.words lacked.messages lacked.source.0,
        ap length rows_are,
      );
      marks = (lacked.marks.0 ∙ at.marks.0, lacked.marks.1 ∙ at.marks.1);
    };
    messages = lacked.messages;
    were = subst (λ v. AreCanonical v next.rows other.types other.words lacked.messages) version
        (subst (λ ts. AreCanonical s.version next.rows ts other.words lacked.messages) (texts Types)
        (subst (λ ts. AreCanonical s.version next.rows s.texts.types ts lacked.messages) (texts Words)
        (subst (λ l. AreCanonical s.version l s.texts.types s.texts.words lacked.messages) (sym rows_are) lacked.source.0)));
    canonical = subst (λ v. AreCanonical v lacked.segment.rows lacked.types lacked.words lacked.messages) version lacked.canonical;
    needs = lacked.needs ∙ ap (λ ns. min (needed_behind lacked.segment ns lacked.front lacked.types lacked.words) 18446744073709551615) lacked.numbers_are;
  }
    where
      rows_are : next.rows ≡ lacked.rows
      rows_are = lacked.rows_are bytes next.rows told_is at.holds

      in_book : Which → List (List ℕ)
      in_book Types = lacked.types
      in_book Words = lacked.words

      are : (book : Which) → HasTextsBehind (needs' book) (book_texts book lacked.front) (in_book book)
      are Types = behind_wider (needs Types) (needs' Types) (book_texts Types lacked.front) lacked.types (needed Types) lacked.has_types
      are Words = behind_wider (needs Words) (needs' Words) (book_texts Words lacked.front) lacked.words (needed Words) lacked.has_words

-- ---- the file that stopped a merge

-- there is a line of each new file, with its name and its count
pub line_at : (files : List FileEntry) (ms : List Merged) (place : ℕ) (m : Merged) → length ms ≤ length files → slice_get ms place ≡ Some m
    → (line : FileLine) × (slice_get (lines_by files ms) place ≡ Some line) × (line.name ≡ name_in (slice_get files place)) × (line.messages ≡ m.messages)
line_at files [] place m few at = absurd (cc (at))
line_at [] (x ∷ ms) place m few at = absurd (omega (arith, few))
line_at (f ∷ files) (x ∷ ms) zero m few at =
    let same : x ≡ m = cc (at) in
    (record { name = f.name; messages = x.messages; whole = x.whole }, refl, refl, ap (λ (y : Merged). y.messages) same)
line_at (f ∷ files) (x ∷ ms) (suc place) m few at = line_at files ms place m (omega (arith, few)) at

-- so there is one in what is told
pub line_told : (files : List FileEntry) (ms : List Merged) → length ms ≤ length files → (m : Merge) → m.files ≡ lines_by files ms → (i : ℕ) (x : Merged) → slice_get ms i ≡ Some x
    → (line : FileLine) × (slice_get m.files i ≡ Some line) × (line.messages ≡ x.messages)
line_told files ms few m are i x at = let l = line_at files ms i x few at in (l.0, ap (λ ls. slice_get ls i) are ∙ l.1, l.3)
