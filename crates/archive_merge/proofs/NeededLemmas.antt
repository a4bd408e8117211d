-- Texts that rows of an archive need, in its journal.
use Rattle.std.proofs.Common.{◌≡◌, ◌≤◌, ◌+◌, ◌-◌, refl, sym, ap, subst, ℕ, zero, suc, List, [], ◌∷◌, arith, map}
use Rattle.std.specs.Prelude.{Some, slice_get}
use Rattle.std.specs.List.{AllZip, Contains, filter, filter_map, flat_map}
use Rattle.std.proofs.lemmas.List.Elements.{Contains-append_left, Contains-append_right}
use Rattle.record_format.specs.declared.header.Header.{Header}
use Rattle.column_store.specs.declared.row.Row.{Row}
use Rattle.row_codec.specs.declared.namer.Which.{Which}
use Rattle.row_codec.specs.declared.namer.Which.TheVariants.{Types, Words}
use Rattle.row_codec.specs.Numbers.{numbers_of_row}
use Rattle.row_rename.specs.Renamed.{IsTextOfRow}
use Rattle.archive_meaning.specs.declared.entry.JournalEntry.{JournalEntry}
use Rattle.archive_meaning.specs.declared.entry.SegmentEntry.{SegmentEntry}
use Rattle.archive_meaning.specs.Stands.{StandsFor}
use Rattle.archive_open.specs.Kept.{Kept}
use Rattle.archive_open.specs.Shown.{IsArchiveOf, Shown}
use Rattle.archive_open.specs.OfFile.{is_of}
use Rattle.ingest_meaning.specs.Parts.{in_file}
use Rattle.archive_merge.specs.Behind.{needed_of}
use Rattle.archive_merge.specs.Laws.{FilesAreRuns, IsSegmentAt, SegmentsAreTheirs, texts_kept, view_in}
use Rattle.archive_merge.specs.Runs.{IsReached, held_of}
use Rattle.archive_merge.specs.declared.file.Merged.{Merged}

-- ---- among lists made of others

-- what stands in the first list has what stands at its place in the second
pub zip_contains : {A B : Type 0} (R : A → B → Type 0) (xs : List A) (ys : List B) (x : A) → AllZip R xs ys → Contains xs x → (y : B) × Contains ys y × R x y
zip_contains R [] ys x are (k, within, is) = absurd (omega (arith, within))
zip_contains R (z ∷ xs) [] x are there = absurd are
zip_contains {A} {B} R (z ∷ xs) (y ∷ ys) x are (zero, within, is) = (y, (0, omega arith, refl), subst (λ (w : A). R w y) is are.0)
zip_contains R (z ∷ xs) (y ∷ ys) x are (suc k, within, is) =
    let rest = zip_contains R xs ys x are.1 (k, omega (arith, within), is) in
    (rest.0, (suc rest.1.0, omega (arith, rest.1.1), rest.1.2), rest.2)

contains_map : {A B : Type 0} (f : A → B) (xs : List A) (x : A) → Contains xs x → Contains (map f xs) (f x)
contains_map f [] x (k, within, is) = absurd (omega (arith, within))
contains_map f (y ∷ xs) x (zero, within, is) = (0, omega arith, ap f is)
contains_map f (y ∷ xs) x (suc k, within, is) =
    let rest = contains_map f xs x (k, omega (arith, within), is) in
    (suc rest.0, omega (arith, rest.1), rest.2)

contains_flat : {A B : Type 0} (f : A → List B) (xs : List A) (x : A) (y : B) → Contains xs x → Contains (f x) y → Contains (flat_map f xs) y
contains_flat f [] x y (k, within, is) there = absurd (omega (arith, within))
contains_flat f (z ∷ xs) x y (zero, within, is) there = Contains-append_left (f z) (flat_map f xs) y (subst (λ w. Contains (f w) y) (sym is) there)
contains_flat f (z ∷ xs) x y (suc k, within, is) there = Contains-append_right (f z) (flat_map f xs) y (contains_flat f xs x y (k, omega (arith, within), is) there)

-- ---- in the journal

module _ (runs : FilesAreRuns) (theirs : SegmentsAreTheirs) (b : Shown) (bytes : List ℕ) (g : Header) (es : List JournalEntry) (stood : StandsFor bytes g es) (shown : IsArchiveOf b g es stood.legal.held)
    (first done : ℕ) (files : List Merged) (numbers : (i : ℕ) (x : Merged) → slice_get files i ≡ Some x → x.file ≡ first + i) where
  -- a segment of the journal that was reached has a row of such a kind
  abbrev ThereIs : (SegmentEntry → Type 0) → Type 0
  ThereIs P = (file : ℕ) × (x : Merged) × (slice_get files file ≡ Some x) × (file ≤ done) × (s : SegmentEntry) × Contains (filter_map (in_file file) es) s × (s.first ≤ x.messages) × P s

  -- a segment of the journal has the row that needs the text
  in_segment : (book : Which) (text : List ℕ) → needed_of (view_in bytes b) first done files book text
      → ThereIs (λ (s : SegmentEntry). (row : Row) × Contains s.rows row × IsTextOfRow stood.legal.held.types stood.legal.held.words row book text)
  in_segment book text (place, r, is) =
      let file = r.number in
      let run = runs bytes g es b file stood shown in
      let number : r.file.file - first ≡ file = (let at = numbers r.number r.file r.is in omega (arith, at)) in
      let reached = subst (λ n. IsReached b.kept.version (texts_kept b.kept) (filter (is_of n) b.segments) (Some bytes) r.file.messages place) number (r.reached run.sorted) in
      let own = zip_contains (IsSegmentAt bytes) (filter (is_of file) b.segments) (filter_map (in_file file) es) place (theirs bytes g es b file stood shown) reached.there in
      let within = reached.within run.bytes (held_of file stood.legal.held) run.told_is run.run in
      let same = own.2.first in (
        file,
        r.file,
        r.is,
        r.upto,
        own.0,
        own.1,
        omega (arith, within, same),
        (
          is.row,
          is.there bytes own.0.rows refl own.2.holds,
          subst (λ ts. IsTextOfRow ts stood.legal.held.words is.row book text) (ap (λ (k : Kept). k.types) shown.kept)
              (subst (λ ts. IsTextOfRow b.kept.types ts is.row book text) (ap (λ (k : Kept). k.words) shown.kept) is.needs),
        ),
      )

  -- one of its rows has the number of the log type, or of the word
  pub needed_type : (text : List ℕ) → needed_of (view_in bytes b) first done files Types text
      → ThereIs (λ (s : SegmentEntry). (number : ℕ) × Contains (map (λ (r : Row). r.log_type) s.rows) number × (slice_get stood.legal.held.types number ≡ Some text))
  needed_type text needs =
      let (file, x, told, upto, s, there, within, (row, among, at)) = in_segment Types text needs in
      (file, x, told, upto, s, there, within, (row.log_type, contains_map (λ (r : Row). r.log_type) s.rows row among, at))

  pub needed_word : (text : List ℕ) → needed_of (view_in bytes b) first done files Words text
      → ThereIs (λ (s : SegmentEntry). (number : ℕ) × Contains (flat_map (numbers_of_row stood.legal.held.types) s.rows) number × (slice_get stood.legal.held.words number ≡ Some text))
  needed_word text needs =
      let (file, x, told, upto, s, there, within, (row, among, (number, numbered, at))) = in_segment Words text needs in
      (file, x, told, upto, s, there, within, (number, contains_flat (numbers_of_row stood.legal.held.types) s.rows row number among numbered, at))
