-- The segments of files that were merged, beside those of the second archive's journal.
use Rattle.std.proofs.Common.{◌≡◌, ◌+◌, arith, subst, ◌∙◌, ℕ, List, [], ◌∷◌, Some}
use Rattle.std.specs.Prelude.{slice_get}
use Rattle.std.specs.List.{AllZip}
use Rattle.record_format.specs.declared.header.Header.{Header}
use Rattle.row_codec.specs.declared.namer.Which.{Which}
use Rattle.row_codec.specs.declared.namer.Which.TheVariants.{Types, Words}
use Rattle.archive_meaning.specs.declared.entry.JournalEntry.{JournalEntry}
use Rattle.archive_meaning.specs.declared.entry.SegmentEntry.{SegmentEntry}
use Rattle.archive_meaning.specs.Stands.{StandsFor}
use Rattle.archive_open.specs.Shown.{IsArchiveOf, Shown}
use Rattle.archive_open.specs.declared.segments.SegmentPlace.{SegmentPlace}
use Rattle.archive_merge.specs.Behind.{SecondView, needed_of}
use Rattle.archive_merge.specs.Files.{AreCutAs}
use Rattle.archive_merge.specs.Laws.{FilesAreRuns, IsSegmentAt, SegmentsAreTheirs, view_in}
use Rattle.archive_merge.specs.declared.file.Merged.{Merged}
use Rattle.archive_merge.proofs.NeededLemmas.{needed_type, needed_word}
use Rattle.file_lines.specs.Directory.{FileLine}
use Rattle.command_answers.specs.Merging.{AreSegmentsAs, IsNeeded, Merge}

module _ (runs : FilesAreRuns) (theirs : SegmentsAreTheirs) (s : SecondView) (b : Shown) (bytes : List ℕ) (g : Header) (es : List JournalEntry) (stood : StandsFor bytes g es) (view : s ≡ view_in bytes b) (shown : IsArchiveOf b g es stood.legal.held)
    (first done : ℕ) (ms : List Merged) (numbers : (i : ℕ) (x : Merged) → slice_get ms i ≡ Some x → x.file ≡ first + i)
    (m : Merge) (lines : (i : ℕ) (x : Merged) → slice_get ms i ≡ Some x → (line : FileLine) × (slice_get m.files i ≡ Some line) × (line.messages ≡ x.messages)) where
  -- what rows of the archive need that were reached, rows of its journal's segments need that were
  pub needed_theirs : (book : Which) (text : List ℕ) → needed_of s first done ms book text → IsNeeded m done es stood.legal.held book text
  needed_theirs Types text needs =
      let (file, x, told, upto, own, there, within, row) = needed_type runs theirs b bytes g es stood shown first done ms numbers text (subst (λ v. needed_of v first done ms Types text) view needs) in
      let l = lines file x told in let count = l.2 in
      (file, own, there, upto, l.0, l.1, omega (arith, within, count), row.0, row.1, row.2)
  needed_theirs Words text needs =
      let (file, x, told, upto, own, there, within, row) = needed_word runs theirs b bytes g es stood shown first done ms numbers text (subst (λ v. needed_of v first done ms Words text) view needs) in
      let l = lines file x told in let count = l.2 in
      (file, own, there, upto, l.0, l.1, omega (arith, within, count), row.0, row.1, row.2)

-- segments that are as those at places are as the journal's
pub cuts_theirs : (bytes : List ℕ) (number : ℕ) (places : List SegmentPlace) (were ss : List SegmentEntry) → AllZip (IsSegmentAt bytes) places were → AreCutAs number places ss → AreSegmentsAs number were ss
cuts_theirs bytes number places were [] theirs cuts = tt
cuts_theirs bytes number [] were (s ∷ ss) theirs cuts = absurd cuts
cuts_theirs bytes number (p ∷ places) [] (s ∷ ss) theirs cuts = absurd theirs
cuts_theirs bytes number (p ∷ places) (was ∷ were) (s ∷ ss) theirs cuts = (
  record {
    file = cuts.0.file;
    first = cuts.0.first ∙ theirs.0.first;
    rows = cuts.0.rows ∙ theirs.0.rows;
    marks = (cuts.0.marks.0 ∙ theirs.0.marks.0, cuts.0.marks.1 ∙ theirs.0.marks.1);
  },
  cuts_theirs bytes number places were ss theirs.1 cuts.1,
)
