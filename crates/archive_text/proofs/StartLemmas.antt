-- What a source tells when it is made.
use Rattle.std.proofs.Common.{◌≡◌, refl, sym, ap, ap₂, subst, ◌∙◌, ◌+◌, ℕ, Bool, false, not, List, [], ◌∷◌, ◌++◌, Option, None, Some, get_or, drop, arith}
use Rattle.std.specs.Prelude.{◌&&◌, IfSome, slice_get}
use Rattle.std.specs.List.{filter}
use Rattle.std.specs.List.Sorted.{IsNonDecreasingBy}
use Rattle.std.proofs.lemmas.List.{drop_all}
use Rattle.record_format.specs.declared.header.Header.{Header}
use Rattle.column_store.specs.declared.row.Row.{Row}
use Rattle.row_codec.proofs.MeansLemmas.{meaning_is_spelling}
use Rattle.segment_pages.proofs.StandLemmas.{segments_held}
use Rattle.archive_meaning.specs.declared.entry.JournalEntry.{JournalEntry}
use Rattle.archive_meaning.specs.Held.{File, content_of, file_text, messages_of, text_from}
use Rattle.archive_meaning.specs.Stands.{StandsFor}
use Rattle.archive_open.specs.declared.files.FileEntry.{FileEntry}
use Rattle.archive_open.specs.declared.segments.SegmentPlace.{SegmentPlace}
use Rattle.archive_open.specs.Shown.{IsArchiveOf, Opens, Shown, StandsForNone}
use Rattle.sink_pieces.specs.Output.{Took}
use Rattle.archive_open.specs.OfFile.{is_of}
use Rattle.archive_text.specs.Meant.{AreMeant, HoldAll}
use Rattle.archive_text.proofs.HeldLemmas.{entry_of, file_held, file_messages}
use Rattle.archive_text.specs.declared.walk.Walk.{Walk}
use Rattle.archive_text.specs.Ahead.{IsAhead, PagesHold, ahead, text_behind}
use Rattle.archive_text.specs.Decoded.{Decodes}
use Rattle.archive_text.specs.OneText.{one_text}
use Rattle.archive_text.specs.Told.{AreWritten, FileParts, HoldAllWritten, IsText, Tells, TellsFile}
use Rattle.archive_text.specs.Way.{IsOnWay, yet}
use Rattle.archive_text.proofs.PlacesLemmas.{files_rise}
use Rattle.archive_text.proofs.WritingLemmas.{text_first}

-- rows are written as the messages that they mean
written_of : (types words : List (List ℕ)) (rows : List Row) (messages : List (List ℕ)) → AreMeant types words rows messages → AreWritten types words rows messages
written_of types words [] [] all = tt
written_of types words [] (m ∷ messages) all = elim all [ ]
written_of types words (r ∷ rows) [] all = elim all [ ]
written_of types words (r ∷ rows) (m ∷ messages) all = (meaning_is_spelling r types words m all.0, written_of types words rows messages all.1)

all_written : (types words : List (List ℕ)) (places : List SegmentPlace) (bytes : List ℕ) (messages : List (List ℕ)) → HoldAll types words places bytes messages → HoldAllWritten types words places bytes messages
all_written types words [] bytes messages all = all
all_written types words (place ∷ places) bytes messages all = (
  all.0,
  all.1,
  all.2,
  record { rows = all.3.rows; holds = all.3.holds; written = written_of types words all.3.rows all.0 all.3.meant },
  all_written types words places bytes all.1 all.4,
)

-- the file of an archive, by its parts and its entry in the directory
pub record IsFile (a : Shown) (number : ℕ) (f : FileParts) (entry : FileEntry) : Type 0 where
  pub types : f.types ≡ a.kept.types
  pub words : f.words ≡ a.kept.words
  pub places : IsNonDecreasingBy (λ (p : SegmentPlace). p.head.file) a.segments → f.places ≡ filter (is_of number) a.segments
  pub listed : entry ≡ get_or a.files number entry
  pub open_end : f.open_end ≡ (entry.whole && not entry.ended)

module _ (a : Shown) (number : ℕ) (f : FileParts) (entry : FileEntry) (is : IsFile a number f entry) where
  -- where the bytes stand for a journal, they have its file's text
  journal_text : (bytes : List ℕ) (h : Header) (es : List JournalEntry) (stood : StandsFor bytes h es) → IsArchiveOf a h es stood.legal.held → IsText f bytes (text_from f.open_end (messages_of number stood.legal.held.pieces))
  journal_text bytes h es stood archive =
      let messages = messages_of number stood.legal.held.pieces in
      let places = is.places (files_rise a bytes h es stood archive) in
      let held : HoldAll f.types f.words f.places bytes messages =
      subst (λ ps. HoldAll f.types f.words ps bytes messages) (sym places)
      (subst (λ ws. HoldAll f.types ws (filter (is_of number) a.segments) bytes messages) (sym is.words)
      (subst (λ ts. HoldAll ts a.kept.words (filter (is_of number) a.segments) bytes messages) (sym is.types) (file_held bytes h es a number stood segments_held archive))) in
      record { messages = messages; hold = all_written f.types f.words f.places bytes messages held; is = refl }

  -- that is the file's text
  journal_file : (bytes : List ℕ) (h : Header) (es : List JournalEntry) (stood : StandsFor bytes h es) → IsArchiveOf a h es stood.legal.held → (file : File) → slice_get (content_of stood.legal.held) number ≡ Some file
      → text_from f.open_end (messages_of number stood.legal.held.pieces) ≡ file_text file
  journal_file bytes h es stood archive file e =
      let held = stood.legal.held in
      let zero_more : 0 + number ≡ number = omega arith in
      let messages = file_messages 0 held.names held.pieces number file e ∙ ap (λ n. messages_of n held.pieces) zero_more in
      let own = is.listed ∙ (ap (λ l. get_or l number entry) archive.files ∙ entry_of (content_of held) number file entry e) in
      let ends = is.open_end ∙ ap (λ (d : FileEntry). d.whole && not d.ended) own in
      ap₂ text_from ends (sym messages)

  pub tells_file : (seen told : Option (List ℕ)) → Opens seen a → Tells f seen told → TellsFile number seen told
  tells_file None None opened t = refl
  tells_file None (Some text) opened t = absurd (cc t.1)
  tells_file (Some bytes) None opened t = λ h es stood file e. absurd (t bytes _ refl (journal_text bytes h es stood (opened h es stood)))
  tells_file (Some bytes) (Some text) opened t = λ h es stood file e.
      let archive = opened h es stood in
      let same : t.0 ≡ bytes = cc t.1 in
      let one = one_text f bytes text _ (subst (λ b. IsText f b text) same t.2) (journal_text bytes h es stood archive) in
      ap (λ x. Some x) (one ∙ journal_file bytes h es stood archive file e)

  -- where nothing is told, the bytes stand for no journal
  pub untold : (seen told : Option (List ℕ)) → Opens seen a → Tells f seen told → told ≡ None → IfSome seen StandsForNone
  untold None told opened t none = tt
  untold (Some bytes) None opened t none = λ h es stood. t bytes _ refl (journal_text bytes h es stood (opened h es stood))
  untold (Some bytes) (Some text) opened t none = absurd (cc none)

  -- of what a sink took of each text, and where there is none
  pub decodes : (done : Bool) (seen old new : Option (List ℕ)) → Opens seen a → ((bytes text : List ℕ) → seen ≡ Some bytes → IsText f bytes text → Took done old new text) → Decodes done number seen old new
  decodes done None old new opened took = tt
  decodes done (Some bytes) old new opened took = λ h es stood file e.
      let archive = opened h es stood in
      subst (λ t. Took done old new t) (journal_file bytes h es stood archive file e) (took bytes _ refl (journal_text bytes h es stood archive))

  pub no_text : (seen : Option (List ℕ)) → Opens seen a → ((bytes text : List ℕ) → seen ≡ Some bytes → ¬ IsText f bytes text) → IfSome seen StandsForNone
  no_text None opened none = tt
  no_text (Some bytes) opened none = λ h es stood. none bytes _ refl (journal_text bytes h es stood (opened h es stood))

-- before the first segment
pub record IsStart (f : FileParts) (w : Walk) : Type 0 where
  pub rows : w.columns.rows ≡ []
  pub pages : w.pages ≡ None
  pub places : w.places.now ≡ f.places
  pub nothing : w.lines.gathered.items ≡ []
  pub sent : w.lines.sent ≡ 0
  pub given : w.lines.given ≡ 0
  pub begun : w.lines.begun ≡ false
  pub ended : w.ended ≡ false

drop_none : {A : Type 0} (n : ℕ) → ◌≡◌ {A = List A} (drop n []) []
drop_none n = drop_all n [] (omega arith)

pub start_ahead : (f : FileParts) (w : Walk) (bytes text : List ℕ) → IsStart f w → (is : IsText f bytes text) → IsAhead f.types f.words (ahead w) bytes is.messages
start_ahead f w bytes text start is =
    let none : drop w.row w.columns.rows ≡ [] = ap (λ (l : List Row). drop w.row l) start.rows ∙ drop_none w.row in
    record {
      page = [];
      pages = [];
      others = is.messages;
      are = refl;
      in_page = subst (λ rs. AreWritten f.types f.words rs []) (sym none) tt;
      in_pages = subst (λ ps. PagesHold f.types f.words ps bytes []) (sym start.pages) refl;
      in_places = subst (λ ps. HoldAllWritten f.types f.words ps bytes is.messages) (sym start.places) is.hold;
    }

pub start_way : (f : FileParts) (w : Walk) (bytes text : List ℕ) → IsStart f w → IsText f bytes text → IsOnWay f.types f.words f.open_end bytes w text
start_way f w bytes text start is =
    let whole : drop w.lines.given text ≡ text = ap (λ n. drop n text) start.given in
    let empty : drop w.lines.sent w.lines.gathered.items ≡ [] = ap (λ (l : List ℕ). drop w.lines.sent l) start.nothing ∙ drop_none w.lines.sent in
    let rest : yet w.ended f.open_end w.lines.begun is.messages ≡ text_behind f.open_end false is.messages = ap₂ (λ (e b : Bool). yet e f.open_end b is.messages) start.ended start.begun in
    record {
      messages = is.messages;
      ahead = start_ahead f w bytes text start is;
      is = whole ∙ (is.is ∙ (text_first f.open_end is.messages ∙ sym (ap₂ (λ (l r : List ℕ). l ++ r) empty rest)));
    }

-- what is told of the text at the start
pub start_text : (f : FileParts) (w : Walk) (seen told : Option (List ℕ)) → IsStart f w → Tells f seen told
    → (text : List ℕ) → told ≡ Some text → (bytes : List ℕ) × (seen ≡ Some bytes) × IsOnWay f.types f.words f.open_end bytes w text
start_text f w seen None start t text e = absurd (cc e)
start_text f w seen (Some other) start t text e =
    let same : other ≡ text = cc e in
    (t.0, t.1, start_way f w t.0 text start (subst (λ x. IsText f t.0 x) same t.2))
