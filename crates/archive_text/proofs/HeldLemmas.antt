-- The segments of a file in an opened archive hold the messages of that file, in order.
use Rattle.std.proofs.Common.{◌≡◌, refl, sym, ap, ap₂, subst, ◌∙◌, ◌+◌, ℕ, zero, suc, Bool, true, false, cond, List, [], ◌∷◌, ◌++◌, Some, length, map, get_or, append_assoc, arith}
use Rattle.std.specs.Prelude.{◌==◌, if◌then◌else◌, slice_get}
use Rattle.std.specs.List.{filter}
use Rattle.std.proofs.lemmas.List.{append-nil}
use mathlib.Core.List.{IsPrefix}
use Rattle.record_format.specs.declared.header.Header.{Header}
use Rattle.column_store.specs.declared.row.Row.{Row}
use Rattle.row_codec.specs.Means.{AreCanonical}
use Rattle.row_codec.proofs.MeansLemmas.{canonical_stays}
use Rattle.segment_pages.specs.Laws.{SegmentsAreHeld}
use Rattle.archive_meaning.specs.declared.entry.SegmentEntry.{SegmentEntry}
use Rattle.archive_meaning.specs.declared.entry.JournalEntry.{JournalEntry}
use Rattle.archive_meaning.specs.declared.entry.JournalEntry.TheVariants.{Files, Types, Words, Segment}
use Rattle.archive_meaning.specs.Held.{File, Held, Piece, files_from, messages_of, nothing_held}
use Rattle.archive_meaning.specs.Legal.{Accepts, AddsSegment, Run, piece_of}
use Rattle.archive_meaning.specs.Spelled.{front_of, record_of, types_in, types_of}
use Rattle.archive_meaning.specs.Stands.{StandsFor}
use Rattle.archive_meaning.proofs.JudgeLemmas.{run_types}
use Rattle.archive_open.proofs.NextLemmas.{front_length}
use Rattle.archive_open.proofs.FileOrderLemmas.{file_in_order, front_more, piece_messages, place_in, types_more}
use Rattle.archive_open.specs.OfFile.{is_of}
use Rattle.archive_open.specs.declared.files.FileEntry.{FileEntry}
use Rattle.archive_open.specs.declared.segments.SegmentPlace.{SegmentPlace}
use Rattle.archive_open.specs.Shown.{IsArchiveOf, Shown, counted, places_from, places_of}
use Rattle.archive_text.specs.Meant.{AreMeant, HoldAll, HoldsMessages}

-- ---- runs only add texts

prefix_then : (a b c : List (List ℕ)) → IsPrefix a b → IsPrefix b c → IsPrefix a c
prefix_then a b c f g = (f.0 ++ g.0, sym (append_assoc a f.0 g.0) ∙ (ap (λ l. l ++ g.0) f.1 ∙ g.1))

prefix_same : (a b : List (List ℕ)) → b ≡ a → IsPrefix a b
prefix_same a b e = ([], append-nil a ∙ sym e)

step_words : (h : Header) (old mid : Held) (e : JournalEntry) → Accepts h old e mid → IsPrefix old.words mid.words
step_words h old mid (Files names) a = prefix_same old.words mid.words (ap (λ m. m.words) a)
step_words h old mid (Types first texts) a = prefix_same old.words mid.words (ap (λ m. m.words) a.1)
step_words h old mid (Words first texts) a = (texts, sym (ap (λ m. m.words) a.1))
step_words h old mid (Segment s) a = prefix_same old.words mid.words (ap (λ m. m.words) a.2)

run_words : (h : Header) (old more : Held) (es : List JournalEntry) → Run h old es more → IsPrefix old.words more.words
run_words h old more [] run = prefix_same old.words more.words (ap (λ m. m.words) run)
run_words h old more (e ∷ es) run = prefix_then old.words run.0.words more.words (step_words h old run.0 e run.1) (run_words h run.0 more es run.2)

run_front : (h : Header) (old more : Held) (es : List JournalEntry) → Run h old es more → IsPrefix old.types more.types
run_front h old more es run = (types_of es, sym (run_types h old more es run))

-- ---- the messages

rows_meant : (version : ℕ) (types words more_types more_words : List (List ℕ)) (rows : List Row) (messages : List (List ℕ)) → IsPrefix types more_types → IsPrefix words more_words → AreCanonical version rows types words messages → AreMeant more_types more_words rows messages
rows_meant version types words more_types more_words [] [] f g are = tt
rows_meant version types words more_types more_words [] (m ∷ messages) f g are = elim are [ ]
rows_meant version types words more_types more_words (r ∷ rows) [] f g are = elim are [ ]
rows_meant version types words more_types more_words (r ∷ rows) (m ∷ messages) f g are = (
  (canonical_stays version r types words more_types more_words m f g are.0).means,
  rows_meant version types words more_types more_words rows messages f g are.1,
)

module _ (bytes : List ℕ) (h : Header) (all : List JournalEntry) (stood : StandsFor bytes h all) (held : SegmentsAreHeld) (number : ℕ) where
  abbrev places : ℕ → List (List ℕ) → List JournalEntry → List SegmentPlace
  places at types es = filter (is_of number) (places_from at types es)

  -- what entries add to the messages of the file, their segments hold
  record AddsHeld (at : ℕ) (types : List (List ℕ)) (es : List JournalEntry) (old more : Held) : Type 0 where
    pub messages : List (List ℕ)
    pub are : messages_of number more.pieces ≡ messages_of number old.pieces ++ messages
    pub hold : HoldAll more.types more.words (places at types es) bytes messages

  segment_held : (before after : List JournalEntry) (s : SegmentEntry) (messages : List (List ℕ)) (old mid more : Held) (at : ℕ) (types : List (List ℕ))
      → all ≡ before ++ Segment s ∷ after → AddsSegment h.version old s messages → (mid ≡ record old { pieces = old.pieces ++ piece_of s messages ∷ [] })
      → IsPrefix old.types more.types → IsPrefix old.words more.words → at ≡ length (front_of h before) → types ≡ types_of before
      → AddsHeld (at + 10 + length (record_of types (Segment s)).payload) (types ++ []) after mid more → AddsHeld at types (Segment s ∷ after) old more
  segment_held before after s messages old mid more at types is adds e f g place ts later = by_test (s.file == number) refl
    where
      grown : messages_of number mid.pieces ≡ messages_of number old.pieces ++ (if s.file == number then messages else [])
      grown = ap (λ m. messages_of number m.pieces) e ∙ piece_messages number old.pieces (piece_of s messages)

      next : ℕ
      next = at + 10 + length (record_of types (Segment s)).payload

      here : HoldsMessages more.types more.words (place_in at types s) bytes messages
      here = subst (λ t. HoldsMessages more.types more.words (place_in at t s) bytes messages) (sym ts)
          (subst (λ n. HoldsMessages more.types more.words (place_in n (types_of before) s) bytes messages) (sym place)
          (record {
            rows = s.rows;
            holds = held bytes h all before after s stood is;
            meant = rows_meant h.version old.types old.words more.types more.words s.rows messages f g adds.canonical;
          }))

      by_test : (b : Bool) → (s.file == number) ≡ b → AddsHeld at types (Segment s ∷ after) old more
      by_test true t = record {
        messages = messages ++ later.messages;
        are = later.are ∙ (ap (λ l. l ++ later.messages) (grown ∙ ap (λ b. messages_of number old.pieces ++ (if b then messages else [])) t) ∙ append_assoc (messages_of number old.pieces) messages later.messages);
        hold = subst (λ b. HoldAll more.types more.words (cond b (place_in at types s ∷ places next (types ++ []) after) (places next (types ++ []) after)) bytes (messages ++ later.messages)) (sym t) (messages, later.messages, refl, here, later.hold);
      }
      by_test false t = record {
        messages = later.messages;
        are = later.are ∙ ap (λ l. l ++ later.messages) (grown ∙ (ap (λ b. messages_of number old.pieces ++ (if b then messages else [])) t ∙ append-nil (messages_of number old.pieces)));
        hold = subst (λ b. HoldAll more.types more.words (cond b (place_in at types s ∷ places next (types ++ []) after) (places next (types ++ []) after)) bytes later.messages) (sym t) later.hold;
      }

  held_from : (before es : List JournalEntry) (old more : Held) (at : ℕ) (types : List (List ℕ)) → all ≡ before ++ es → Run h old es more → at ≡ length (front_of h before) → types ≡ types_of before → AddsHeld at types es old more
  held_from before [] old more at types is run place ts = record { messages = []; are = ap (λ m. messages_of number m.pieces) run ∙ sym (append-nil (messages_of number old.pieces)); hold = refl }
  held_from before (e ∷ es) old more at types is run place ts =
      by_entry e is run.1 (run_front h old more (e ∷ es) run) (run_words h old more (e ∷ es) run) (held_from (before ++ e ∷ []) es run.0 more (at + 10 + length (record_of types e).payload) (types ++ types_in e) (is ∙ sym (append_assoc before (e ∷ []) es)) run.2
      (ap₂ (λ n t. n + 10 + length (record_of t e).payload) place ts ∙ sym (front_more h before e)) (ap (λ t. t ++ types_in e) ts ∙ sym (types_more before e)))
    where
      by_entry : (e : JournalEntry) → all ≡ before ++ e ∷ es → Accepts h old e run.0 → IsPrefix old.types more.types → IsPrefix old.words more.words → AddsHeld (at + 10 + length (record_of types e).payload) (types ++ types_in e) es run.0 more → AddsHeld at types (e ∷ es) old more
      by_entry (Files names) is a f g later = record { messages = later.messages; are = later.are ∙ ap (λ m. messages_of number m.pieces ++ later.messages) a; hold = later.hold }
      by_entry (Types first texts) is a f g later = record { messages = later.messages; are = later.are ∙ ap (λ m. messages_of number m.pieces ++ later.messages) a.1; hold = later.hold }
      by_entry (Words first texts) is a f g later = record { messages = later.messages; are = later.are ∙ ap (λ m. messages_of number m.pieces ++ later.messages) a.1; hold = later.hold }
      by_entry (Segment s) is a f g later = segment_held before es s a.0 old run.0 more at types is a.1 a.2 f g place ts later

-- ---- files

-- the segments of a file in the archive of a journal hold the file's messages
pub file_held : (bytes : List ℕ) (h : Header) (es : List JournalEntry) (a : Shown) (number : ℕ) (stood : StandsFor bytes h es) → SegmentsAreHeld → IsArchiveOf a h es stood.legal.held
    → HoldAll a.kept.types a.kept.words (filter (is_of number) a.segments) bytes (messages_of number stood.legal.held.pieces)
file_held bytes h es a number stood law is =
    let held = stood.legal.held in
    let from = held_from bytes h es stood law number [] es nothing_held held 32 [] refl stood.legal.run (sym (front_none h)) refl in
    let sorted = file_in_order h es held a number stood.legal.run is in
    subst (λ l. HoldAll a.kept.types a.kept.words l bytes (messages_of number held.pieces)) (sym sorted)
    (subst (λ m. HoldAll a.kept.types a.kept.words (filter (is_of number) (places_of es)) bytes m) (sym from.are)
    (subst (λ k. HoldAll k.types k.words (filter (is_of number) (places_of es)) bytes from.messages) (sym is.kept) from.hold))
  where
    front_none : (h : Header) → length (front_of h []) ≡ 32
    front_none h = omega (arith, front_length h [])

-- the messages of a file of the content, and what the archive's directory says of it
pub file_messages : (k : ℕ) (names : List (List ℕ)) (ps : List Piece) (i : ℕ) (file : File) → slice_get (files_from k names ps) i ≡ Some file → file.messages ≡ messages_of (k + i) ps
file_messages k [] ps zero file e = absurd cc
file_messages k [] ps (suc i) file e = absurd cc
file_messages k (name ∷ names) ps zero file e =
    let same : k ≡ k + 0 = omega arith in
    ap (λ (f : File). f.messages) (sym (only e)) ∙ ap (λ n. messages_of n ps) same
  where
    only : {A : Type 0} {a b : A} → Some a ≡ Some b → a ≡ b
    only e = cc
file_messages k (name ∷ names) ps (suc i) file e =
    let same : k + 1 + i ≡ k + suc i = omega arith in
    file_messages (k + 1) names ps i file e ∙ ap (λ n. messages_of n ps) same

pub entry_of : (files : List File) (i : ℕ) (file : File) (none : FileEntry) → slice_get files i ≡ Some file → get_or (map counted files) i none ≡ counted file
entry_of [] zero file none e = absurd cc
entry_of [] (suc i) file none e = absurd cc
entry_of (f ∷ files) zero file none e = ap counted (only e)
  where
    only : {A : Type 0} {a b : A} → Some a ≡ Some b → a ≡ b
    only e = cc
entry_of (f ∷ files) (suc i) file none e = entry_of files i file none e
