-- The segments of an opened archive hold the messages of its journal's content, by file and then by number.
use Rattle.std.proofs.Common.{◌≡◌, refl, sym, ap, ap₂, subst, ◌∙◌, ◌+◌, ℕ, zero, suc, Bool, true, false, cond, List, [], ◌∷◌, ◌++◌, Some, length, map, get_or, append_assoc, arith, length-append}
use Rattle.std.specs.Prelude.{◌==◌, if◌then◌else◌, slice_get}
use Rattle.std.specs.List.{filter, flat_map}
use Rattle.std.proofs.lemmas.List.{append-nil}
use Rattle.std.proofs.lemmas.List.Concat.{flat_map-cons}
use Rattle.std.proofs.lemmas.Option.{get_or_from_slice_get}
use mathlib.Core.List.{IsPrefix}
use Rattle.record_format.specs.declared.header.Header.{Header}
use Rattle.column_store.specs.declared.row.Row.{Row}
use Rattle.logtype_text.specs.Parts.{symbol_of}
use Rattle.logtype_text.specs.TypeText.{type_text}
use Rattle.row_codec.specs.Means.{AreCanonical, IsCanonical}
use Rattle.plain_list.specs.Texts.{AreDistinct}
use Rattle.row_codec.specs.Numbers.{kinds_from, numbers_of_row, word_numbers}
use Rattle.row_codec.proofs.MeansLemmas.{canonical_stays, prefix_keeps}
use Rattle.segment_format.specs.Layout.{head_of, sorted_set}
use Rattle.segment_pages.specs.Paged.{HoldsSegment}
use Rattle.segment_pages.proofs.StandLemmas.{segments_held}
use Rattle.archive_meaning.specs.declared.entry.SegmentEntry.{SegmentEntry}
use Rattle.archive_meaning.specs.declared.entry.JournalEntry.{JournalEntry}
use Rattle.archive_meaning.specs.declared.entry.JournalEntry.TheVariants.{Files, Types, Words, Segment}
use Rattle.archive_meaning.specs.Held.{Held, messages_of, nothing_held}
use Rattle.archive_meaning.specs.Legal.{Accepts, AddsSegment, Run, piece_of}
use Rattle.archive_meaning.specs.Spelled.{front_of, record_of, types_in, types_of}
use Rattle.archive_meaning.specs.Stands.{StandsFor}
use Rattle.archive_meaning.proofs.JudgeLemmas.{run_types}
use Rattle.archive_meaning.proofs.LegalLemmas.{types_after}
use Rattle.archive_open.specs.declared.files.FileEntry.{FileEntry}
use Rattle.archive_open.specs.declared.segments.SegmentPlace.{SegmentPlace}
use Rattle.archive_open.specs.OfFile.{is_of}
use Rattle.archive_open.specs.Shown.{head_in, places_from}
use Rattle.archive_open.proofs.FileOrderLemmas.{front_more, piece_messages, place_in, same_file, types_more}
use Rattle.printed_lines.specs.Lines.{numbered}
use Rattle.search_walk.proofs.RowsHeld.{HasRows, HaveRows, texts_of}
use Rattle.printed_lines.proofs.LineLemmas.{numbered_append}

-- ---- runs only add texts

prefix_then : (a b c : List (List ℕ)) → IsPrefix a b → IsPrefix b c → IsPrefix a c
prefix_then a b c f g = (f.0 ++ g.0, sym (append_assoc a f.0 g.0) ∙ (ap (λ l. l ++ g.0) f.1 ∙ g.1))

prefix_same : (a b : List (List ℕ)) → b ≡ a → IsPrefix a b
prefix_same a b e = ([], append-nil a ∙ sym e)

step_words : (h : Header) (old mid : Held) (e : JournalEntry) → Accepts h old e mid → IsPrefix old.words mid.words
step_words h old mid (Files names) a = prefix_same old.words mid.words (ap (λ m. m.words) a)
step_words h old mid (Types first texts) a = prefix_same old.words mid.words (ap (λ m. m.words) a.1)
step_words h old mid (Words first texts) a = (texts, sym (ap (λ m. m.words) a.1))
step_words h old mid (Segment s) a = prefix_same old.words mid.words (ap (λ m. m.words) a.2)

run_words : (h : Header) (old more : Held) (es : List JournalEntry) → Run h old es more → IsPrefix old.words more.words
run_words h old more [] run = prefix_same old.words more.words (ap (λ m. m.words) run)
run_words h old more (e ∷ es) run = prefix_then old.words run.0.words more.words (step_words h old run.0 e run.1) (run_words h run.0 more es run.2)

run_front : (h : Header) (old more : Held) (es : List JournalEntry) → Run h old es more → IsPrefix old.types more.types
run_front h old more es run = (types_of es, sym (run_types h old more es run))

-- no word has two numbers
step_distinct : (h : Header) (old mid : Held) (e : JournalEntry) → AreDistinct old.words → Accepts h old e mid → AreDistinct mid.words
step_distinct h old mid (Files names) distinct a = subst (λ (m : Held). AreDistinct m.words) (sym a) distinct
step_distinct h old mid (Types first texts) distinct a = subst (λ (m : Held). AreDistinct m.words) (sym a.1) distinct
step_distinct h old mid (Words first texts) distinct a = subst (λ (m : Held). AreDistinct m.words) (sym a.1) a.0.book.distinct
step_distinct h old mid (Segment s) distinct a = subst (λ (m : Held). AreDistinct m.words) (sym a.2) distinct

pub run_distinct : (h : Header) (old more : Held) (es : List JournalEntry) → AreDistinct old.words → Run h old es more → AreDistinct more.words
run_distinct h old more [] distinct run = subst (λ (m : Held). AreDistinct m.words) (sym run) distinct
run_distinct h old more (e ∷ es) distinct run = run_distinct h run.0 more es (step_distinct h old run.0 e distinct run.1) run.2

pub nothing_distinct : AreDistinct nothing_held.words
nothing_distinct zero j text one two = absurd (cc (one))
nothing_distinct (suc i) j text one two = absurd (cc (one))

-- ---- the messages

rows_stay : (version : ℕ) (types words more_types more_words : List (List ℕ)) (rows : List Row) (messages : List (List ℕ)) → IsPrefix types more_types → IsPrefix words more_words
    → AreCanonical version rows types words messages → AreCanonical version rows more_types more_words messages
rows_stay version types words more_types more_words [] [] f g are = tt
rows_stay version types words more_types more_words [] (m ∷ messages) f g are = elim are [ ]
rows_stay version types words more_types more_words (r ∷ rows) [] f g are = elim are [ ]
rows_stay version types words more_types more_words (r ∷ rows) (m ∷ messages) f g are = (
  canonical_stays version r types words more_types more_words m f g are.0,
  rows_stay version types words more_types more_words rows messages f g are.1,
)

numbers_stay : (version : ℕ) (row : Row) (types words more_types : List (List ℕ)) (m : List ℕ) → IsPrefix types more_types → IsCanonical version row types words m → numbers_of_row types row ≡ numbers_of_row more_types row
numbers_stay version row types words more_types m f is =
    let text : List ℕ = type_text (map symbol_of is.means.parts) in
    let old : get_or types row.log_type [] ≡ text = get_or_from_slice_get types row.log_type text [] is.means.typed in
    let new : get_or more_types row.log_type [] ≡ text = get_or_from_slice_get more_types row.log_type text [] (prefix_keeps types more_types row.log_type text f is.means.typed) in
    ap (λ t. word_numbers (kinds_from false t) row.words) (old ∙ sym new)

rows_numbers_stay : (version : ℕ) (rows : List Row) (types words more_types messages : List (List ℕ)) → IsPrefix types more_types → AreCanonical version rows types words messages
    → flat_map (numbers_of_row types) rows ≡ flat_map (numbers_of_row more_types) rows
rows_numbers_stay version [] types words more_types messages f are = refl
rows_numbers_stay version (r ∷ rows) types words more_types [] f are = elim are [ ]
rows_numbers_stay version (r ∷ rows) types words more_types (m ∷ messages) f are =
    flat_map-cons (numbers_of_row types) r rows ∙ ap₂ (λ (x y : List ℕ). x ++ y) (numbers_stay version r types words more_types m f are.0) (rows_numbers_stay version rows types words more_types messages f are.1)
    ∙ sym (flat_map-cons (numbers_of_row more_types) r rows)

module _ (bytes : List ℕ) (h : Header) (all : List JournalEntry) (stood : StandsFor bytes h all) (files : List FileEntry) (number : ℕ) (f : FileEntry) (is_file : slice_get files number ≡ Some f) where
  abbrev pub places : ℕ → List (List ℕ) → List JournalEntry → List SegmentPlace
  places at types es = filter (is_of number) (places_from at types es)

  -- what entries add to the messages of the file, their segments hold
  pub record AddsHeld (at : ℕ) (types : List (List ℕ)) (es : List JournalEntry) (old more : Held) : Type 0 where
    pub messages : List (List ℕ)
    pub are : messages_of number more.pieces ≡ messages_of number old.pieces ++ messages
    pub hold : HaveRows bytes (texts_of h more) files (places at types es) (numbered f.name (length (messages_of number old.pieces) + 1) messages)

  segment_held : (before after : List JournalEntry) (s : SegmentEntry) (messages : List (List ℕ)) (old mid more : Held) (at : ℕ) (types : List (List ℕ))
      → all ≡ before ++ Segment s ∷ after → AddsSegment h.version old s messages → (mid ≡ record old { pieces = old.pieces ++ piece_of s messages ∷ [] })
      → IsPrefix old.types more.types → IsPrefix old.words more.words → at ≡ length (front_of h before) → types ≡ types_of before → old.types ≡ types
      → AddsHeld (at + 10 + length (record_of types (Segment s)).payload) (types ++ []) after mid more → AddsHeld at types (Segment s ∷ after) old more
  segment_held before after s messages old mid more at types is adds e g k place ts own later = by_test (s.file == number) refl
    where
      grown : messages_of number mid.pieces ≡ messages_of number old.pieces ++ (if s.file == number then messages else [])
      grown = ap (λ m. messages_of number m.pieces) e ∙ piece_messages number old.pieces (piece_of s messages)

      next : ℕ
      next = at + 10 + length (record_of types (Segment s)).payload

      here : HasRows bytes (texts_of h more) (place_in at types s) messages
      here = record {
        rows = s.rows;
        holds = subst (λ t. HoldsSegment (at + 10) (length (record_of t (Segment s)).payload) (head_in t s) bytes s.rows) (sym ts)
            (subst (λ n. HoldsSegment (n + 10) (length (record_of (types_of before) (Segment s)).payload) (head_in (types_of before) s) bytes s.rows) (sym place) (segments_held bytes h all before after s stood is));
        are = rows_stay h.version old.types old.words more.types more.words s.rows messages g k adds.canonical;
        head = ap (λ ns. head_of s.file s.first s.last s.ended s.rows (sorted_set ns))
            (ap (λ t. flat_map (numbers_of_row t) s.rows) (sym own) ∙ rows_numbers_stay h.version s.rows old.types old.words more.types messages g adds.canonical);
        most = adds.most;
      }

      by_test : (b : Bool) → (s.file == number) ≡ b → AddsHeld at types (Segment s ∷ after) old more
      by_test true t = record {
        messages = messages ++ later.messages;
        are = later.are ∙ (ap (λ l. l ++ later.messages) (grown ∙ ap (λ b. messages_of number old.pieces ++ (if b then messages else [])) t) ∙ append_assoc (messages_of number old.pieces) messages later.messages);
        hold = subst (λ b. HaveRows bytes (texts_of h more) files (cond b (place_in at types s ∷ places next (types ++ []) after) (places next (types ++ []) after)) (numbered f.name (length (messages_of number old.pieces) + 1) (messages ++ later.messages))) (sym t)
            (f, messages, numbered f.name (length (messages_of number mid.pieces) + 1) later.messages, subst (λ n. slice_get files n ≡ Some f) (sym same) is_file, here, later.hold, parts);
      }
        where
          same : s.file ≡ number
          same = same_file s.file number t

          first : s.first ≡ length (messages_of number old.pieces)
          first = adds.first ∙ ap (λ n. length (messages_of n old.pieces)) same

          count : length (messages_of number mid.pieces) ≡ length (messages_of number old.pieces) + length messages
          count = ap length (grown ∙ ap (λ b. messages_of number old.pieces ++ (if b then messages else [])) t) ∙ length-append (messages_of number old.pieces) messages

          parts : numbered f.name (length (messages_of number old.pieces) + 1) (messages ++ later.messages) ≡ numbered f.name (s.first + 1) messages ++ numbered f.name (length (messages_of number mid.pieces) + 1) later.messages
          parts = numbered_append f.name (length (messages_of number old.pieces) + 1) messages later.messages (length (messages_of number mid.pieces) + 1) (omega (arith, count))
              ∙ ap (λ n. numbered f.name (n + 1) messages ++ numbered f.name (length (messages_of number mid.pieces) + 1) later.messages) (sym first)
      by_test false t = record {
        messages = later.messages;
        are = later.are ∙ ap (λ l. l ++ later.messages) same_old;
        hold = subst (λ b. HaveRows bytes (texts_of h more) files (cond b (place_in at types s ∷ places next (types ++ []) after) (places next (types ++ []) after)) (numbered f.name (length (messages_of number old.pieces) + 1) later.messages)) (sym t)
            (subst (λ l. HaveRows bytes (texts_of h more) files (places next (types ++ []) after) (numbered f.name (length l + 1) later.messages)) same_old later.hold);
      }
        where
          same_old : messages_of number mid.pieces ≡ messages_of number old.pieces
          same_old = grown ∙ (ap (λ b. messages_of number old.pieces ++ (if b then messages else [])) t ∙ append-nil (messages_of number old.pieces))

  kept_pieces : (at : ℕ) (types : List (List ℕ)) (es : List JournalEntry) (a b more : Held) → b.pieces ≡ a.pieces → AddsHeld at types es b more → AddsHeld at types es a more
  kept_pieces at types es a b more same adds = record {
    messages = adds.messages;
    are = adds.are ∙ ap (λ p. messages_of number p ++ adds.messages) same;
    hold = subst (λ p. HaveRows bytes (texts_of h more) files (places at types es) (numbered f.name (length (messages_of number p) + 1) adds.messages)) same adds.hold;
  }

  skipped : (at next : ℕ) (types more_types : List (List ℕ)) (e : JournalEntry) (es : List JournalEntry) (old more : Held) → places at types (e ∷ es) ≡ places next more_types es → AddsHeld next more_types es old more → AddsHeld at types (e ∷ es) old more
  skipped at next types more_types e es old more same adds = record {
    messages = adds.messages;
    are = adds.are;
    hold = subst (λ ps. HaveRows bytes (texts_of h more) files ps (numbered f.name (length (messages_of number old.pieces) + 1) adds.messages)) (sym same) adds.hold;
  }

  pub held_from : (before es : List JournalEntry) (old more : Held) (at : ℕ) (types : List (List ℕ)) → all ≡ before ++ es → Run h old es more → at ≡ length (front_of h before) → types ≡ types_of before → old.types ≡ types → AddsHeld at types es old more
  held_from before [] old more at types is run place ts own = record { messages = []; are = ap (λ m. messages_of number m.pieces) run ∙ sym (append-nil (messages_of number old.pieces)); hold = refl }
  held_from before (e ∷ es) old more at types is run place ts own =
      by_entry e is run.1 (run_front h old more (e ∷ es) run) (run_words h old more (e ∷ es) run) (held_from (before ++ e ∷ []) es run.0 more (at + 10 + length (record_of types e).payload) (types ++ types_in e) (is ∙ sym (append_assoc before (e ∷ []) es)) run.2
      (ap₂ (λ n t. n + 10 + length (record_of t e).payload) place ts ∙ sym (front_more h before e)) (ap (λ t. t ++ types_in e) ts ∙ sym (types_more before e)) (types_after h old run.0 e run.1 ∙ ap (λ t. t ++ types_in e) own))
    where
      by_entry : (e : JournalEntry) → all ≡ before ++ e ∷ es → Accepts h old e run.0 → IsPrefix old.types more.types → IsPrefix old.words more.words → AddsHeld (at + 10 + length (record_of types e).payload) (types ++ types_in e) es run.0 more → AddsHeld at types (e ∷ es) old more
      by_entry (Files names) is a g k later = skipped at (at + 10 + length (record_of types (Files names)).payload) types (types ++ types_in (Files names)) (Files names) es old more refl (kept_pieces _ _ es old run.0 more (ap (λ m. m.pieces) a) later)
      by_entry (Types first texts) is a g k later = skipped at (at + 10 + length (record_of types (Types first texts)).payload) types (types ++ types_in (Types first texts)) (Types first texts) es old more refl (kept_pieces _ _ es old run.0 more (ap (λ m. m.pieces) a.1) later)
      by_entry (Words first texts) is a g k later = skipped at (at + 10 + length (record_of types (Words first texts)).payload) types (types ++ types_in (Words first texts)) (Words first texts) es old more refl (kept_pieces _ _ es old run.0 more (ap (λ m. m.pieces) a.1) later)
      by_entry (Segment s) is a g k later = segment_held before es s a.0 old run.0 more at types is a.1 a.2 g k place ts own later
