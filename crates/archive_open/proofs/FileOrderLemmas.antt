-- The segments of a file in an opened archive stand in the order of its journal.
use Rattle.std.proofs.Common.{◌≡◌, refl, sym, ap, ap₂, subst, ◌∙◌, ◌+◌, ◌*◌, ◌^◌, ℕ, Bool, true, false, cond, List, [], ◌∷◌, ◌++◌, length, append_assoc, arith, length-append}
use Rattle.std.specs.Prelude.{◌==◌, ◌||◌, ◌&&◌, if◌then◌else◌}
use Rattle.std.specs.List.{filter}
use Rattle.std.proofs.lemmas.List.{append-nil}
use Rattle.std.proofs.lemmas.Slice.Zip.{AllZip-long}
use Rattle.record_format.specs.declared.header.Header.{Header}
use Rattle.archive_meaning.specs.declared.entry.SegmentEntry.{SegmentEntry}
use Rattle.archive_meaning.specs.declared.entry.JournalEntry.{JournalEntry}
use Rattle.archive_meaning.specs.declared.entry.JournalEntry.TheVariants.{Files, Types, Words, Segment}
use Rattle.archive_meaning.specs.Held.{Held, Piece, is_whole, messages_of, nothing_held}
use Rattle.archive_meaning.specs.Legal.{Accepts, AddsSegment, Run, piece_of}
use Rattle.archive_meaning.specs.Spelled.{front_of, record_of, types_in, types_of}
use Rattle.archive_meaning.proofs.JudgeLemmas.{end_more}
use Rattle.archive_meaning.proofs.SumsLemmas.{messages_joined, whole_joined}
use Rattle.archive_open.specs.declared.segments.SegmentPlace.{SegmentPlace}
use Rattle.archive_open.specs.OfFile.{is_of}
use Rattle.archive_open.specs.Shown.{IsArchiveOf, Shown, head_in, order_of, places_from, places_of}
use Rattle.archive_open.proofs.SortedLemmas.{AreAbove, AreAtLeast, Rise, above_from, least_lower, sorted_filter}

-- ---- pieces

pub piece_messages : (number : ℕ) (ps : List Piece) (p : Piece) → messages_of number (ps ++ p ∷ []) ≡ messages_of number ps ++ (if p.file == number then p.messages else [])
piece_messages number ps p = messages_joined number ps (p ∷ []) ∙ ap (λ l. messages_of number ps ++ l) (append-nil _)

pub or_false : (b : Bool) → b || false ≡ b
or_false true = refl
or_false false = refl

pub piece_whole : (number : ℕ) (ps : List Piece) (p : Piece) → is_whole number (ps ++ p ∷ []) ≡ is_whole number ps || (p.file == number && p.last)
piece_whole number ps p = whole_joined number ps (p ∷ []) ∙ ap (λ b. is_whole number ps || b) (or_false _)

pub same_file : (a b : ℕ) → (a == b) ≡ true → a ≡ b
same_file a b e = grind (arith, e)

-- ---- where entries stand

types_joined : (es fs : List JournalEntry) → types_of (es ++ fs) ≡ types_of es ++ types_of fs
types_joined [] fs = refl
types_joined (e ∷ es) fs = ap (λ l. types_in e ++ l) (types_joined es fs) ∙ sym (append_assoc (types_in e) (types_of es) (types_of fs))

pub types_more : (es : List JournalEntry) (e : JournalEntry) → types_of (es ++ e ∷ []) ≡ types_of es ++ types_in e
types_more es e = types_joined es (e ∷ []) ∙ ap (λ l. types_of es ++ l) (append-nil (types_in e))

pub front_more : (h : Header) (es : List JournalEntry) (e : JournalEntry) → length (front_of h (es ++ e ∷ [])) ≡ length (front_of h es) + 10 + length (record_of (types_of es) e).payload
front_more h es e = omega (arith, end_more h es e)

-- a segment whose gate is at a place, behind entries with these log types
abbrev pub place_in : ℕ → List (List ℕ) → SegmentEntry → SegmentPlace
place_in at types s = record { at = at; payload = at + 10; length = length (record_of types (Segment s)).payload; head = head_in types s }

-- ---- the order

-- the file's segments begin at a message or later ones, each behind the one before, and a whole file has none
record IsOrdered (number floor : ℕ) (whole : Bool) (places : List SegmentPlace) : Type 0 where
  pub least : AreAtLeast order_of (number * 2 ^ 64 + floor) places
  pub rise : Rise order_of places
  pub none : whole ≡ true → places ≡ []

ordered_kept : (number : ℕ) (a b : List Piece) (places : List SegmentPlace) → a ≡ b → IsOrdered number (length (messages_of number a)) (is_whole number a) places → IsOrdered number (length (messages_of number b)) (is_whole number b) places
ordered_kept number a b places e is = subst (λ ps. IsOrdered number (length (messages_of number ps)) (is_whole number ps) places) e is

module _ (h : Header) (number : ℕ) where
  segment_ordered : (old mid : Held) (s : SegmentEntry) (messages : List (List ℕ)) (place : SegmentPlace) (later : List SegmentPlace)
      → place.head.file ≡ s.file → place.head.first ≡ s.first → AddsSegment h.version old s messages → (mid ≡ record old { pieces = old.pieces ++ piece_of s messages ∷ [] })
      → IsOrdered number (length (messages_of number mid.pieces)) (is_whole number mid.pieces) later
      → (b : Bool) → (s.file == number) ≡ b
      → IsOrdered number (length (messages_of number old.pieces)) (is_whole number old.pieces) (cond b (place ∷ later) later)
  segment_ordered old mid s messages place later file first adds e rest false t =
      let count = ap (λ m. length (messages_of number m.pieces)) e ∙ (ap length (piece_messages number old.pieces (piece_of s messages)) ∙ ap (λ b. length (messages_of number old.pieces ++ (if b then messages else []))) t ∙ ap length (append-nil (messages_of number old.pieces))) in
      let whole = ap (λ m. is_whole number m.pieces) e ∙ (piece_whole number old.pieces (piece_of s messages) ∙ (ap (λ b. is_whole number old.pieces || (b && s.last)) t ∙ or_false _)) in
      subst (λ w. IsOrdered number (length (messages_of number old.pieces)) w later) whole (subst (λ n. IsOrdered number n (is_whole number mid.pieces) later) count rest)
  segment_ordered old mid s messages place later file first adds e rest true t =
      record {
        least = (omega (arith, order), least_lower order_of (number * 2 ^ 64 + length (messages_of number old.pieces)) (number * 2 ^ 64 + length (messages_of number mid.pieces)) later (omega (arith, count)) rest.least);
        rise = (above s.last refl, rest.rise);
        none = λ w. absurd (not_both w (ap (λ n. is_whole n old.pieces) (sym same) ∙ adds.goes_on));
      }
    where
      same : s.file ≡ number
      same = same_file s.file number t

      count : length (messages_of number mid.pieces) ≡ length (messages_of number old.pieces) + length messages
      count = ap (λ m. length (messages_of number m.pieces)) e ∙ (ap length (piece_messages number old.pieces (piece_of s messages)) ∙ ap (λ b. length (messages_of number old.pieces ++ (if b then messages else []))) t ∙ length-append (messages_of number old.pieces) messages)

      order : order_of place ≡ number * 2 ^ 64 + length (messages_of number old.pieces)
      order = ap₂ (λ f n. f * 2 ^ 64 + n) (file ∙ same) (first ∙ (adds.first ∙ ap (λ n. length (messages_of n old.pieces)) same))

      not_both : is_whole number old.pieces ≡ true → is_whole number old.pieces ≡ false → ⊥
      not_both p q = cc

      or_true : (b : Bool) → b || true ≡ true
      or_true true = refl
      or_true false = refl

      above : (last : Bool) → s.last ≡ last → AreAbove order_of (order_of place) later
      above true is =
          let whole = ap (λ m. is_whole number m.pieces) e ∙ (piece_whole number old.pieces (piece_of s messages) ∙ (ap₂ (λ a b. is_whole number old.pieces || (a && b)) t is ∙ or_true _)) in
          subst (AreAbove order_of (order_of place)) (sym (rest.none whole)) tt
      above false is = above_from order_of (order_of place) (number * 2 ^ 64 + length (messages_of number mid.pieces)) later (omega (arith, order, count, adds.some is, AllZip-long _ s.rows messages adds.canonical)) rest.least

  ordered : (at : ℕ) (types : List (List ℕ)) (es : List JournalEntry) (old more : Held) → Run h old es more → IsOrdered number (length (messages_of number old.pieces)) (is_whole number old.pieces) (filter (is_of number) (places_from at types es))
  ordered at types [] old more run = record { least = tt; rise = tt; none = λ w. refl }
  ordered at types (e ∷ es) old more run = by_entry e run.1 (ordered (at + 10 + length (record_of types e).payload) (types ++ types_in e) es run.0 more run.2)
    where
      by_entry : (e : JournalEntry) → Accepts h old e run.0
          → IsOrdered number (length (messages_of number run.0.pieces)) (is_whole number run.0.pieces) (filter (is_of number) (places_from (at + 10 + length (record_of types e).payload) (types ++ types_in e) es))
          → IsOrdered number (length (messages_of number old.pieces)) (is_whole number old.pieces) (filter (is_of number) (places_from at types (e ∷ es)))
      by_entry (Files names) a later = ordered_kept number run.0.pieces old.pieces (filter (is_of number) (places_from (at + 10 + length (record_of types (Files names)).payload) (types ++ types_in (Files names)) es)) (ap (λ m. m.pieces) a) later
      by_entry (Types first texts) a later = ordered_kept number run.0.pieces old.pieces (filter (is_of number) (places_from (at + 10 + length (record_of types (Types first texts)).payload) (types ++ types_in (Types first texts)) es)) (ap (λ m. m.pieces) a.1) later
      by_entry (Words first texts) a later = ordered_kept number run.0.pieces old.pieces (filter (is_of number) (places_from (at + 10 + length (record_of types (Words first texts)).payload) (types ++ types_in (Words first texts)) es)) (ap (λ m. m.pieces) a.1) later
      by_entry (Segment s) a later = segment_ordered old run.0 s a.0 (place_in at types s) (filter (is_of number) (places_from (at + 10 + length (record_of types (Segment s)).payload) (types ++ types_in (Segment s)) es)) refl refl a.1 a.2 later (s.file == number) refl

-- an archive has the segments of a file in the order of its journal
pub file_in_order : (h : Header) (es : List JournalEntry) (held : Held) (a : Shown) (number : ℕ) → Run h nothing_held es held → IsArchiveOf a h es held → filter (is_of number) a.segments ≡ filter (is_of number) (places_of es)
file_in_order h es held a number run is = sorted_filter order_of (is_of number) (places_of es) a.segments is.segments is.sorted (ordered h number 32 [] es nothing_held held run).rise
