-- The segments of a file in an opened archive are those of the journal, each behind those before it.
use Rattle.std.proofs.Common.{◌≡◌, refl, sym, ap, ap₂, subst, ◌∙◌, ◌+◌, ◌*◌, ◌^◌, ℕ, All, Bool, true, false, cond, List, [], ◌∷◌, ◌++◌, length, append_assoc, arith, length-append, ◌<◌, get_or}
use Rattle.std.specs.Prelude.{◌==◌, ◌||◌, ◌&&◌, if◌then◌else◌, None, Some}
use Rattle.std.specs.List.{AllZip, Contains, cons_option, filter, filter_map}
use Rattle.std.specs.List.Sorted.{IsNonDecreasingBy}
use Rattle.std.proofs.lemmas.List.Sorted.{Contains-permutation, IsPermutation-sym}
use Rattle.std.proofs.lemmas.List.{append-nil}
use Rattle.std.proofs.lemmas.List.Elements.{All-cons, All-contains, All-nil, Contains-get_or}
use mathlib.Core.List.{IsPrefix}
use Rattle.logtype_text.specs.Fair.{IsFairType, IsFairWord}
use Rattle.record_format.specs.declared.header.Header.{Header}
use Rattle.column_store.specs.declared.row.Row.{Row}
use Rattle.segment_pages.specs.Laws.{SegmentsAreHeld}
use Rattle.segment_pages.specs.Paged.{HoldsSegment}
use Rattle.archive_meaning.specs.declared.entry.SegmentEntry.{SegmentEntry}
use Rattle.archive_meaning.specs.declared.entry.JournalEntry.{JournalEntry}
use Rattle.archive_meaning.specs.declared.entry.JournalEntry.TheVariants.{Files, Types, Words, Segment}
use Rattle.archive_meaning.specs.Held.{Held, Piece, is_ended, is_whole, last_is_open, messages_of, nothing_held}
use Rattle.archive_meaning.specs.Legal.{Accepts, AddsSegment, Run, piece_of}
use Rattle.archive_meaning.specs.Spelled.{front_of, record_of, types_in, types_of}
use Rattle.archive_meaning.specs.Stands.{StandsFor}
use Rattle.archive_meaning.specs.Sums.{AddsRows}
use Rattle.archive_meaning.proofs.JudgeLemmas.{end_more, run_types}
use Rattle.archive_meaning.proofs.SumsLemmas.{messages_joined, open_joined, whole_joined}
use Rattle.archive_core.specs.Part.{segment_of}
use Rattle.archive_open.proofs.NextLemmas.{front_length}
use Rattle.archive_open.specs.declared.segments.SegmentPlace.{SegmentPlace}
use Rattle.archive_open.specs.Shown.{IsArchiveOf, Shown, head_in, order_of, places_from, places_of}
use Rattle.archive_open.specs.OfFile.{is_of}
use Rattle.archive_open.proofs.SortedLemmas.{AreAbove, AreAtLeast, Rise, above_from, least_lower, sorted_filter}
use Rattle.ingest_meaning.specs.Parts.{in_file}
use Rattle.archive_merge.specs.InHand.{Texts}
use Rattle.archive_merge.specs.Laws.{IsSegmentAt}
use Rattle.archive_merge.specs.Merger.{file_at}
use Rattle.archive_merge.specs.Next.{part_of}
use Rattle.archive_merge.specs.Runs.{HoldRun, SoFar, held_of, nothing_so_far, so_far_with, sum_of}
use Rattle.archive_merge.proofs.HandLemmas.{all_stay}
use Rattle.archive_merge.proofs.SealingLemmas.{canonical_long}

-- ---- pieces

or_false : (b : Bool) → b || false ≡ b
or_false true = refl
or_false false = refl

or_assoc : (a b c : Bool) → a || (b || c) ≡ (a || b) || c
or_assoc true b c = refl
or_assoc false b c = refl

piece_messages : (number : ℕ) (ps : List Piece) (p : Piece) → messages_of number (ps ++ p ∷ []) ≡ messages_of number ps ++ (if p.file == number then p.messages else [])
piece_messages number ps p = messages_joined number ps (p ∷ []) ∙ ap (λ l. messages_of number ps ++ l) (append-nil _)

piece_whole : (number : ℕ) (ps : List Piece) (p : Piece) → is_whole number (ps ++ p ∷ []) ≡ is_whole number ps || (p.file == number && p.last)
piece_whole number ps p = whole_joined number ps (p ∷ []) ∙ ap (λ b. is_whole number ps || b) (or_false _)

ended_joined : (number : ℕ) (ps qs : List Piece) → is_ended number (ps ++ qs) ≡ is_ended number ps || is_ended number qs
ended_joined number [] qs = refl
ended_joined number (p ∷ ps) qs =
    ap (λ b. (p.file == number && p.last && p.ended) || b) (ended_joined number ps qs) ∙ or_assoc (p.file == number && p.last && p.ended) (is_ended number ps) (is_ended number qs)

piece_ended : (number : ℕ) (ps : List Piece) (p : Piece) → is_ended number (ps ++ p ∷ []) ≡ is_ended number ps || (p.file == number && p.last && p.ended)
piece_ended number ps p = ended_joined number ps (p ∷ []) ∙ ap (λ b. is_ended number ps || b) (or_false _)

-- a file without a last segment has not ended
not_last : (a l e w x : Bool) → (a && l) || w ≡ false → (w ≡ false → x ≡ false) → (a && l && e) || x ≡ false
not_last false l e w x none rest = rest none
not_last true false e w x none rest = rest none
not_last true true e w x none rest = absurd (cc (none))

not_ended : (number : ℕ) (ps : List Piece) → is_whole number ps ≡ false → is_ended number ps ≡ false
not_ended number [] none = refl
not_ended number (p ∷ ps) none = not_last (p.file == number) p.last p.ended (is_whole number ps) (is_ended number ps) none (not_ended number ps)

so_far_same : (m n : List (List ℕ)) (a b c d : Bool) → m ≡ n → a ≡ b → c ≡ d → (let x : SoFar = record { messages = m; whole = a; ended = c } in x) ≡ record { messages = n; whole = b; ended = d }
so_far_same m n a b c d same_m same_a same_c = λ i. record { messages = same_m i; whole = same_a i; ended = same_c i }

same_file : (a b : ℕ) → (a == b) ≡ true → a ≡ b
same_file a b e = grind (arith, e)

-- ---- runs only add texts

prefix_then : (a b c : List (List ℕ)) → IsPrefix a b → IsPrefix b c → IsPrefix a c
prefix_then a b c f g = (f.0 ++ g.0, sym (append_assoc a f.0 g.0) ∙ (ap (λ l. l ++ g.0) f.1 ∙ g.1))

prefix_same : (a b : List (List ℕ)) → b ≡ a → IsPrefix a b
prefix_same a b e = ([], append-nil a ∙ sym e)

step_words : (h : Header) (now mid : Held) (e : JournalEntry) → Accepts h now e mid → IsPrefix now.words mid.words
step_words h now mid (Files names) a = prefix_same now.words mid.words (ap (λ m. m.words) a)
step_words h now mid (Types first texts) a = prefix_same now.words mid.words (ap (λ m. m.words) a.1)
step_words h now mid (Words first texts) a = (texts, sym (ap (λ m. m.words) a.1))
step_words h now mid (Segment s) a = prefix_same now.words mid.words (ap (λ m. m.words) a.2)

run_words : (h : Header) (now more : Held) (es : List JournalEntry) → Run h now es more → IsPrefix now.words more.words
run_words h now more [] run = prefix_same now.words more.words (ap (λ m. m.words) run)
run_words h now more (e ∷ es) run = prefix_then now.words run.0.words more.words (step_words h now run.0 e run.1) (run_words h run.0 more es run.2)

run_front : (h : Header) (now more : Held) (es : List JournalEntry) → Run h now es more → IsPrefix now.types more.types
run_front h now more es run = (types_of es, sym (run_types h now more es run))

-- and fair ones
record AreFair (held : Held) : Type 0 where
  types : All IsFairType held.types
  words : All IsFairWord held.words

fair_same : (now mid : Held) → mid.types ≡ now.types → mid.words ≡ now.words → AreFair now → AreFair mid
fair_same now mid types words fair = record {
  types = subst (All IsFairType) (sym types) fair.types;
  words = subst (All IsFairWord) (sym words) fair.words;
}

step_fair : (h : Header) (now mid : Held) (e : JournalEntry) → Accepts h now e mid → AreFair now → AreFair mid
step_fair h now mid (Files names) a fair = fair_same now mid (ap (λ m. m.types) a) (ap (λ m. m.words) a) fair
step_fair h now mid (Types first texts) a fair = record {
  types = subst (All IsFairType) (sym (ap (λ m. m.types) a.1)) a.0.book.fair;
  words = subst (All IsFairWord) (sym (ap (λ m. m.words) a.1)) fair.words;
}
step_fair h now mid (Words first texts) a fair = record {
  types = subst (All IsFairType) (sym (ap (λ m. m.types) a.1)) fair.types;
  words = subst (All IsFairWord) (sym (ap (λ m. m.words) a.1)) a.0.book.fair;
}
step_fair h now mid (Segment s) a fair = fair_same now mid (ap (λ m. m.types) a.2) (ap (λ m. m.words) a.2) fair

run_fair : (h : Header) (now more : Held) (es : List JournalEntry) → Run h now es more → AreFair now → AreFair more
run_fair h now more [] run fair = fair_same now more (ap (λ m. m.types) run) (ap (λ m. m.words) run) fair
run_fair h now more (e ∷ es) run fair = run_fair h run.0 more es run.2 (step_fair h now run.0 e run.1 fair)

-- the texts of a legal journal
pub fair_held : (h : Header) (es : List JournalEntry) (held : Held) → Run h nothing_held es held → All IsFairType held.types × All IsFairWord held.words
fair_held h es held run =
    let fair = run_fair h nothing_held held es run (record { types = All-nil IsFairType; words = All-nil IsFairWord }) in
    (fair.types, fair.words)

-- ---- where entries stand

types_joined : (es fs : List JournalEntry) → types_of (es ++ fs) ≡ types_of es ++ types_of fs
types_joined [] fs = refl
types_joined (e ∷ es) fs = ap (λ l. types_in e ++ l) (types_joined es fs) ∙ sym (append_assoc (types_in e) (types_of es) (types_of fs))

types_more : (es : List JournalEntry) (e : JournalEntry) → types_of (es ++ e ∷ []) ≡ types_of es ++ types_in e
types_more es e = types_joined es (e ∷ []) ∙ ap (λ l. types_of es ++ l) (append-nil (types_in e))

front_more : (h : Header) (es : List JournalEntry) (e : JournalEntry) → length (front_of h (es ++ e ∷ [])) ≡ length (front_of h es) + 10 + length (record_of (types_of es) e).payload
front_more h es e = omega (arith, end_more h es e)

-- a segment whose gate is at a place, behind entries with these log types
abbrev place_in : ℕ → List (List ℕ) → SegmentEntry → SegmentPlace
place_in at types s = record { at = at; payload = at + 10; length = length (record_of types (Segment s)).payload; head = head_in types s }

-- ---- the run

module _ (bytes : List ℕ) (h : Header) (all : List JournalEntry) (stood : StandsFor bytes h all) (law : SegmentsAreHeld) (number : ℕ) (final : Held) where
  abbrev texts : Texts
  texts = record { types = final.types; words = final.words }

  abbrev places : ℕ → List (List ℕ) → List JournalEntry → List SegmentPlace
  places at types es = filter (is_of number) (places_from at types es)

  abbrev Runs : List SegmentPlace → Held → Type 0
  Runs ps now = HoldRun h.version texts bytes ps (held_of number now) (held_of number final)

  segment_adds : (s : SegmentEntry) (messages : List (List ℕ)) (now : Held) (types : List (List ℕ)) → s.file ≡ number → AddsSegment h.version now s messages → IsPrefix now.types final.types → IsPrefix now.words final.words
      → AddsRows h.version (sum_of (held_of number now)) final.types final.words (segment_of (part_of (head_in types s)) s.rows) messages
  segment_adds s messages now types same adds f g = record {
    first = adds.first ∙ ap (λ n. length (messages_of n now.pieces)) same;
    goes_on = ap (λ n. is_whole n now.pieces) (sym same) ∙ adds.goes_on;
    most = adds.most;
    rows = adds.rows;
    variables = adds.variables;
    fit = adds.fit;
    some = adds.some;
    ended = adds.ended;
    end = λ last open_end. sym (open_joined (messages_of number now.pieces) messages) ∙ (ap (λ n. last_is_open (messages_of n now.pieces ++ messages)) (sym same) ∙ adds.end last open_end);
    canonical = all_stay h.version s.rows now.types now.words final.types final.words messages f g adds.canonical;
    each = adds.each;
  }

  segment_run : (before after : List JournalEntry) (s : SegmentEntry) (messages : List (List ℕ)) (now mid : Held) (at : ℕ) (types : List (List ℕ))
      → all ≡ before ++ Segment s ∷ after → AddsSegment h.version now s messages → (mid ≡ record now { pieces = now.pieces ++ piece_of s messages ∷ [] })
      → IsPrefix now.types final.types → IsPrefix now.words final.words → at ≡ length (front_of h before) → types ≡ types_of before
      → Runs (places (at + 10 + length (record_of types (Segment s)).payload) (types ++ []) after) mid → Runs (places at types (Segment s ∷ after)) now
  segment_run before after s messages now mid at types is adds e f g place ts later = by_test (s.file == number) refl
    where
      next : ℕ
      next = at + 10 + length (record_of types (Segment s)).payload

      messages_are : messages_of number mid.pieces ≡ messages_of number now.pieces ++ (if s.file == number then messages else [])
      messages_are = ap (λ m. messages_of number m.pieces) e ∙ piece_messages number now.pieces (piece_of s messages)

      whole_is : is_whole number mid.pieces ≡ is_whole number now.pieces || (s.file == number && s.last)
      whole_is = ap (λ m. is_whole number m.pieces) e ∙ piece_whole number now.pieces (piece_of s messages)

      ended_is : is_ended number mid.pieces ≡ is_ended number now.pieces || (s.file == number && s.last && s.ended)
      ended_is = ap (λ m. is_ended number m.pieces) e ∙ piece_ended number now.pieces (piece_of s messages)

      holds : HoldsSegment (at + 10) (length (record_of types (Segment s)).payload) (head_in types s) bytes s.rows
      holds = subst (λ t. HoldsSegment (at + 10) (length (record_of t (Segment s)).payload) (head_in t s) bytes s.rows) (sym ts)
          (subst (λ n. HoldsSegment (n + 10) (length (record_of (types_of before) (Segment s)).payload) (head_in (types_of before) s) bytes s.rows) (sym place) (law bytes h all before after s stood is))

      by_test : (b : Bool) → (s.file == number) ≡ b → Runs (places at types (Segment s ∷ after)) now
      by_test true t =
          let same : s.file ≡ number = same_file s.file number t in
          let goes_on : is_whole number now.pieces ≡ false = ap (λ n. is_whole n now.pieces) (sym same) ∙ adds.goes_on in
          let so_far : held_of number mid ≡ so_far_with (held_of number now) (head_in types s) messages = so_far_same _ _ _ _ _ _
          (messages_are ∙ ap (λ b. messages_of number now.pieces ++ (if b then messages else [])) t)
          (whole_is ∙ (ap (λ b. b || (s.file == number && s.last)) goes_on ∙ ap (λ b. b && s.last) t))
          (ended_is ∙ (ap (λ b. b || (s.file == number && s.last && s.ended)) (not_ended number now.pieces goes_on) ∙ ap (λ b. b && s.last && s.ended) t)) in
          let rest = subst (λ x. HoldRun h.version texts bytes (places next (types ++ []) after) x (held_of number final)) so_far later in
          subst (λ b. HoldRun h.version texts bytes (cond b (place_in at types s ∷ places next (types ++ []) after) (places next (types ++ []) after)) (held_of number now) (held_of number final)) (sym t)
          (s.rows, messages, holds, segment_adds s messages now types same adds f g, rest)
      by_test false t =
          let so_far : held_of number mid ≡ held_of number now = so_far_same _ _ _ _ _ _
          (messages_are ∙ (ap (λ b. messages_of number now.pieces ++ (if b then messages else [])) t ∙ append-nil (messages_of number now.pieces)))
          (whole_is ∙ (ap (λ b. is_whole number now.pieces || (b && s.last)) t ∙ or_false (is_whole number now.pieces)))
          (ended_is ∙ (ap (λ b. is_ended number now.pieces || (b && s.last && s.ended)) t ∙ or_false (is_ended number now.pieces))) in
          let rest = subst (λ x. HoldRun h.version texts bytes (places next (types ++ []) after) x (held_of number final)) so_far later in
          subst (λ b. HoldRun h.version texts bytes (cond b (place_in at types s ∷ places next (types ++ []) after) (places next (types ++ []) after)) (held_of number now) (held_of number final)) (sym t) rest

  pieces_kept : (ps : List SegmentPlace) (now mid : Held) → mid.pieces ≡ now.pieces → Runs ps mid → Runs ps now
  pieces_kept ps now mid same run =
      subst (λ x. HoldRun h.version texts bytes ps x (held_of number final)) (so_far_same _ _ _ _ _ _ (ap (messages_of number) same) (ap (is_whole number) same) (ap (is_ended number) same)) run

  run_from : (before es : List JournalEntry) (now : Held) (at : ℕ) (types : List (List ℕ)) → all ≡ before ++ es → Run h now es final → at ≡ length (front_of h before) → types ≡ types_of before → Runs (places at types es) now
  run_from before [] now at types is run place ts = so_far_same _ _ _ _ _ _ (ap (λ m. messages_of number m.pieces) run) (ap (λ m. is_whole number m.pieces) run) (ap (λ m. is_ended number m.pieces) run)
  run_from before (e ∷ es) now at types is run place ts =
      by_entry e is run.1 (run_front h now final (e ∷ es) run) (run_words h now final (e ∷ es) run) (run_from (before ++ e ∷ []) es run.0 (at + 10 + length (record_of types e).payload) (types ++ types_in e) (is ∙ sym (append_assoc before (e ∷ []) es)) run.2
      (ap₂ (λ n t. n + 10 + length (record_of t e).payload) place ts ∙ sym (front_more h before e)) (ap (λ t. t ++ types_in e) ts ∙ sym (types_more before e)))
    where
      by_entry : (e : JournalEntry) → all ≡ before ++ e ∷ es → Accepts h now e run.0 → IsPrefix now.types final.types → IsPrefix now.words final.words → Runs (places (at + 10 + length (record_of types e).payload) (types ++ types_in e) es) run.0 → Runs (places at types (e ∷ es)) now
      by_entry (Files names) is a f g later = pieces_kept _ now run.0 (ap (λ m. m.pieces) a) later
      by_entry (Types first texts) is a f g later = pieces_kept _ now run.0 (ap (λ m. m.pieces) a.1) later
      by_entry (Words first texts) is a f g later = pieces_kept _ now run.0 (ap (λ m. m.pieces) a.1) later
      by_entry (Segment s) is a f g later = segment_run before es s a.0 now run.0 at types is a.1 a.2 f g place ts later

-- ---- the order

-- each place is one of the file
abbrev AreAllOf : ℕ → List SegmentPlace → Type 0
AreAllOf number [] = Unit {0}
AreAllOf number (p ∷ ps) = (p.head.file ≡ number) × AreAllOf number ps

filter_of : (number : ℕ) (ps : List SegmentPlace) → AreAllOf number (filter (is_of number) ps)
filter_of number [] = tt
filter_of number (p ∷ ps) = by_test (p.head.file == number) refl (filter_of number ps)
  where
    by_test : (b : Bool) → (p.head.file == number) ≡ b → AreAllOf number (filter (is_of number) ps) → AreAllOf number (cond b (p ∷ filter (is_of number) ps) (filter (is_of number) ps))
    by_test true e rest = (same_file p.head.file number e, rest)
    by_test false e rest = rest

-- the places begin at a message or later ones, each behind the one before, and a whole file has none
record IsOrdered (number floor : ℕ) (whole : Bool) (places : List SegmentPlace) : Type 0 where
  least : AreAtLeast order_of (number * 2 ^ 64 + floor) places
  rise : Rise order_of places
  none : whole ≡ true → places ≡ []

-- a place before others that are ordered
ordered_more : (version : ℕ) (old : Texts) (number : ℕ) (p : SegmentPlace) (ps : List SegmentPlace) (now : SoFar) (rows : List Row) (messages : List (List ℕ)) → p.head.file ≡ number
    → AddsRows version (sum_of now) old.types old.words (segment_of (part_of p.head) rows) messages → IsOrdered number (length (now.messages ++ messages)) p.head.last ps → IsOrdered number (length now.messages) now.whole (p ∷ ps)
ordered_more version old number p ps now rows messages of adds rest = record {
  least = (omega (arith, order), least_lower order_of (number * 2 ^ 64 + length now.messages) (number * 2 ^ 64 + length (now.messages ++ messages)) ps (omega (arith, length-append now.messages messages)) rest.least);
  rise = (above p.head.last refl, rest.rise);
  none = λ w. absurd (not_both w adds.goes_on);
}
  where
    order : order_of p ≡ number * 2 ^ 64 + length now.messages
    order = ap₂ (λ f n. f * 2 ^ 64 + n) of adds.first

    not_both : now.whole ≡ true → now.whole ≡ false → ⊥
    not_both a b = cc

    above : (last : Bool) → p.head.last ≡ last → AreAbove order_of (order_of p) ps
    above true is = subst (AreAbove order_of (order_of p)) (sym (rest.none is)) tt
    above false is = above_from order_of (order_of p) (number * 2 ^ 64 + length (now.messages ++ messages)) ps
        (omega (arith, order, length-append now.messages messages, adds.some is, canonical_long version rows old.types old.words messages adds.canonical)) rest.least

run_ordered : (version : ℕ) (old : Texts) (bytes : List ℕ) (number : ℕ) (ps : List SegmentPlace) (now all : SoFar) → AreAllOf number ps → HoldRun version old bytes ps now all → IsOrdered number (length now.messages) now.whole ps
run_ordered version old bytes number [] now all of run = record { least = tt; rise = tt; none = λ w. refl }
run_ordered version old bytes number (p ∷ ps) now all of (rows, messages, holds, adds, run) =
    ordered_more version old number p ps now rows messages of.0 adds (run_ordered version old bytes number ps (so_far_with now p.head messages) all of.1 run)

-- ---- the journal's segments

module _ (bytes : List ℕ) (h : Header) (all : List JournalEntry) (stood : StandsFor bytes h all) (law : SegmentsAreHeld) (number : ℕ) where
  segment_theirs : (before after : List JournalEntry) (s : SegmentEntry) (at : ℕ) (types : List (List ℕ)) (places : List SegmentPlace) → all ≡ before ++ Segment s ∷ after → at ≡ length (front_of h before) → types ≡ types_of before
      → AllZip (IsSegmentAt bytes) places (filter_map (in_file number) after)
      → AllZip (IsSegmentAt bytes) (cond (s.file == number) (place_in at types s ∷ places) places) (cons_option (if s.file == number then Some s else None) (filter_map (in_file number) after))
  segment_theirs before after s at types places is place ts later = by_test (s.file == number)
    where
      holds : HoldsSegment (at + 10) (length (record_of types (Segment s)).payload) (head_in types s) bytes s.rows
      holds = subst (λ t. HoldsSegment (at + 10) (length (record_of t (Segment s)).payload) (head_in t s) bytes s.rows) (sym ts)
          (subst (λ n. HoldsSegment (n + 10) (length (record_of (types_of before) (Segment s)).payload) (head_in (types_of before) s) bytes s.rows) (sym place) (law bytes h all before after s stood is))

      here : IsSegmentAt bytes (place_in at types s) s
      here = record { first = refl; rows = refl; marks = (refl, refl); holds = holds }

      by_test : (b : Bool) → AllZip (IsSegmentAt bytes) (cond b (place_in at types s ∷ places) places) (cons_option (if b then Some s else None) (filter_map (in_file number) after))
      by_test true = (here, later)
      by_test false = later

  theirs_from : (before es : List JournalEntry) (at : ℕ) (types : List (List ℕ)) → all ≡ before ++ es → at ≡ length (front_of h before) → types ≡ types_of before
      → AllZip (IsSegmentAt bytes) (filter (is_of number) (places_from at types es)) (filter_map (in_file number) es)
  theirs_from before [] at types is place ts = tt
  theirs_from before (e ∷ es) at types is place ts =
      by_entry e is (theirs_from (before ++ e ∷ []) es (at + 10 + length (record_of types e).payload) (types ++ types_in e) (is ∙ sym (append_assoc before (e ∷ []) es))
      (ap₂ (λ n t. n + 10 + length (record_of t e).payload) place ts ∙ sym (front_more h before e)) (ap (λ t. t ++ types_in e) ts ∙ sym (types_more before e)))
    where
      by_entry : (e : JournalEntry) → all ≡ before ++ e ∷ es → AllZip (IsSegmentAt bytes) (filter (is_of number) (places_from (at + 10 + length (record_of types e).payload) (types ++ types_in e) es)) (filter_map (in_file number) es)
          → AllZip (IsSegmentAt bytes) (filter (is_of number) (places_from at types (e ∷ es))) (filter_map (in_file number) (e ∷ es))
      by_entry (Files names) is later = later
      by_entry (Types first texts) is later = later
      by_entry (Words first texts) is later = later
      by_entry (Segment s) is later = segment_theirs before es s at types _ is place ts later

-- ---- the file

front_none : (h : Header) → length (front_of h []) ≡ 32
front_none h = omega (arith, front_length h [])

-- the archive's segments of a file stand in the journal's order
of_file : (bytes : List ℕ) (h : Header) (es : List JournalEntry) (a : Shown) (number : ℕ) (stood : StandsFor bytes h es) → SegmentsAreHeld → IsArchiveOf a h es stood.legal.held → filter (is_of number) a.segments ≡ filter (is_of number) (places_of es)
of_file bytes h es a number stood law is =
    let held = stood.legal.held in
    let old : Texts = record { types = held.types; words = held.words } in
    let run : HoldRun h.version old bytes (filter (is_of number) (places_of es)) nothing_so_far (held_of number held) =
    run_from bytes h es stood law number held [] es nothing_held 32 [] refl stood.legal.run (sym (front_none h)) refl in
    let order = run_ordered h.version old bytes number (filter (is_of number) (places_of es)) nothing_so_far (held_of number held) (filter_of number (places_of es)) run in
    sorted_filter order_of (is_of number) (places_of es) a.segments is.segments is.sorted order.rise

-- they are the journal's
pub theirs : (bytes : List ℕ) (h : Header) (es : List JournalEntry) (a : Shown) (number : ℕ) (stood : StandsFor bytes h es) → SegmentsAreHeld → IsArchiveOf a h es stood.legal.held
    → AllZip (IsSegmentAt bytes) (filter (is_of number) a.segments) (filter_map (in_file number) es)
theirs bytes h es a number stood law is =
    subst (λ l. AllZip (IsSegmentAt bytes) l (filter_map (in_file number) es)) (sym (of_file bytes h es a number stood law is))
    (theirs_from bytes h es stood law number [] es 32 [] refl (sym (front_none h)) refl)

-- the segments of a file in the archive of a journal, in the archive's order, are a run to what the journal holds of the file
pub file_run : (bytes : List ℕ) (h : Header) (es : List JournalEntry) (a : Shown) (number : ℕ) (stood : StandsFor bytes h es) → SegmentsAreHeld → IsArchiveOf a h es stood.legal.held
    → HoldRun a.kept.version (record { types = a.kept.types; words = a.kept.words }) bytes (filter (is_of number) a.segments) nothing_so_far (held_of number stood.legal.held)
file_run bytes h es a number stood law is =
    let held = stood.legal.held in
    let old : Texts = record { types = held.types; words = held.words } in
    let run : HoldRun h.version old bytes (filter (is_of number) (places_of es)) nothing_so_far (held_of number held) =
    run_from bytes h es stood law number held [] es nothing_held 32 [] refl stood.legal.run (sym (front_none h)) refl in
    let sorted = of_file bytes h es a number stood law is in
    let here : HoldRun h.version old bytes (filter (is_of number) a.segments) nothing_so_far (held_of number held) = subst (λ l. HoldRun h.version old bytes l nothing_so_far (held_of number held)) (sym sorted) run in
    subst (λ k. HoldRun k.version (record { types = k.types; words = k.words }) bytes (filter (is_of number) a.segments) nothing_so_far (held_of number held)) (sym is.kept) here

-- ---- by file

firsts_fit : (h : Header) (at : ℕ) (types : List (List ℕ)) (es : List JournalEntry) (now more : Held) → Run h now es more → All (λ (p : SegmentPlace). p.head.first < 2 ^ 64) (places_from at types es)
firsts_fit h at types [] now more run = All-nil (λ (p : SegmentPlace). p.head.first < 2 ^ 64)
firsts_fit h at types (e ∷ es) now more run = by_entry e run.1 (firsts_fit h (at + 10 + length (record_of types e).payload) (types ++ types_in e) es run.0 more run.2)
  where
    by_entry : (e : JournalEntry) → Accepts h now e run.0 → All (λ (p : SegmentPlace). p.head.first < 2 ^ 64) (places_from (at + 10 + length (record_of types e).payload) (types ++ types_in e) es)
        → All (λ (p : SegmentPlace). p.head.first < 2 ^ 64) (places_from at types (e ∷ es))
    by_entry (Files names) a rest = rest
    by_entry (Types first texts) a rest = rest
    by_entry (Words first texts) a rest = rest
    by_entry (Segment s) a rest = All-cons (λ (p : SegmentPlace). p.head.first < 2 ^ 64) (place_in at types s) _ (let most = a.1.most in omega (arith, most)) rest

pub files_rise : (h : Header) (es : List JournalEntry) (held : Held) (a : Shown) → Run h nothing_held es held → IsArchiveOf a h es held → IsNonDecreasingBy file_at a.segments
files_rise h es held a run is = λ i j d le lt.
    let there : Contains (places_of es) (get_or a.segments j d) = Contains-permutation a.segments (places_of es) (get_or a.segments j d) (IsPermutation-sym (places_of es) a.segments is.segments) (Contains-get_or a.segments j d lt) in
    let small = All-contains (λ (p : SegmentPlace). p.head.first < 2 ^ 64) (places_of es) (get_or a.segments j d) (firsts_fit h 32 [] es nothing_held held run) there in
    omega (arith, is.sorted i j d le lt, small)
