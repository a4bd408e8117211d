-- What a journal has of a file once a segment was sealed.
use Rattle.std.proofs.Common.{◌≡◌, ℕ, zero, suc, ◌+◌, ◌<◌, ◌≤◌, List, [], ◌∷◌, ◌++◌, Bool, true, false, length, take, drop, map, refl, sym, ap, ap₂, ◌∙◌, subst, arith, append-nil, append_assoc, length-append, take-add}
use Rattle.std.specs.Prelude.{◌==◌, ◌||◌, ◌&&◌, if◌then◌else◌}
use Rattle.std.proofs.lemmas.Bool.{eq-eqb}
use Rattle.std.proofs.lemmas.List.{take-append-drop}
use mathlib.Core.List.{IsPrefix}
use Rattle.turn_lock.specs.Words.{seen}
use Rattle.turn_lock.proofs.FrontLemmas.{prefix_self, prefix_trans}
use Rattle.record_format.specs.declared.header.Header.{Header}
use Rattle.column_store.specs.declared.row.Row.{Row}
use Rattle.disk_journal.specs.Record.{saved_of}
use Rattle.row_codec.specs.Means.{AreCanonical}
use Rattle.row_codec.proofs.MeansLemmas.{canonical_stays}
use Rattle.archive_meaning.specs.declared.entry.SegmentEntry.{SegmentEntry}
use Rattle.archive_meaning.specs.declared.entry.JournalEntry.{JournalEntry}
use Rattle.archive_meaning.specs.declared.entry.JournalEntry.TheVariants.{Files, Types, Words, Segment}
use Rattle.archive_meaning.specs.Held.{Held, Piece, nothing_held, messages_of, is_whole, is_ended}
use Rattle.archive_meaning.specs.Legal.{Accepts, Run, piece_of}
use Rattle.archive_meaning.specs.Spelled.{types_of}
use Rattle.archive_meaning.specs.Stands.{IsLegal}
use Rattle.archive_meaning.proofs.SumsLemmas.{messages_joined, whole_joined}
use Rattle.archive_meaning.proofs.RunLemmas.{runs_split, one_held, one_messages}
use Rattle.archive_meaning.proofs.JudgeLemmas.{run_types}
use Rattle.disk_seal.specs.declared.pieces.Piece.{Piece as Framed}
use Rattle.disk_seal.specs.declared.entry.StoreEntry.{StoreEntry}
use Rattle.disk_seal.specs.declared.entry.StoreEntry.TheVariants.{Entry, Blank, Stopped}
use Rattle.disk_seal.specs.Told.{IfTold, entry_of, entry_for}
use Rattle.ingest_meaning.specs.WordsIn.{words_of}
use Rattle.disk_seal.specs.Adding.{Front}
use Rattle.disk_seal.specs.Pieces.{CanFollow, added_by, front_with}
use Rattle.disk_seal.specs.Planned.{IsTextsThen}
use Rattle.disk_seal.specs.Draft.{journal_seen}
use Rattle.disk_seal.proofs.KeptLemmas.{types_more, words_more}
use Rattle.disk_seal.proofs.NextLemmas.{run_words}
use Rattle.ingest_workers.specs.Journal.{Holds, segments_in}

abbrev Texts : Type 0
Texts = List (List ℕ)

-- ---- the entries that a store's list has

pub seen_joined : (xs ys : List StoreEntry) → journal_seen (xs ++ ys) ≡ journal_seen xs ++ journal_seen ys
seen_joined [] ys = refl
seen_joined (Entry e ∷ xs) ys = ap (λ l. e ∷ l) (seen_joined xs ys)
seen_joined (Blank ∷ xs) ys = seen_joined xs ys
seen_joined (Stopped n ∷ xs) ys = seen_joined xs ys

pub seen_told : (es : List JournalEntry) → journal_seen (map (entry_for true) es) ≡ es
seen_told [] = refl
seen_told (e ∷ es) = ap (λ l. e ∷ l) (seen_told es)

pub seen_front : (xs ys : List StoreEntry) → IsPrefix xs ys → IsPrefix (journal_seen xs) (journal_seen ys)
seen_front xs ys front = (journal_seen front.0, sym (seen_joined xs front.0) ∙ ap journal_seen front.1)

-- ---- a segment behind texts

segments_then : (s : SegmentEntry) (es : List JournalEntry) → IsTextsThen s es → segments_in es ≡ s ∷ []
segments_then s [] is = absurd is
segments_then s (Files names ∷ es) is = absurd is
segments_then s (Types first texts ∷ es) is = segments_then s es is
segments_then s (Words first texts ∷ es) is = segments_then s es is
segments_then s (Segment t ∷ es) is = ap₂ (λ x xs. x ∷ segments_in xs) is.0 is.1

pub segments_sealed : (s : SegmentEntry) (es : List JournalEntry) → IsTextsThen s es → segments_in es ≡ s ∷ []
segments_sealed = segments_then

-- the first of the entries, not all, are texts
pub no_segments : (s : SegmentEntry) (es : List JournalEntry) (k : ℕ) → IsTextsThen s es → k < length es → segments_in (take k es) ≡ []
no_segments s es zero is below = refl
no_segments s [] (suc k) is below = absurd is
no_segments s (Files names ∷ es) (suc k) is below = absurd is
no_segments s (Types first texts ∷ es) (suc k) is below = no_segments s es k is (omega (arith, below))
no_segments s (Words first texts ∷ es) (suc k) is below = no_segments s es k is (omega (arith, below))
no_segments s (Segment t ∷ es) (suc k) is below = absurd (omega (arith, below, ap length is.1))

-- The journal ends with the segment, and is legal; the texts before it are the first ones of these.
pub record EndsWith (h : Header) (base es : List JournalEntry) (s : SegmentEntry) (types words : Texts) : Type 0 where
  pub before : List JournalEntry
  pub goes_on : IsPrefix base before
  pub is : es ≡ before ++ Segment s ∷ []
  pub legal : IsLegal h es
  pub types_front : IsPrefix (types_of before) types
  pub words_front : IsPrefix (words_of before) words

take_front : (n : ℕ) (xs ys : Texts) → take n xs ≡ ys → IsPrefix ys xs
take_front n xs ys is = (drop n xs, ap (λ l. l ++ drop n xs) (sym is) ∙ take-append-drop n xs)

more_taken : (saved more : ℕ) (xs old new all : Texts) → take saved xs ≡ old → take more (drop saved xs) ≡ new → all ≡ old ++ new → take (saved + more) xs ≡ all
more_taken saved more xs old new all a b is = take-add saved more xs ∙ (ap₂ (λ l m. l ++ m) a b ∙ sym is)

pub ends_with : (ps : List Framed) (f : Front) (s : SegmentEntry) → f.told ≡ true → CanFollow ps f → IsTextsThen s (added_by ps)
    → take f.types_saved (seen f.types) ≡ types_of f.journal → take f.words_saved (seen f.words) ≡ words_of f.journal
    → EndsWith f.header f.journal (f.journal ++ added_by ps) s (seen f.types) (seen f.words)
ends_with [] f s told can is types words = absurd is
ends_with (p ∷ ps) f s told can is types words = by_entry (λ rest. ends_with ps (front_with p f) s told can.1 rest types_then words_then) (entry_of (saved_of p.text)) refl is
  where
    of_told : {P : Type 0} → IfTold f.told P → P
    of_told {P} x = subst (λ b. IfTold b P) told x

    types_then : take (f.types_saved + p.types) (seen f.types) ≡ types_of (f.journal ++ entry_of (saved_of p.text) ∷ [])
    types_then = more_taken f.types_saved p.types (seen f.types) _ _ _ types (of_told can.0.of_types.these) (types_more f.journal (entry_of (saved_of p.text)))

    words_then : take (f.words_saved + p.words) (seen f.words) ≡ words_of (f.journal ++ entry_of (saved_of p.text) ∷ [])
    words_then = more_taken f.words_saved p.words (seen f.words) _ _ _ words (of_told can.0.of_words.these) (words_more f.journal (entry_of (saved_of p.text)))

    shorter : EndsWith f.header (f.journal ++ entry_of (saved_of p.text) ∷ []) ((f.journal ++ entry_of (saved_of p.text) ∷ []) ++ added_by ps) s (seen f.types) (seen f.words)
        → EndsWith f.header f.journal (f.journal ++ added_by (p ∷ ps)) s (seen f.types) (seen f.words)
    shorter rest =
        let joined = append_assoc f.journal (entry_of (saved_of p.text) ∷ []) (added_by ps) in
        record {
          before = rest.before;
          goes_on = prefix_trans f.journal (f.journal ++ entry_of (saved_of p.text) ∷ []) rest.before (entry_of (saved_of p.text) ∷ [], refl) rest.goes_on;
          is = sym joined ∙ rest.is;
          legal = subst (IsLegal f.header) joined rest.legal;
          types_front = rest.types_front;
          words_front = rest.words_front;
        }

    by_entry : (IsTextsThen s (added_by ps) → EndsWith f.header (f.journal ++ entry_of (saved_of p.text) ∷ []) ((f.journal ++ entry_of (saved_of p.text) ∷ []) ++ added_by ps) s (seen f.types) (seen f.words)) → (e : JournalEntry) → e ≡ entry_of (saved_of p.text) → IsTextsThen s (e ∷ added_by ps)
        → EndsWith f.header f.journal (f.journal ++ added_by (p ∷ ps)) s (seen f.types) (seen f.words)
    by_entry go_on (Files names) same is = absurd is
    by_entry go_on (Types first texts) same is = shorter (go_on is)
    by_entry go_on (Words first texts) same is = shorter (go_on is)
    by_entry go_on (Segment t) same is =
        let last : f.journal ++ added_by (p ∷ ps) ≡ f.journal ++ Segment s ∷ [] = ap₂ (λ e es. f.journal ++ e ∷ es) (sym same ∙ ap (λ x. Segment x) is.0) is.1 in
        let one : f.journal ++ entry_of (saved_of p.text) ∷ [] ≡ f.journal ++ added_by (p ∷ ps) = ap (λ es. f.journal ++ entry_of (saved_of p.text) ∷ es) (sym is.1) in
        record {
          before = f.journal;
          goes_on = prefix_self f.journal;
          is = last;
          legal = subst (IsLegal f.header) one (of_told can.0.next).legal;
          types_front = take_front f.types_saved (seen f.types) _ types;
          words_front = take_front f.words_saved (seen f.words) _ words;
        }

-- ---- what is held of the file

-- what entries add stands behind what was held
record HeldMore (old new : Held) : Type 0 where
  pieces : List Piece
  are : new.pieces ≡ old.pieces ++ pieces
  names : length old.names ≤ length new.names

same_held : (held : Held) → HeldMore held held
same_held held = record { pieces = []; are = sym (append-nil held.pieces); names = omega arith }

step_more : (h : Header) (old mid : Held) (e : JournalEntry) → Accepts h old e mid → HeldMore old mid
step_more h old mid (Files names) adds = subst (HeldMore old) (sym adds) (record { pieces = []; are = sym (append-nil old.pieces); names = omega (arith, length-append old.names names) })
step_more h old mid (Types first texts) adds = subst (HeldMore old) (sym adds.1) (record { pieces = []; are = sym (append-nil old.pieces); names = omega arith })
step_more h old mid (Words first texts) adds = subst (HeldMore old) (sym adds.1) (record { pieces = []; are = sym (append-nil old.pieces); names = omega arith })
step_more h old mid (Segment s) adds = subst (HeldMore old) (sym adds.2) (record { pieces = piece_of s adds.0 ∷ []; are = refl; names = omega arith })

run_more : (h : Header) (old new : Held) (es : List JournalEntry) → Run h old es new → HeldMore old new
run_more h old new [] run = subst (HeldMore old) (sym run) (same_held old)
run_more h old new (e ∷ es) run =
    let one = step_more h old run.0 e run.1 in
    let rest = run_more h run.0 new es run.2 in
    record {
      pieces = one.pieces ++ rest.pieces;
      are = rest.are ∙ (ap (λ l. l ++ rest.pieces) one.are ∙ append_assoc old.pieces one.pieces rest.pieces);
      names = omega (arith, one.names, rest.names);
    }

none_left : (xs : Texts) → length xs ≡ 0 → xs ≡ []
none_left [] is = refl
none_left (x ∷ xs) is = absurd (omega (arith, is))

or_false : (b : Bool) → (b || false) ≡ b
or_false true = refl
or_false false = refl

or_assoc : (a b c : Bool) → ((a || b) || c) ≡ (a || (b || c))
or_assoc true b c = refl
or_assoc false b c = refl

ended_joined : (file : ℕ) (ps qs : List Piece) → is_ended file (ps ++ qs) ≡ (is_ended file ps || is_ended file qs)
ended_joined file [] qs = refl
ended_joined file (p ∷ ps) qs =
    ap (λ b. (p.file == file && p.last && p.ended) || b) (ended_joined file ps qs) ∙ sym (or_assoc (p.file == file && p.last && p.ended) (is_ended file ps) (is_ended file qs))

-- a file that is not whole is not ended
ended_whole : (file : ℕ) (ps : List Piece) → is_whole file ps ≡ false → is_ended file ps ≡ false
ended_whole file [] is = refl
ended_whole file (p ∷ ps) is = by_tests (p.file == file) p.last p.ended (is_whole file ps) (is_ended file ps) is (ended_whole file ps)
  where
    by_tests : (a b c w e : Bool) → ((a && b) || w) ≡ false → (w ≡ false → e ≡ false) → (((a && b) && c) || e) ≡ false
    by_tests true true c w e is rest = absurd (cc (is))
    by_tests true false c w e is rest = rest is
    by_tests false b c w e is rest = rest is

pub all_canonical : (version : ℕ) (rows : List Row) (types words more_types more_words ms : Texts) → IsPrefix types more_types → IsPrefix words more_words
    → AreCanonical version rows types words ms → AreCanonical version rows more_types more_words ms
all_canonical version [] types words more_types more_words [] a b are = tt
all_canonical version [] types words more_types more_words (m ∷ ms) a b are = are
all_canonical version (r ∷ rows) types words more_types more_words [] a b are = are
all_canonical version (r ∷ rows) types words more_types more_words (m ∷ ms) a b are =
    (canonical_stays version r types words more_types more_words m a b are.0, all_canonical version rows types words more_types more_words ms a b are.1)

module _ (h : Header) (old es : List JournalEntry) (s : SegmentEntry) (types words noted_types noted_words : Texts) (covered messages : Texts) (file : ℕ)
    (base : List JournalEntry) (held_so : Holds h old file covered false false) (ends : EndsWith h base es s types words) (on : IsPrefix old base) (same : s.file ≡ file) (at : s.first ≡ length covered)
    (types_on : IsPrefix noted_types types) (words_on : IsPrefix noted_words words) (canonical : AreCanonical h.version s.rows noted_types noted_words messages) where
  begins : IsPrefix old ends.before
  begins = prefix_trans old base ends.before on ends.goes_on

  split : (mid : Held) × Run h nothing_held ends.before mid × Run h mid (Segment s ∷ []) ends.legal.held
  split = runs_split h nothing_held ends.legal.held ends.before (Segment s ∷ []) (subst (λ l. Run h nothing_held l ends.legal.held) ends.is ends.legal.run)

  mid : Held
  mid = split.0

  adds : Accepts h mid (Segment s) ends.legal.held
  unfolding mid split
  adds = subst (λ x. Accepts h mid (Segment s) x) (sym split.2.2) split.2.1

  -- others have added nothing to the file
  older : (m : Held) × Run h nothing_held old m × Run h m begins.0 mid
  unfolding mid split begins
  older = runs_split h nothing_held mid old begins.0 (subst (λ l. Run h nothing_held l mid) (sym begins.1) split.1)

  more : HeldMore held_so.held mid
  unfolding begins
  more = run_more h held_so.held mid begins.0 (subst (λ m. Run h m begins.0 mid) (one_held h nothing_held older.0 held_so.held old older.1 held_so.run) older.2)

  before_are : messages_of file mid.pieces ≡ covered ++ messages_of file more.pieces
  before_are = ap (messages_of file) more.are ∙ (messages_joined file held_so.held.pieces more.pieces ∙ ap (λ l. l ++ messages_of file more.pieces) held_so.messages_are)

  begun : length covered ≡ length (messages_of file mid.pieces)
  begun = sym at ∙ (adds.1.first ∙ ap (λ n. length (messages_of n mid.pieces)) same)

  were : messages_of file mid.pieces ≡ covered
  were =
      let nothing : messages_of file more.pieces ≡ [] = none_left _ (omega (arith, begun, ap length before_are, length-append covered (messages_of file more.pieces))) in
      before_are ∙ (ap (λ l. covered ++ l) nothing ∙ append-nil covered)

  open_before : is_whole file mid.pieces ≡ false
  open_before = ap (λ n. is_whole n mid.pieces) (sym same) ∙ adds.1.goes_on

  -- the messages of the segment are these
  these : adds.0 ≡ messages
  unfolding mid split
  these =
      let of_types : mid.types ≡ types_of ends.before = run_types h nothing_held mid ends.before split.1 in
      let of_words : mid.words ≡ words_of ends.before = run_words h nothing_held mid ends.before split.1 in
      one_messages h.version s.rows types words adds.0 messages
      (all_canonical h.version s.rows mid.types mid.words types words adds.0 (subst (λ l. IsPrefix l types) (sym of_types) ends.types_front) (subst (λ l. IsPrefix l words) (sym of_words) ends.words_front) adds.1.canonical)
      (all_canonical h.version s.rows noted_types noted_words types words messages types_on words_on canonical)

  after : ends.legal.held.pieces ≡ mid.pieces ++ piece_of s adds.0 ∷ []
  after = ap (λ (x : Held). x.pieces) adds.2

  pub holds_more : Holds h es file (covered ++ messages) s.last (s.last && s.ended)
  holds_more = record {
    held = ends.legal.held;
    run = ends.legal.run;
    named = subst (λ (x : Held). file < length x.names) (sym adds.2) (omega (arith, held_so.named, more.names));
    messages_are =
        ap (messages_of file) after
        ∙ (messages_joined file mid.pieces (piece_of s adds.0 ∷ [])
        ∙ ap₂ (λ l m. l ++ m) were (ap (λ b. (if b then adds.0 else []) ++ []) (eq-eqb s.file file same) ∙ (append-nil adds.0 ∙ these)));
    whole_is =
        ap (is_whole file) after
        ∙ (whole_joined file mid.pieces (piece_of s adds.0 ∷ [])
        ∙ (ap₂ (λ a b. a || ((b && s.last) || false)) open_before (eq-eqb s.file file same) ∙ or_false s.last));
    ended_is =
        ap (is_ended file) after
        ∙ (ended_joined file mid.pieces (piece_of s adds.0 ∷ [])
        ∙ (ap₂ (λ a b. a || (((b && s.last) && s.ended) || false)) (ended_whole file mid.pieces open_before) (eq-eqb s.file file same) ∙ or_false (s.last && s.ended)));
  }
