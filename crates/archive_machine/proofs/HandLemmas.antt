-- Hands, counts of messages, and texts that are numbered below a count.
use Rattle.std.proofs.Common.{◌≡◌, ◌≢◌, ℕ, zero, suc, ◌+◌, ◌<◌, List, [], ◌∷◌, ◌++◌, length, map, take, All, refl, sym, ◌∙◌, ap, subst, arith, length-append}
use Rattle.std.specs.Prelude.{Bool, true, false, ◌==◌, ◌||◌, ◌&&◌, if◌then◌else◌, Some, slice_get}
use Rattle.std.proofs.lemmas.Bool.{eqb-true, eq-eqb, ne_eqb}
use Rattle.std.proofs.lemmas.List.{append-nil}
use Rattle.std.proofs.lemmas.List.Elements.{All-head, All-tail}
use Rattle.std.proofs.lemmas.Option.{get_or_from_slice_get}
use mathlib.Core.List.{IsPrefix}
use Rattle.logtype_text.specs.declared.symbols.Kind.TheVariants.{Whole, Word, Decimal}
use Rattle.logtype_text.specs.Parts.{Part, Constant, Variable, symbol_of}
use Rattle.logtype_text.specs.TypeText.{type_text}
use Rattle.record_format.specs.declared.header.Header.{Header}
use Rattle.column_store.specs.declared.row.Row.{Row}
use Rattle.row_codec.specs.Means.{AreCanonical, EachWord, HasWord, IsCanonical}
use Rattle.row_codec.specs.Numbers.{kinds_from, numbers_of_row, word_numbers}
use Rattle.row_codec.proofs.EncoderLemmas.{kinds_are, slots}
use Rattle.row_codec.proofs.MeansLemmas.{canonical_stays}
use Rattle.archive_meaning.specs.declared.entry.SegmentEntry.{SegmentEntry}
use Rattle.archive_meaning.specs.declared.entry.JournalEntry.{JournalEntry}
use Rattle.archive_meaning.specs.declared.entry.JournalEntry.TheVariants.{Files, Types, Words, Segment}
use Rattle.archive_meaning.specs.Held.{Held, messages_of, is_whole}
use Rattle.archive_meaning.specs.Legal.{Run, piece_of}
use Rattle.archive_meaning.proofs.SumsLemmas.{messages_joined, whole_joined}
use Rattle.archive_machine.specs.declared.state.Hand.{Hand}
use Rattle.archive_machine.specs.Machine.{IsSaved, count_of, is_closed, rows_of, with_rows}

-- ---- hands

abbrev changed : Bool → ℕ → List Row → Hand → List Hand → List Hand
changed b worker rows hand hands = if b then record { worker = hand.worker; rows = rows } ∷ hands else hand ∷ with_rows worker rows hands

pub own_rows : (worker : ℕ) (rows : List Row) (hands : List Hand) → rows_of worker (with_rows worker rows hands) ≡ rows
own_rows worker rows [] = ap (λ b. if b then rows else []) (eq-eqb worker worker refl)
own_rows worker rows (hand ∷ hands) = by_test (own_rows worker rows hands) (hand.worker == worker) refl where
  by_test : rows_of worker (with_rows worker rows hands) ≡ rows → (b : Bool) → hand.worker == worker ≡ b → rows_of worker (with_rows worker rows (hand ∷ hands)) ≡ rows
  by_test rest true is = ap (λ b. rows_of worker (changed b worker rows hand hands)) is ∙ ap (λ b. if b then rows else rows_of worker hands) is
  by_test rest false is =
      ap (λ b. rows_of worker (changed b worker rows hand hands)) is
      ∙ ap (λ b. if b then hand.rows else rows_of worker (with_rows worker rows hands)) is
      ∙ rest

pub other_rows : (worker other : ℕ) (rows : List Row) (hands : List Hand) → worker ≢ other → rows_of other (with_rows worker rows hands) ≡ rows_of other hands
other_rows worker other rows [] apart = ap (λ b. if b then rows else []) (ne_eqb worker other apart)
other_rows worker other rows (hand ∷ hands) apart = by_test (other_rows worker other rows hands apart) (hand.worker == worker) refl where
  by_test : rows_of other (with_rows worker rows hands) ≡ rows_of other hands → (b : Bool) → hand.worker == worker ≡ b
      → rows_of other (with_rows worker rows (hand ∷ hands)) ≡ rows_of other (hand ∷ hands)
  by_test rest true is =
      let not_here : hand.worker == other ≡ false = ne_eqb hand.worker other (λ e. apart (sym (eqb-true hand.worker worker is) ∙ e)) in
      ap (λ b. rows_of other (changed b worker rows hand hands)) is
      ∙ ap (λ b. if b then rows else rows_of other hands) not_here
      ∙ sym (ap (λ b. if b then hand.rows else rows_of other hands) not_here)
  by_test rest false is =
      ap (λ b. rows_of other (changed b worker rows hand hands)) is ∙ ap (λ l. if hand.worker == other then hand.rows else l) rest

-- ---- counts

pub count_joined : (file : ℕ) (es fs : List JournalEntry) → count_of file (es ++ fs) ≡ count_of file es + count_of file fs
count_joined file [] fs = omega arith
count_joined file (Files names ∷ es) fs = count_joined file es fs
count_joined file (Types first texts ∷ es) fs = count_joined file es fs
count_joined file (Words first texts ∷ es) fs = count_joined file es fs
count_joined file (Segment s ∷ es) fs = omega (arith, count_joined file es fs)

or_assoc : (a b c : Bool) → (a || b) || c ≡ a || (b || c)
or_assoc true b c = refl
or_assoc false b c = refl

pub or_false : (b : Bool) → b || false ≡ b
or_false true = refl
or_false false = refl

pub closed_joined : (file : ℕ) (es fs : List JournalEntry) → is_closed file (es ++ fs) ≡ is_closed file es || is_closed file fs
closed_joined file [] fs = refl
closed_joined file (Files names ∷ es) fs = closed_joined file es fs
closed_joined file (Types first texts ∷ es) fs = closed_joined file es fs
closed_joined file (Words first texts ∷ es) fs = closed_joined file es fs
closed_joined file (Segment s ∷ es) fs =
    ap (λ b. (s.file == file && s.last) || b) (closed_joined file es fs) ∙ sym (or_assoc (s.file == file && s.last) (is_closed file es) (is_closed file fs))

pub canonical_length : (version : ℕ) (rows : List Row) (types words messages : List (List ℕ)) → AreCanonical version rows types words messages → length rows ≡ length messages
canonical_length version [] types words [] are = refl
canonical_length version [] types words (m ∷ messages) are = absurd are
canonical_length version (r ∷ rows) types words [] are = absurd are
canonical_length version (r ∷ rows) types words (m ∷ messages) are = ap suc (canonical_length version rows types words messages are.1)

-- the messages of a file that are held are as many as its segments have rows
pub piece_count : (file : ℕ) (s : SegmentEntry) (messages : List (List ℕ)) → length s.rows ≡ length messages
    → length (messages_of file (piece_of s messages ∷ [])) ≡ (if s.file == file then length s.rows else 0)
piece_count file s messages same = by_test (s.file == file) where
  by_test : (b : Bool) → length ((if b then messages else []) ++ []) ≡ (if b then length s.rows else 0)
  by_test true = ap length (append-nil messages) ∙ sym same
  by_test false = refl

pub counts_held : (h : Header) (old more : Held) (es : List JournalEntry) (file : ℕ) → Run h old es more
    → length (messages_of file more.pieces) ≡ length (messages_of file old.pieces) + count_of file es
counts_held h old more [] file run = omega (arith, ap (λ (x : Held). length (messages_of file x.pieces)) run)
counts_held h old more (Files names ∷ es) file run =
    counts_held h run.0 more es file run.2 ∙ ap (λ (x : Held). length (messages_of file x.pieces) + count_of file es) run.1
counts_held h old more (Types first texts ∷ es) file run =
    counts_held h run.0 more es file run.2 ∙ ap (λ (x : Held). length (messages_of file x.pieces) + count_of file es) run.1.1
counts_held h old more (Words first texts ∷ es) file run =
    counts_held h run.0 more es file run.2 ∙ ap (λ (x : Held). length (messages_of file x.pieces) + count_of file es) run.1.1
counts_held h old more (Segment s ∷ es) file run =
    let messages : List (List ℕ) = run.1.0 in
    let long = canonical_length h.version s.rows old.types old.words messages run.1.1.canonical in
    omega (
      arith,
      counts_held h run.0 more es file run.2,
      ap (λ (x : Held). length (messages_of file x.pieces)) run.1.2,
      ap length (messages_joined file old.pieces (piece_of s messages ∷ [])),
      length-append (messages_of file old.pieces) (messages_of file (piece_of s messages ∷ [])),
      piece_count file s messages long,
    )

pub closed_held : (h : Header) (old more : Held) (es : List JournalEntry) (file : ℕ) → Run h old es more
    → is_whole file more.pieces ≡ is_whole file old.pieces || is_closed file es
closed_held h old more [] file run = ap (λ (x : Held). is_whole file x.pieces) run ∙ sym (or_false (is_whole file old.pieces))
closed_held h old more (Files names ∷ es) file run =
    closed_held h run.0 more es file run.2 ∙ ap (λ (x : Held). is_whole file x.pieces || is_closed file es) run.1
closed_held h old more (Types first texts ∷ es) file run =
    closed_held h run.0 more es file run.2 ∙ ap (λ (x : Held). is_whole file x.pieces || is_closed file es) run.1.1
closed_held h old more (Words first texts ∷ es) file run =
    closed_held h run.0 more es file run.2 ∙ ap (λ (x : Held). is_whole file x.pieces || is_closed file es) run.1.1
closed_held h old more (Segment s ∷ es) file run =
    let messages : List (List ℕ) = run.1.0 in
    closed_held h run.0 more es file run.2
    ∙ ap (λ (x : Held). is_whole file x.pieces || is_closed file es) run.1.2
    ∙ ap (λ b. b || is_closed file es) (whole_joined file old.pieces (piece_of s messages ∷ []))
    ∙ or_assoc (is_whole file old.pieces) (is_whole file (piece_of s messages ∷ [])) (is_closed file es)
    ∙ ap (λ b. is_whole file old.pieces || (b || is_closed file es)) (or_false (s.file == file && s.last))

-- ---- numbers below a count

pub taken_at : {A : Type 0} (xs : List A) (n k : ℕ) (x : A) → k < n → slice_get xs k ≡ Some x → slice_get (take n xs) k ≡ Some x
taken_at [] zero k x low at = at
taken_at [] (suc n) k x low at = at
taken_at (y ∷ xs) zero k x low at = absurd (omega (arith, low))
taken_at (y ∷ xs) (suc n) zero x low at = at
taken_at (y ∷ xs) (suc n) (suc k) x low at = taken_at xs n k x (omega (arith, low)) at

words_below : (words : List (List ℕ)) (n : ℕ) (parts : List Part) (row : List ℕ) → EachWord (HasWord words) parts row
    → All (λ w. w < n) (word_numbers (slots parts) row) → EachWord (HasWord (take n words)) parts row
words_below words n [] [] has low = tt
words_below words n [] (w ∷ row) has low = absurd has
words_below words n (Constant b ∷ parts) row has low = words_below words n parts row has low
words_below words n (Variable kind text ∷ parts) [] has low = absurd has
words_below words n (Variable Whole text ∷ parts) (w ∷ row) has low = (has.0, words_below words n parts row has.1 low)
words_below words n (Variable Decimal text ∷ parts) (w ∷ row) has low = (has.0, words_below words n parts row has.1 low)
words_below words n (Variable Word text ∷ parts) (w ∷ row) has low =
    let rest : List ℕ = word_numbers (slots parts) row in
    let here : w < n = All-head (λ x. x < n) w rest low in (
      (has.0.0, taken_at words n w text here has.0.1),
      words_below words n parts row has.1 (All-tail (λ x. x < n) w rest low),
    )

-- a row whose numbers are below the saved counts is the encoding of its message by the saved texts
pub canonical_below : (version : ℕ) (row : Row) (types words : List (List ℕ)) (saved_types saved_words : ℕ) (message : List ℕ)
    → IsCanonical version row types words message → IsSaved types saved_types saved_words row
    → IsCanonical version row (take saved_types types) (take saved_words words) message
canonical_below version row types words saved_types saved_words message is saved =
    let parts : List Part = is.means.parts in
    let same : numbers_of_row types row ≡ word_numbers (slots parts) row.words =
    ap (λ t. word_numbers (kinds_from false t) row.words) (get_or_from_slice_get types row.log_type (type_text (map symbol_of parts)) [] is.means.typed)
    ∙ ap (λ k. word_numbers k row.words) (kinds_are parts) in
    record {
      means = record {
        stamp = is.means.stamp;
        parts = parts;
        typed = taken_at types saved_types row.log_type (type_text (map symbol_of parts)) saved.log_type is.means.typed;
        coded = words_below words saved_words parts row.words is.means.coded (subst (λ ns. All (λ w. w < saved_words) ns) same saved.words);
        stamped = is.means.stamped;
        is = is.means.is;
      };
      body = is.body;
      stamp = is.stamp;
    }

pub all_below : (version : ℕ) (rows : List Row) (types words : List (List ℕ)) (saved_types saved_words : ℕ) (messages : List (List ℕ))
    → AreCanonical version rows types words messages → All (IsSaved types saved_types saved_words) rows
    → AreCanonical version rows (take saved_types types) (take saved_words words) messages
all_below version [] types words saved_types saved_words [] are saved = are
all_below version [] types words saved_types saved_words (m ∷ messages) are saved = absurd are
all_below version (r ∷ rows) types words saved_types saved_words [] are saved = absurd are
all_below version (r ∷ rows) types words saved_types saved_words (m ∷ messages) are saved = (
  canonical_below version r types words saved_types saved_words m are.0 (All-head (IsSaved types saved_types saved_words) r rows saved),
  all_below version rows types words saved_types saved_words messages are.1 (All-tail (IsSaved types saved_types saved_words) r rows saved),
)

-- rows stay encodings when texts are added
pub all_stay : (version : ℕ) (rows : List Row) (types words more_types more_words messages : List (List ℕ))
    → IsPrefix types more_types → IsPrefix words more_words
    → AreCanonical version rows types words messages → AreCanonical version rows more_types more_words messages
all_stay version [] types words more_types more_words [] types_front words_front are = are
all_stay version [] types words more_types more_words (m ∷ messages) types_front words_front are = absurd are
all_stay version (r ∷ rows) types words more_types more_words [] types_front words_front are = absurd are
all_stay version (r ∷ rows) types words more_types more_words (m ∷ messages) types_front words_front are = (
  canonical_stays version r types words more_types more_words m types_front words_front are.0,
  all_stay version rows types words more_types more_words messages types_front words_front are.1,
)

-- a row and a message more
pub canonical_push : (version : ℕ) (rows : List Row) (types words messages : List (List ℕ)) (row : Row) (message : List ℕ)
    → AreCanonical version rows types words messages → IsCanonical version row types words message
    → AreCanonical version (rows ++ row ∷ []) types words (messages ++ message ∷ [])
canonical_push version [] types words [] row message are is = (is, tt)
canonical_push version [] types words (m ∷ messages) row message are is = absurd are
canonical_push version (r ∷ rows) types words [] row message are is = absurd are
canonical_push version (r ∷ rows) types words (m ∷ messages) row message are is =
    (are.0, canonical_push version rows types words messages row message are.1 is)
