-- What every state keeps, event by event.
use Rattle.std.proofs.Common.{◌≡◌, ◌≢◌, inl, inr, ℕ, ◌+◌, ◌^◌, ◌<◌, ◌≤◌, List, [], ◌∷◌, ◌++◌, length, take, drop, All, refl, sym, ◌∙◌, ap, subst, arith, length-append, take_all, take-append-drop, length-take-le, length-drop, get_or}
use Rattle.std.specs.Prelude.{true, false, ◌==◌, ◌||◌, ◌&&◌, if◌then◌else◌}
use Rattle.std.proofs.lemmas.Bool.{cases_eq, eq-eqb, ne_eqb}
use Rattle.std.proofs.lemmas.List.{append-nil, take-append-le, take_more}
use Rattle.std.proofs.lemmas.List.Elements.{All-nil, All-push}
use mathlib.Core.List.{IsPrefix}
use Rattle.logtype_text.specs.Fair.{IsFairType, IsFairWord}
use Rattle.record_format.specs.declared.header.Header.{Header}
use Rattle.column_store.specs.declared.row.Row.{Row}
use Rattle.column_store.specs.Row.{IsRow, variable_count}
use Rattle.row_codec.specs.Means.{AreCanonical}
use Rattle.row_codec.specs.Messages.{IsMessage}
use Rattle.row_codec.specs.declared.namer.Which.TheVariants.{Types as OfTypes, Words as OfWords}
use Rattle.archive_meaning.specs.declared.TheConstants.{MAX_ROWS, MAX_MESSAGES}
use Rattle.archive_meaning.specs.declared.entry.SegmentEntry.{SegmentEntry}
use Rattle.archive_meaning.specs.declared.entry.JournalEntry.{JournalEntry}
use Rattle.archive_meaning.specs.declared.entry.JournalEntry.TheVariants.{Types, Words, Segment}
use Rattle.archive_meaning.specs.Held.{Held, nothing_held, messages_of, is_whole}
use Rattle.archive_meaning.specs.Legal.{AddsSegment, AddsTexts, IsBook, piece_of}
use Rattle.archive_meaning.proofs.RunLemmas.{runs_go_on}
use Rattle.archive_core.proofs.TextsLemmas.{book_more}
use Rattle.archive_machine.specs.declared.state.Core.{Core}
use Rattle.archive_machine.specs.declared.state.Hand.{Hand}
use Rattle.archive_machine.specs.declared.event.Event.{Event}
use Rattle.archive_machine.specs.declared.event.Event.TheVariants.{Name, Add, Save, Seal}
use Rattle.archive_machine.specs.Machine.{CanAdd, CanName, CanSeal, IsHand, IsKept, Leads, Runs, Steps, count_of, is_closed, nothing_yet, rows_of, sealed, with_rows}
use Rattle.archive_machine.specs.Laws.{AlwaysKept, StepsGrow}
use Rattle.archive_machine.proofs.HandLemmas.{all_below, all_stay, canonical_push, closed_held, closed_joined, count_joined, counts_held, or_false, other_rows, own_rows}

-- ---- each step leaves the old texts in front

pub same_front : {A : Type 0} (xs : List A) → IsPrefix xs xs
same_front xs = ([], append-nil xs)

leads_grow : (h : Header) (c d : Core) (event : Event) → Leads h c event d → IsPrefix c.types d.types × IsPrefix c.words d.words × IsPrefix c.journal d.journal
leads_grow h c d (Name worker OfTypes text) l =
    subst (λ (x : Core). IsPrefix c.types x.types × IsPrefix c.words x.words × IsPrefix c.journal x.journal) (sym l.1)
    ((text ∷ [], refl), same_front c.words, same_front c.journal)
leads_grow h c d (Name worker OfWords text) l =
    subst (λ (x : Core). IsPrefix c.types x.types × IsPrefix c.words x.words × IsPrefix c.journal x.journal) (sym l.1)
    (same_front c.types, (text ∷ [], refl), same_front c.journal)
leads_grow h c d (Add worker message) l =
    subst (λ (x : Core). IsPrefix c.types x.types × IsPrefix c.words x.words × IsPrefix c.journal x.journal) (sym l.2)
    (same_front c.types, same_front c.words, same_front c.journal)
leads_grow h c d (Save OfTypes) l =
    subst (λ (x : Core). IsPrefix c.types x.types × IsPrefix c.words x.words × IsPrefix c.journal x.journal) (sym l.1)
    (same_front c.types, same_front c.words, (Types c.saved_types (drop c.saved_types c.types) ∷ [], refl))
leads_grow h c d (Save OfWords) l =
    subst (λ (x : Core). IsPrefix c.types x.types × IsPrefix c.words x.words × IsPrefix c.journal x.journal) (sym l.1)
    (same_front c.types, same_front c.words, (Words c.saved_words (drop c.saved_words c.words) ∷ [], refl))
leads_grow h c d (Seal worker) l =
    subst (λ (x : Core). IsPrefix c.types x.types × IsPrefix c.words x.words × IsPrefix c.journal x.journal) (sym l.1)
    (same_front c.types, same_front c.words, (Segment (sealed worker (count_of worker c.journal) (rows_of worker c.hands)) ∷ [], refl))

pub steps_grow : StepsGrow
steps_grow h c d event (inl l) = leads_grow h c d event l
steps_grow h c d event (inr none) =
    subst (λ (x : Core). IsPrefix c.types x.types × IsPrefix c.words x.words × IsPrefix c.journal x.journal) (sym none.1)
    (same_front c.types, same_front c.words, same_front c.journal)

-- ---- a hand stays one where texts are added and its file does not change

same_hand : (h : Header) (c d : Core) (worker : ℕ) (rows : List Row) (messages : List (List ℕ)) → IsPrefix c.types d.types → IsPrefix c.words d.words
    → count_of worker d.journal ≡ count_of worker c.journal → is_closed worker d.journal ≡ is_closed worker c.journal
    → IsHand h c worker rows messages → IsHand h d worker rows messages
same_hand h c d worker rows messages types words count closed hand = record {
  canonical = all_stay h.version rows c.types c.words d.types d.words messages types words hand.canonical;
  each = hand.each;
  fit = hand.fit;
  few = hand.few;
  variables = hand.variables;
  most = omega (arith, hand.most, count);
  none = λ is. hand.none (sym closed ∙ is);
}

-- all hands stay
same_hands : (h : Header) (c d : Core) → IsPrefix c.types d.types → IsPrefix c.words d.words → d.hands ≡ c.hands
    → ((worker : ℕ) → count_of worker d.journal ≡ count_of worker c.journal) → ((worker : ℕ) → is_closed worker d.journal ≡ is_closed worker c.journal)
    → ((worker : ℕ) → (messages : List (List ℕ)) × IsHand h c worker (rows_of worker c.hands) messages)
    → (worker : ℕ) → (messages : List (List ℕ)) × IsHand h d worker (rows_of worker d.hands) messages
same_hands h c d types words hands count closed all worker = (
  (all worker).0,
  subst (λ (l : List Hand). IsHand h d worker (rows_of worker l) (all worker).0) (sym hands)
      (same_hand h c d worker (rows_of worker c.hands) (all worker).0 types words (count worker) (closed worker) (all worker).1),
)

-- ---- names

kept_type : (h : Header) (c : Core) (text : List ℕ) → IsKept h c → CanName IsFairType h.types_limit c.types text
    → IsKept h (record c { types = c.types ++ text ∷ [] })
kept_type h c text kept can = record {
  types_book = book_more IsFairType h.types_limit c.types text kept.types_book can.fair can.new can.room;
  words_book = kept.words_book;
  few_types = omega (arith, kept.few_types, length-append c.types (text ∷ []));
  few_words = kept.few_words;
  held = kept.held;
  run = kept.run;
  held_types = kept.held_types ∙ sym (take-append-le c.saved_types c.types (text ∷ []) kept.few_types);
  held_words = kept.held_words;
  hands = same_hands h c (record c { types = c.types ++ text ∷ [] }) (text ∷ [], refl) (same_front c.words) refl (λ w. refl) (λ w. refl) kept.hands;
}

kept_word : (h : Header) (c : Core) (text : List ℕ) → IsKept h c → CanName IsFairWord h.words_limit c.words text
    → IsKept h (record c { words = c.words ++ text ∷ [] })
kept_word h c text kept can = record {
  types_book = kept.types_book;
  words_book = book_more IsFairWord h.words_limit c.words text kept.words_book can.fair can.new can.room;
  few_types = kept.few_types;
  few_words = omega (arith, kept.few_words, length-append c.words (text ∷ []));
  held = kept.held;
  run = kept.run;
  held_types = kept.held_types;
  held_words = kept.held_words ∙ sym (take-append-le c.saved_words c.words (text ∷ []) kept.few_words);
  hands = same_hands h c (record c { words = c.words ++ text ∷ [] }) (same_front c.types) (text ∷ [], refl) refl (λ w. refl) (λ w. refl) kept.hands;
}

-- ---- saves

saved_texts : (IsFair : List ℕ → Type 0) (limit saved : ℕ) (texts held : List (List ℕ)) → IsBook IsFair limit texts → held ≡ take saved texts → saved < length texts
    → AddsTexts IsFair limit held saved (drop saved texts)
saved_texts IsFair limit saved texts held book is some = record {
  some = omega (arith, length-drop saved texts, some);
  behind = omega (arith, ap length is, length-take-le saved texts (omega (arith, some)));
  book = subst (λ l. IsBook IsFair limit l) (sym (ap (λ l. l ++ drop saved texts) is ∙ take-append-drop saved texts)) book;
}

all_saved : (saved : ℕ) (texts held : List (List ℕ)) → held ≡ take saved texts → held ++ drop saved texts ≡ take (length texts) texts
all_saved saved texts held is =
    let least : length texts ≤ length texts = omega arith in
    ap (λ l. l ++ drop saved texts) is ∙ take-append-drop saved texts ∙ sym (take_all (length texts) texts least)

pub count_same : (file : ℕ) (es : List JournalEntry) (e : JournalEntry) → count_of file (e ∷ []) ≡ 0 → count_of file (es ++ e ∷ []) ≡ count_of file es
count_same file es e none = omega (arith, count_joined file es (e ∷ []), none)

pub closed_same : (file : ℕ) (es : List JournalEntry) (e : JournalEntry) → is_closed file (e ∷ []) ≡ false → is_closed file (es ++ e ∷ []) ≡ is_closed file es
closed_same file es e none = closed_joined file es (e ∷ []) ∙ ap (λ b. is_closed file es || b) none ∙ or_false (is_closed file es)

kept_types : (h : Header) (c : Core) → IsKept h c → c.saved_types < length c.types
    → IsKept h (record c { saved_types = length c.types; journal = c.journal ++ Types c.saved_types (drop c.saved_types c.types) ∷ [] })
kept_types h c kept some =
    let new : List (List ℕ) = drop c.saved_types c.types in
    let e : JournalEntry = Types c.saved_types new in
    let d : Core = record c { saved_types = length c.types; journal = c.journal ++ e ∷ [] } in
    let more : Held = record kept.held { types = kept.held.types ++ new } in
    record {
      types_book = kept.types_book;
      words_book = kept.words_book;
      few_types = omega arith;
      few_words = kept.few_words;
      held = more;
      run = runs_go_on h nothing_held kept.held more c.journal (e ∷ []) kept.run
          (more, (saved_texts IsFairType h.types_limit c.saved_types c.types kept.held.types kept.types_book kept.held_types some, refl), refl);
      held_types = all_saved c.saved_types c.types kept.held.types kept.held_types;
      held_words = kept.held_words;
      hands = same_hands h c d (same_front c.types) (same_front c.words) refl
          (λ w. count_same w c.journal e refl) (λ w. closed_same w c.journal e refl) kept.hands;
    }

kept_words : (h : Header) (c : Core) → IsKept h c → c.saved_words < length c.words
    → IsKept h (record c { saved_words = length c.words; journal = c.journal ++ Words c.saved_words (drop c.saved_words c.words) ∷ [] })
kept_words h c kept some =
    let new : List (List ℕ) = drop c.saved_words c.words in
    let e : JournalEntry = Words c.saved_words new in
    let d : Core = record c { saved_words = length c.words; journal = c.journal ++ e ∷ [] } in
    let more : Held = record kept.held { words = kept.held.words ++ new } in
    record {
      types_book = kept.types_book;
      words_book = kept.words_book;
      few_types = kept.few_types;
      few_words = omega arith;
      held = more;
      run = runs_go_on h nothing_held kept.held more c.journal (e ∷ []) kept.run
          (more, (saved_texts IsFairWord h.words_limit c.saved_words c.words kept.held.words kept.words_book kept.held_words some, refl), refl);
      held_types = kept.held_types;
      held_words = all_saved c.saved_words c.words kept.held.words kept.held_words;
      hands = same_hands h c d (same_front c.types) (same_front c.words) refl
          (λ w. count_same w c.journal e refl) (λ w. closed_same w c.journal e refl) kept.hands;
    }

-- ---- a message more

abbrev with_row : Core → ℕ → Row → Core
with_row c worker row = record c { hands = with_rows worker (rows_of worker c.hands ++ row ∷ []) c.hands }

more_in_hand : (h : Header) (c : Core) (worker : ℕ) (message : List ℕ) (row : Row) (messages : List (List ℕ)) → IsHand h c worker (rows_of worker c.hands) messages
    → CanAdd h c worker message row → IsHand h (with_row c worker row) worker (rows_of worker c.hands ++ row ∷ []) (messages ++ message ∷ [])
more_in_hand h c worker message row messages hand can =
    let rows : List Row = rows_of worker c.hands in
    record {
      canonical = canonical_push h.version rows c.types c.words messages row message hand.canonical can.canonical;
      each = All-push (IsMessage h.version) messages message hand.each can.each;
      fit = All-push IsRow rows row hand.fit can.fits;
      few = omega (arith, length-append rows (row ∷ []), can.rows);
      variables = can.variables;
      most = omega (arith, length-append rows (row ∷ []), can.most);
      none = λ is. absurd (let no_end : true ≡ false = sym is ∙ can.goes_on in cc);
    }

kept_row : (h : Header) (c : Core) (worker : ℕ) (message : List ℕ) (row : Row) → IsKept h c → CanAdd h c worker message row → IsKept h (with_row c worker row)
kept_row h c worker message row kept can = record {
  types_book = kept.types_book;
  words_book = kept.words_book;
  few_types = kept.few_types;
  few_words = kept.few_words;
  held = kept.held;
  run = kept.run;
  held_types = kept.held_types;
  held_words = kept.held_words;
  hands = of;
} where
  rows : List Row
  rows = rows_of worker c.hands ++ row ∷ []

  of : (other : ℕ) → (messages : List (List ℕ)) × IsHand h (with_row c worker row) other (rows_of other (with_rows worker rows c.hands)) messages
  of other = elim (cases_eq worker other) as (λ x. (messages : List (List ℕ)) × IsHand h (with_row c worker row) other (rows_of other (with_rows worker rows c.hands)) messages) [
    | inl same ↦
        subst (λ w. (messages : List (List ℕ)) × IsHand h (with_row c worker row) w (rows_of w (with_rows worker rows c.hands)) messages) same (
          (kept.hands worker).0 ++ message ∷ [],
          subst (λ l. IsHand h (with_row c worker row) worker l ((kept.hands worker).0 ++ message ∷ [])) (sym (own_rows worker rows c.hands))
              (more_in_hand h c worker message row (kept.hands worker).0 (kept.hands worker).1 can),
        )
    | inr apart ↦ (
      (kept.hands other).0,
      subst (λ l. IsHand h (with_row c worker row) other l (kept.hands other).0) (sym (other_rows worker other rows c.hands apart))
          (same_hand h c (with_row c worker row) other (rows_of other c.hands) (kept.hands other).0 (same_front c.types) (same_front c.words) refl refl (kept.hands other).1),
    )
  ]

-- ---- a segment

abbrev segment_at : Core → ℕ → SegmentEntry
segment_at c worker = sealed worker (count_of worker c.journal) (rows_of worker c.hands)

abbrev sealed_core : Core → ℕ → Core
sealed_core c worker = record c { journal = c.journal ++ Segment (segment_at c worker) ∷ []; hands = with_rows worker [] c.hands }

sealed_rows : (file first : ℕ) (rows : List Row) → (sealed file first rows).rows ≡ rows
sealed_rows file first [] = refl
sealed_rows file first (r ∷ rows) = refl

sealed_file : (file first : ℕ) (rows : List Row) → (sealed file first rows).file ≡ file
sealed_file file first [] = refl
sealed_file file first (r ∷ rows) = refl

-- what stands in the hand may follow what is held
follows : (version : ℕ) (held : Held) (file first : ℕ) (rows : List Row) (messages : List (List ℕ)) → first ≡ length (messages_of file held.pieces) → is_whole file held.pieces ≡ false
    → first + length rows ≤ MAX_MESSAGES → length rows ≤ MAX_ROWS → variable_count rows < 2 ^ 32 → All IsRow rows
    → AreCanonical version rows held.types held.words messages → All (IsMessage version) messages → AddsSegment version held (sealed file first rows) messages
follows version held file first [] messages at goes_on most few variables fit canonical each = record {
  first = at;
  goes_on = goes_on;
  most = most;
  rows = few;
  variables = variables;
  fit = fit;
  some = λ is. absurd (cc (is));
  ended = λ is. refl;
  end = λ is open_end. absurd (cc (open_end));
  canonical = canonical;
  each = each;
}
follows version held file first (r ∷ rows) messages at goes_on most few variables fit canonical each = record {
  first = at;
  goes_on = goes_on;
  most = most;
  rows = few;
  variables = variables;
  fit = fit;
  some = λ is. omega arith;
  ended = λ is. absurd (cc (is));
  end = λ is open_end. absurd (cc (is));
  canonical = canonical;
  each = each;
}

count_sealed : (h : Header) (c : Core) (worker : ℕ) → count_of worker (sealed_core c worker).journal ≡ count_of worker c.journal + length (rows_of worker c.hands)
count_sealed h c worker =
    let s : SegmentEntry = segment_at c worker in
    let own : (if s.file == worker then length s.rows else 0) ≡ length (rows_of worker c.hands) =
    ap (λ b. if b then length s.rows else 0) (eq-eqb s.file worker (sealed_file worker (count_of worker c.journal) (rows_of worker c.hands)))
    ∙ ap length (sealed_rows worker (count_of worker c.journal) (rows_of worker c.hands)) in
    omega (arith, count_joined worker c.journal (Segment s ∷ []), own)

count_other : (c : Core) (worker other : ℕ) → worker ≢ other → count_of other (sealed_core c worker).journal ≡ count_of other c.journal
count_other c worker other apart =
    let s : SegmentEntry = segment_at c worker in
    let file = sealed_file worker (count_of worker c.journal) (rows_of worker c.hands) in
    count_same other c.journal (Segment s) (ap (λ b. (if b then length s.rows else 0) + 0) (ne_eqb s.file other (λ e. apart (sym file ∙ e))))

closed_other : (c : Core) (worker other : ℕ) → worker ≢ other → is_closed other (sealed_core c worker).journal ≡ is_closed other c.journal
closed_other c worker other apart =
    let s : SegmentEntry = segment_at c worker in
    let file = sealed_file worker (count_of worker c.journal) (rows_of worker c.hands) in
    closed_same other c.journal (Segment s) (ap (λ b. (b && s.last) || false) (ne_eqb s.file other (λ e. apart (sym file ∙ e))))

nothing_in_hand : (h : Header) (c : Core) (worker : ℕ) → count_of worker c.journal ≤ MAX_MESSAGES → IsHand h c worker [] []
nothing_in_hand h c worker most = record {
  canonical = tt;
  each = All-nil (IsMessage h.version);
  fit = All-nil IsRow;
  few = omega arith;
  variables = omega arith;
  most = omega (arith, most);
  none = λ is. refl;
}

kept_sealed : (h : Header) (c : Core) (worker : ℕ) → IsKept h c → CanSeal c worker → IsKept h (sealed_core c worker)
kept_sealed h c worker kept can = record {
  types_book = kept.types_book;
  words_book = kept.words_book;
  few_types = kept.few_types;
  few_words = kept.few_words;
  held = more;
  run = runs_go_on h nothing_held kept.held more c.journal (Segment s ∷ []) kept.run (more, (messages, adds, refl), refl);
  held_types = kept.held_types;
  held_words = kept.held_words;
  hands = of;
} where
  rows : List Row
  rows = rows_of worker c.hands

  s : SegmentEntry
  s = segment_at c worker

  messages : List (List ℕ)
  messages = (kept.hands worker).0

  hand : IsHand h c worker rows messages
  hand = (kept.hands worker).1

  more : Held
  more = record kept.held { pieces = kept.held.pieces ++ piece_of s messages ∷ [] }

  canonical : AreCanonical h.version rows kept.held.types kept.held.words messages
  canonical =
      subst (λ l. AreCanonical h.version rows l kept.held.words messages) (sym kept.held_types)
      (subst (λ l. AreCanonical h.version rows (take c.saved_types c.types) l messages) (sym kept.held_words)
      (all_below h.version rows c.types c.words c.saved_types c.saved_words messages hand.canonical can.saved))

  at : count_of worker c.journal ≡ length (messages_of worker kept.held.pieces)
  at = omega (arith, counts_held h nothing_held kept.held c.journal worker kept.run)

  goes_on : is_whole worker kept.held.pieces ≡ false
  goes_on = closed_held h nothing_held kept.held c.journal worker kept.run ∙ can.goes_on

  adds : AddsSegment h.version kept.held s messages
  adds = follows h.version kept.held worker (count_of worker c.journal) rows messages at goes_on hand.most hand.few hand.variables hand.fit canonical hand.each

  of : (other : ℕ) → (ms : List (List ℕ)) × IsHand h (sealed_core c worker) other (rows_of other (with_rows worker [] c.hands)) ms
  of other = elim (cases_eq worker other) as (λ x. (ms : List (List ℕ)) × IsHand h (sealed_core c worker) other (rows_of other (with_rows worker [] c.hands)) ms) [
    | inl same ↦
        subst (λ w. (ms : List (List ℕ)) × IsHand h (sealed_core c worker) w (rows_of w (with_rows worker [] c.hands)) ms) same (
          [],
          subst (λ l. IsHand h (sealed_core c worker) worker l []) (sym (own_rows worker [] c.hands))
              (nothing_in_hand h (sealed_core c worker) worker (omega (arith, count_sealed h c worker, hand.most))),
        )
    | inr apart ↦ (
      (kept.hands other).0,
      subst (λ l. IsHand h (sealed_core c worker) other l (kept.hands other).0) (sym (other_rows worker other [] c.hands apart))
          (same_hand h c (sealed_core c worker) other (rows_of other c.hands) (kept.hands other).0 (same_front c.types) (same_front c.words)
          (count_other c worker other apart) (closed_other c worker other apart) (kept.hands other).1),
    )
  ]

-- ---- every step, every list of events

leads_keep : (h : Header) (c d : Core) (event : Event) → Leads h c event d → IsKept h c → IsKept h d
leads_keep h c d (Name worker OfTypes text) l kept = subst (IsKept h) (sym l.1) (kept_type h c text kept l.0)
leads_keep h c d (Name worker OfWords text) l kept = subst (IsKept h) (sym l.1) (kept_word h c text kept l.0)
leads_keep h c d (Add worker message) l kept = subst (IsKept h) (sym l.2) (kept_row h c worker message l.0 kept l.1)
leads_keep h c d (Save OfTypes) l kept = subst (IsKept h) (sym l.1) (kept_types h c kept l.0)
leads_keep h c d (Save OfWords) l kept = subst (IsKept h) (sym l.1) (kept_words h c kept l.0)
leads_keep h c d (Seal worker) l kept = subst (IsKept h) (sym l.1) (kept_sealed h c worker kept l.0)

pub step_keeps : (h : Header) (c d : Core) (event : Event) → Steps h c event d → IsKept h c → IsKept h d
step_keeps h c d event (inl l) kept = leads_keep h c d event l kept
step_keeps h c d event (inr none) kept = subst (IsKept h) (sym none.1) kept

nothing_book : (IsFair : List ℕ → Type 0) (limit : ℕ) → IsBook IsFair limit []
nothing_book IsFair limit = record {
  distinct = λ i j t at other. absurd (cc (at));
  fair = All-nil IsFair;
  most = omega arith;
}

pub nothing_kept : (h : Header) → IsKept h nothing_yet
nothing_kept h = record {
  types_book = nothing_book IsFairType h.types_limit;
  words_book = nothing_book IsFairWord h.words_limit;
  few_types = omega arith;
  few_words = omega arith;
  held = nothing_held;
  run = refl;
  held_types = refl;
  held_words = refl;
  hands = λ worker. ([], nothing_in_hand h nothing_yet worker (omega arith));
}

pub runs_keep : (h : Header) (events : List Event) (c d : Core) → Runs h c events d → IsKept h c → IsKept h d
runs_keep h [] c d runs kept = subst (IsKept h) (sym runs) kept
runs_keep h (event ∷ events) c d runs kept = runs_keep h events runs.0 d runs.2 (step_keeps h c runs.0 event runs.1 kept)

pub always_kept : AlwaysKept
always_kept h events c runs = runs_keep h events nothing_yet c runs (nothing_kept h)

-- ---- one event more

runs_then : (h : Header) (events : List Event) (a b c : Core) (event : Event) → Runs h a events b → Steps h b event c → Runs h a (events ++ event ∷ []) c
runs_then h [] a b c event runs step = (c, subst (λ (x : Core). Steps h x event c) runs step, refl)
runs_then h (e ∷ events) a b c event runs step = (runs.0, runs.1, runs_then h events runs.0 b c event runs.2 step)

pub runs_more : (h : Header) (events : List Event) (i : ℕ) (event : Event) (b c : Core) → i < length events → event ≡ get_or events i event
    → Runs h nothing_yet (take i events) b → Steps h b event c → Runs h nothing_yet (take (i + 1) events) c
runs_more h events i event b c low is runs step =
    subst (λ (l : List Event). Runs h nothing_yet l c) (ap (λ (e : Event). take i events ++ e ∷ []) is ∙ sym (take_more events i event low))
    (runs_then h (take i events) nothing_yet b c event runs step)
