-- The events of a journal lead to it, and a list of events leads to one state.
use Rattle.std.proofs.Common.{◌≡◌, ◌≢◌, inl, inr, ℕ, ◌+◌, ◌^◌, ◌<◌, ◌≤◌, List, [], ◌∷◌, ◌++◌, length, drop, All, refl, sym, ◌∙◌, ap, ap₂, subst, arith, length-append}
use Rattle.std.specs.Prelude.{Bool, true, false, ◌==◌, ◌||◌, ◌&&◌, if◌then◌else◌, Some, slice_get}
use Rattle.std.proofs.lemmas.Bool.{cases_eq, eq-eqb}
use Rattle.std.proofs.lemmas.List.{append-nil, append_assoc, drop_at}
use Rattle.std.proofs.lemmas.List.Concat.{flat_map-cons}
use Rattle.std.proofs.lemmas.List.Elements.{All-nil, All-cons, All-head, All-tail}
use Rattle.std.proofs.lemmas.List.Sums.{sum_by-append}
use Rattle.std.proofs.lemmas.Option.{get_or_from_slice_get, slice_get_within}
use Rattle.logtype_text.specs.Fair.{IsFairType, IsFairWord}
use Rattle.record_format.specs.declared.header.Header.{Header}
use Rattle.column_store.specs.declared.row.Row.{Row}
use Rattle.column_store.specs.Row.{IsRow, variable_count}
use Rattle.row_codec.specs.Laws.{OneRow}
use Rattle.row_codec.specs.Means.{AreCanonical, IsCanonical}
use Rattle.row_codec.specs.Messages.{IsMessage}
use Rattle.row_codec.specs.Numbers.{numbers_of_row}
use Rattle.row_codec.specs.declared.namer.Which.{Which}
use Rattle.row_codec.specs.declared.namer.Which.TheVariants.{Types as OfTypes, Words as OfWords}
use Rattle.archive_meaning.specs.declared.TheConstants.{MAX_ROWS, MAX_MESSAGES}
use Rattle.archive_meaning.specs.declared.entry.SegmentEntry.{SegmentEntry}
use Rattle.archive_meaning.specs.declared.entry.JournalEntry.{JournalEntry}
use Rattle.archive_meaning.specs.declared.entry.JournalEntry.TheVariants.{Files, Types, Words, Segment}
use Rattle.archive_meaning.specs.Held.{Held, nothing_held, messages_of}
use Rattle.archive_meaning.specs.Legal.{AddsSegment, AddsTexts, IsBook, Run, piece_of}
use Rattle.archive_meaning.proofs.FormLemmas.{rows_numbers_low}
use Rattle.archive_meaning.proofs.SumsLemmas.{messages_joined, whole_joined}
use Rattle.archive_core.proofs.TextsLemmas.{twice}
use Rattle.archive_machine.specs.declared.state.Core.{Core}
use Rattle.archive_machine.specs.declared.state.Hand.{Hand}
use Rattle.archive_machine.specs.declared.event.Event.{Event}
use Rattle.archive_machine.specs.declared.event.Event.TheVariants.{Name, Add, Save, Seal}
use Rattle.archive_machine.specs.Machine.{CanName, IsKept, IsSaved, Leads, Runs, Steps, count_of, is_closed, nothing_yet, rows_of, sealed, with_rows}
use Rattle.archive_machine.specs.Events.{adds, bare, bare_parts, ending, events_of, namings, seals, writes}
use Rattle.archive_machine.specs.Laws.{EventsLead, LegalGrowth, OneState}
use Rattle.archive_machine.specs.StepsEven.{IsEven}
use Rattle.archive_machine.proofs.HandLemmas.{canonical_length, closed_joined, count_joined, other_rows, own_rows, piece_count}
use Rattle.archive_machine.proofs.KeptLemmas.{closed_same, count_same, nothing_kept, step_keeps}

-- ---- a list of events leads to one state

leads_one : OneRow → (h : Header) (c a b : Core) (event : Event) → IsKept h c → Leads h c event a → Leads h c event b → a ≡ b
leads_one one h c a b (Name worker OfTypes text) kept x y = x.1 ∙ sym y.1
leads_one one h c a b (Name worker OfWords text) kept x y = x.1 ∙ sym y.1
leads_one one h c a b (Add worker message) kept x y =
    let same : x.0 ≡ y.0 = one h.version x.0 y.0 c.types c.words message kept.types_book.distinct kept.words_book.distinct x.1.canonical y.1.canonical in
    x.2 ∙ ap (λ (r : Row). record c { hands = with_rows worker (rows_of worker c.hands ++ r ∷ []) c.hands }) same ∙ sym y.2
leads_one one h c a b (Save OfTypes) kept x y = x.1 ∙ sym y.1
leads_one one h c a b (Save OfWords) kept x y = x.1 ∙ sym y.1
leads_one one h c a b (Seal worker) kept x y = x.1 ∙ sym y.1

steps_one : OneRow → (h : Header) (c a b : Core) (event : Event) → IsKept h c → Steps h c event a → Steps h c event b → a ≡ b
steps_one one h c a b event kept (inl x) (inl y) = leads_one one h c a b event kept x y
steps_one one h c a b event kept (inl x) (inr y) = absurd (y.0 a x)
steps_one one h c a b event kept (inr x) (inl y) = absurd (x.0 b y)
steps_one one h c a b event kept (inr x) (inr y) = x.1 ∙ sym y.1

runs_one : OneRow → (h : Header) (events : List Event) (c a b : Core) → IsKept h c → Runs h c events a → Runs h c events b → a ≡ b
runs_one one h [] c a b kept x y = x ∙ sym y
runs_one one h (event ∷ events) c a b kept x y =
    let same : y.0 ≡ x.0 = steps_one one h c y.0 x.0 event kept y.1 x.1 in
    runs_one one h events x.0 a b (step_keeps h c x.0 event x.1 kept) x.2 (subst (λ (m : Core). Runs h m events b) same y.2)

pub one_state : OneRow → OneState
one_state one h events c d x y = runs_one one h events nothing_yet c d (nothing_kept h) x y

-- ---- runs one behind the other

runs_joined : (h : Header) (es fs : List Event) (a b c : Core) → Runs h a es b → Runs h b fs c → Runs h a (es ++ fs) c
runs_joined h [] fs a b c front back = subst (λ (x : Core). Runs h x fs c) front back
runs_joined h (e ∷ es) fs a b c front back = (front.0, front.1, runs_joined h es fs front.0 b c front.2 back)

-- ---- texts

at_seam : (texts rest : List (List ℕ)) (text : List ℕ) → slice_get (texts ++ text ∷ rest) (length texts) ≡ Some text
at_seam [] rest text = refl
at_seam (t ∷ texts) rest text = at_seam texts rest text

may_name : (IsFair : List ℕ → Type 0) (limit : ℕ) (front rest : List (List ℕ)) (text : List ℕ) → IsBook IsFair limit (front ++ text ∷ rest) → CanName IsFair limit front text
may_name IsFair limit front rest text book = record {
  fair = subst IsFair (get_or_from_slice_get (front ++ text ∷ rest) (length front) text text (at_seam front rest text))
      (book.fair (length front) text (omega (arith, length-append front (text ∷ rest))));
  new = λ i at. twice IsFair limit front rest text i at book;
  room = omega (arith, book.most, length-append front (text ∷ rest));
}

types_named : (h : Header) (texts : List (List ℕ)) (c : Core) → IsBook IsFairType h.types_limit (c.types ++ texts)
    → Runs h c (namings OfTypes texts) (record c { types = c.types ++ texts })
types_named h [] c book = ap (λ (t : List (List ℕ)). record c { types = t }) (append-nil c.types)
types_named h (t ∷ texts) c book =
    let mid : Core = record c { types = c.types ++ t ∷ [] } in
    let joined : (c.types ++ t ∷ []) ++ texts ≡ c.types ++ t ∷ texts = append_assoc c.types (t ∷ []) texts in (
      mid,
      inl (may_name IsFairType h.types_limit c.types texts t book, refl),
      subst (λ (l : List (List ℕ)). Runs h mid (namings OfTypes texts) (record c { types = l })) joined
          (types_named h texts mid (subst (IsBook IsFairType h.types_limit) (sym joined) book)),
    )

words_named : (h : Header) (texts : List (List ℕ)) (c : Core) → IsBook IsFairWord h.words_limit (c.words ++ texts)
    → Runs h c (namings OfWords texts) (record c { words = c.words ++ texts })
words_named h [] c book = ap (λ (t : List (List ℕ)). record c { words = t }) (append-nil c.words)
words_named h (t ∷ texts) c book =
    let mid : Core = record c { words = c.words ++ t ∷ [] } in
    let joined : (c.words ++ t ∷ []) ++ texts ≡ c.words ++ t ∷ texts = append_assoc c.words (t ∷ []) texts in (
      mid,
      inl (may_name IsFairWord h.words_limit c.words texts t book, refl),
      subst (λ (l : List (List ℕ)). Runs h mid (namings OfWords texts) (record c { words = l })) joined
          (words_named h texts mid (subst (IsBook IsFairWord h.words_limit) (sym joined) book)),
    )

-- the events of the entries led to a state with them behind the journal
pub record HasLed (h : Header) (c : Core) (events : List Event) (entries : List JournalEntry) (held : Held) : Type 0 where
  pub state : Core
  pub runs : Runs h c events state
  pub journal : state.journal ≡ c.journal ++ entries
  pub even : IsEven held state

behind_saved : (saved : ℕ) (old texts : List (List ℕ)) → saved ≡ length old → drop saved (old ++ texts) ≡ texts
behind_saved saved old texts is = ap (λ n. drop n (old ++ texts)) is ∙ drop_at old texts (length old) refl

types_lead : (h : Header) (held : Held) (c : Core) (first : ℕ) (texts : List (List ℕ)) → IsEven held c → AddsTexts IsFairType h.types_limit held.types first texts
    → HasLed h c (namings OfTypes texts ++ Save OfTypes ∷ []) (Types first texts ∷ []) (record held { types = held.types ++ texts })
types_lead h held c first texts even adds =
    let mid : Core = record c { types = c.types ++ texts } in
    let e : JournalEntry = Types c.saved_types (drop c.saved_types mid.types) in
    let end : Core = record mid { saved_types = length mid.types; journal = c.journal ++ e ∷ [] } in
    let long : length mid.types ≡ length c.types + length texts = length-append c.types texts in
    let number : c.saved_types ≡ first = even.all_types ∙ ap length even.same_types ∙ sym adds.behind in
    let book : IsBook IsFairType h.types_limit (c.types ++ texts) = subst (λ l. IsBook IsFairType h.types_limit (l ++ texts)) (sym even.same_types) adds.book in
    record {
      state = end;
      runs = runs_joined h (namings OfTypes texts) (Save OfTypes ∷ []) c mid end (types_named h texts c book) (end, inl (omega (arith, long, even.all_types, adds.some), refl), refl);
      journal = ap₂ (λ n l. c.journal ++ Types n l ∷ []) number (behind_saved c.saved_types c.types texts even.all_types);
      even = record {
        same_types = ap (λ l. l ++ texts) even.same_types;
        same_words = even.same_words;
        all_types = refl;
        all_words = even.all_words;
        empty = even.empty;
        counts = λ file. count_same file c.journal e refl ∙ even.counts file;
        ends = λ file. closed_same file c.journal e refl ∙ even.ends file;
      };
    }

words_lead : (h : Header) (held : Held) (c : Core) (first : ℕ) (texts : List (List ℕ)) → IsEven held c → AddsTexts IsFairWord h.words_limit held.words first texts
    → HasLed h c (namings OfWords texts ++ Save OfWords ∷ []) (Words first texts ∷ []) (record held { words = held.words ++ texts })
words_lead h held c first texts even adds =
    let mid : Core = record c { words = c.words ++ texts } in
    let e : JournalEntry = Words c.saved_words (drop c.saved_words mid.words) in
    let end : Core = record mid { saved_words = length mid.words; journal = c.journal ++ e ∷ [] } in
    let long : length mid.words ≡ length c.words + length texts = length-append c.words texts in
    let number : c.saved_words ≡ first = even.all_words ∙ ap length even.same_words ∙ sym adds.behind in
    let book : IsBook IsFairWord h.words_limit (c.words ++ texts) = subst (λ l. IsBook IsFairWord h.words_limit (l ++ texts)) (sym even.same_words) adds.book in
    record {
      state = end;
      runs = runs_joined h (namings OfWords texts) (Save OfWords ∷ []) c mid end (words_named h texts c book) (end, inl (omega (arith, long, even.all_words, adds.some), refl), refl);
      journal = ap₂ (λ n l. c.journal ++ Words n l ∷ []) number (behind_saved c.saved_words c.words texts even.all_words);
      even = record {
        same_types = even.same_types;
        same_words = ap (λ l. l ++ texts) even.same_words;
        all_types = even.all_types;
        all_words = refl;
        empty = even.empty;
        counts = λ file. count_same file c.journal e refl ∙ even.counts file;
        ends = λ file. closed_same file c.journal e refl ∙ even.ends file;
      };
    }

-- ---- the messages of a segment

record HasAdded (h : Header) (c : Core) (worker : ℕ) (rows : List Row) (messages : List (List ℕ)) : Type 0 where
  hands : List Hand
  runs : Runs h c (adds worker messages) (record c { hands = hands })
  own : rows_of worker hands ≡ rows_of worker c.hands ++ rows
  others : (other : ℕ) → worker ≢ other → rows_of other hands ≡ rows_of other c.hands

-- what messages of these rows need to be added
record CanAddAll (h : Header) (c : Core) (worker : ℕ) (rows : List Row) (messages : List (List ℕ)) : Type 0 where
  canonical : AreCanonical h.version rows c.types c.words messages
  each : All (IsMessage h.version) messages
  fit : All IsRow rows
  few : length (rows_of worker c.hands) + length rows ≤ MAX_ROWS
  goes_on : is_closed worker c.journal ≡ false
  most : count_of worker c.journal + length (rows_of worker c.hands) + length rows ≤ MAX_MESSAGES
  variables : variable_count (rows_of worker c.hands ++ rows) < 2 ^ 32

variables_front : (xs ys : List Row) (row : Row) → variable_count (xs ++ row ∷ ys) < 2 ^ 32 → variable_count (xs ++ row ∷ []) < 2 ^ 32
variables_front xs ys row low =
    omega (
      arith,
      low,
      ap variable_count (append_assoc xs (row ∷ []) ys),
      sum_by-append (λ (r : Row). length r.words) (xs ++ row ∷ []) ys,
    )

messages_added : (h : Header) (c : Core) (worker : ℕ) (rows : List Row) (messages : List (List ℕ)) → CanAddAll h c worker rows messages → HasAdded h c worker rows messages
messages_added h c worker [] [] can = record {
  hands = c.hands;
  runs = refl;
  own = sym (append-nil (rows_of worker c.hands));
  others = λ other apart. refl;
}
messages_added h c worker [] (m ∷ messages) can = absurd can.canonical
messages_added h c worker (r ∷ rows) [] can = absurd can.canonical
messages_added h c worker (r ∷ rows) (m ∷ messages) can =
    let old : List Row = rows_of worker c.hands in
    let mid : Core = record c { hands = with_rows worker (old ++ r ∷ []) c.hands } in
    let own : rows_of worker mid.hands ≡ old ++ r ∷ [] = own_rows worker (old ++ r ∷ []) c.hands in
    let long : length (rows_of worker mid.hands) ≡ length old + 1 = ap length own ∙ length-append old (r ∷ []) in
    let joined : rows_of worker mid.hands ++ rows ≡ old ++ r ∷ rows = ap (λ l. l ++ rows) own ∙ append_assoc old (r ∷ []) rows in
    let rest : HasAdded h mid worker rows messages = messages_added h mid worker rows messages (record {
      canonical = can.canonical.1;
      each = All-tail (IsMessage h.version) m messages can.each;
      fit = All-tail IsRow r rows can.fit;
      few = omega (arith, can.few, long);
      goes_on = can.goes_on;
      most = omega (arith, can.most, long);
      variables = subst (λ l. variable_count l < 2 ^ 32) (sym joined) can.variables;
    }) in
    record {
      hands = rest.hands;
      runs = (
        mid,
        inl (
          r,
          record {
            each = All-head (IsMessage h.version) m messages can.each;
            canonical = can.canonical.0;
            fits = All-head IsRow r rows can.fit;
            rows = omega (arith, can.few);
            goes_on = can.goes_on;
            most = omega (arith, can.most);
            variables = variables_front old rows r can.variables;
          },
          refl,
        ),
        rest.runs,
      );
      own = rest.own ∙ joined;
      others = λ other apart. rest.others other apart ∙ other_rows worker other (old ++ r ∷ []) c.hands apart;
    }

-- ---- seals

row_saved : (version : ℕ) (row : Row) (types words : List (List ℕ)) (m : List ℕ) → IsCanonical version row types words m → IsSaved types (length types) (length words) row
row_saved version row types words m is = record {
  log_type = slice_get_within types row.log_type _ is.means.typed;
  words = subst (All (λ n. n < length words)) (flat_map-cons (numbers_of_row types) row [] ∙ append-nil (numbers_of_row types row))
      (rows_numbers_low version (row ∷ []) types words (m ∷ []) (is, tt));
}

rows_saved : (version : ℕ) (rows : List Row) (types words messages : List (List ℕ)) → AreCanonical version rows types words messages → All (IsSaved types (length types) (length words)) rows
rows_saved version [] types words messages are = All-nil (IsSaved types (length types) (length words))
rows_saved version (r ∷ rows) types words [] are = absurd are
rows_saved version (r ∷ rows) types words (m ∷ messages) are =
    All-cons (IsSaved types (length types) (length words)) r rows (row_saved version r types words m are.0) (rows_saved version rows types words messages are.1)

-- a worker's seal leads to the state with the segment
seal_leads : (h : Header) (c : Core) (worker first : ℕ) (rows : List Row) → is_closed worker c.journal ≡ false → All (IsSaved c.types c.saved_types c.saved_words) rows
    → rows_of worker c.hands ≡ rows → count_of worker c.journal ≡ first
    → Runs h c (Seal worker ∷ []) (record c { journal = c.journal ++ Segment (sealed worker first rows) ∷ []; hands = with_rows worker [] c.hands })
seal_leads h c worker first rows goes_on saved in_hand count =
    let end : Core = record c { journal = c.journal ++ Segment (sealed worker (count_of worker c.journal) (rows_of worker c.hands)) ∷ []; hands = with_rows worker [] c.hands } in
    let same : end ≡ record c { journal = c.journal ++ Segment (sealed worker first rows) ∷ []; hands = with_rows worker [] c.hands } =
    ap₂ (λ (n : ℕ) (l : List Row). record c { journal = c.journal ++ Segment (sealed worker n l) ∷ []; hands = with_rows worker [] c.hands }) count in_hand in
    (end, inl (record { goes_on = goes_on; saved = subst (All (IsSaved c.types c.saved_types c.saved_words)) (sym in_hand) saved }, refl), sym same)

abbrev segment_with : ℕ → ℕ → Bool → Bool → List Row → SegmentEntry
segment_with file first last ended rows = record { file = file; first = first; last = last; ended = ended; rows = rows }

-- the state once what is in hand was sealed
record HasSealed (h : Header) (c : Core) (s : SegmentEntry) (last : Bool) (rows : List Row) : Type 0 where
  hands : List Hand
  runs : Runs h c (seals s.file last rows) (record c { journal = c.journal ++ bare_parts s last rows; hands = hands })
  own : rows_of s.file hands ≡ []
  others : (other : ℕ) → s.file ≢ other → rows_of other hands ≡ rows_of other c.hands

sealed_once : (h : Header) (c : Core) (s : SegmentEntry) (entry : SegmentEntry) (last : Bool) (rows : List Row) → is_closed s.file c.journal ≡ false
    → All (IsSaved c.types c.saved_types c.saved_words) rows → rows_of s.file c.hands ≡ rows → count_of s.file c.journal ≡ s.first
    → sealed s.file s.first rows ≡ entry → seals s.file last rows ≡ Seal s.file ∷ [] → bare_parts s last rows ≡ Segment entry ∷ [] → HasSealed h c s last rows
sealed_once h c s entry last rows goes_on saved in_hand count same events parts = record {
  hands = with_rows s.file [] c.hands;
  runs =
      subst (λ (l : List Event). Runs h c l (record c { journal = c.journal ++ bare_parts s last rows; hands = with_rows s.file [] c.hands })) (sym events)
      (subst (λ (l : List JournalEntry). Runs h c (Seal s.file ∷ []) (record c { journal = c.journal ++ l; hands = with_rows s.file [] c.hands })) (sym parts)
      (subst (λ (x : SegmentEntry). Runs h c (Seal s.file ∷ []) (record c { journal = c.journal ++ Segment x ∷ []; hands = with_rows s.file [] c.hands })) same
      (seal_leads h c s.file s.first rows goes_on saved in_hand count)));
  own = own_rows s.file [] c.hands;
  others = λ other apart. other_rows s.file other [] c.hands apart;
}

same_segment : (s : SegmentEntry) (last ended : Bool) (rows : List Row) → s.last ≡ last → s.ended ≡ ended → s.rows ≡ rows → segment_with s.file s.first last ended rows ≡ s
same_segment s last ended rows lasts ends same = λ i. record { file = s.file; first = s.first; last = sym lasts i; ended = sym ends i; rows = sym same i }

not_ended : (last ended : Bool) → (ended ≡ true → last ≡ true) → last ≡ false → ended ≡ false
not_ended last true closed is = sym (closed refl) ∙ is
not_ended last false closed is = refl

sealed_twice : (h : Header) (c : Core) (s : SegmentEntry) (row : Row) (rows : List Row) → is_closed s.file c.journal ≡ false
    → All (IsSaved c.types c.saved_types c.saved_words) (row ∷ rows) → rows_of s.file c.hands ≡ row ∷ rows → count_of s.file c.journal ≡ s.first → s.rows ≡ row ∷ rows
    → HasSealed h c s true (row ∷ rows)
sealed_twice h c s row rows goes_on saved in_hand count same =
    let one : SegmentEntry = segment_with s.file s.first false false (row ∷ rows) in
    let plain : SegmentEntry = record s { last = false; ended = false } in
    let last : SegmentEntry = ending s.file (s.first + length s.rows) in
    let hands : List Hand = with_rows s.file [] c.hands in
    let mid : Core = record c { journal = c.journal ++ Segment one ∷ []; hands = hands } in
    let whole : List Hand = with_rows s.file [] hands in
    let added : count_of s.file (Segment one ∷ []) ≡ length (row ∷ rows) =
    ap (λ b. (if b then length (row ∷ rows) else 0) + 0) (eq-eqb s.file s.file refl) ∙ omega arith in
    let count_then : count_of s.file mid.journal ≡ s.first + length s.rows =
    omega (arith, count_joined s.file c.journal (Segment one ∷ []), added, count, ap length same) in
    let open_then : is_closed s.file mid.journal ≡ false =
    closed_same s.file c.journal (Segment one) (ap (λ b. (b && false) || false) (eq-eqb s.file s.file refl)) ∙ goes_on in
    let end : Core = record mid { journal = mid.journal ++ Segment last ∷ []; hands = whole } in
    let as_plain : one ≡ plain = λ i. record { file = s.file; first = s.first; last = false; ended = false; rows = sym same i } in
    let joined : mid.journal ++ Segment last ∷ [] ≡ c.journal ++ bare_parts s true (row ∷ rows) =
    append_assoc c.journal (Segment one ∷ []) (Segment last ∷ []) ∙ ap (λ (x : SegmentEntry). c.journal ++ Segment x ∷ Segment last ∷ []) as_plain in
    let second : Runs h mid (Seal s.file ∷ []) end =
    seal_leads h mid s.file (s.first + length s.rows) [] open_then (All-nil (IsSaved c.types c.saved_types c.saved_words)) (own_rows s.file [] c.hands) count_then in
    let both : Runs h c (Seal s.file ∷ Seal s.file ∷ []) end =
    runs_joined h (Seal s.file ∷ []) (Seal s.file ∷ []) c mid end (seal_leads h c s.file s.first (row ∷ rows) goes_on saved in_hand count) second in
    record {
      hands = whole;
      runs = subst (λ (l : List JournalEntry). Runs h c (Seal s.file ∷ Seal s.file ∷ []) (record c { journal = l; hands = whole })) joined both;
      own = own_rows s.file [] hands;
      others = λ other apart. other_rows s.file other [] hands apart ∙ other_rows s.file other [] c.hands apart;
    }

seals_lead : (h : Header) (c : Core) (s : SegmentEntry) (last : Bool) (rows : List Row) → s.last ≡ last → s.rows ≡ rows
    → (s.last ≡ false → 0 < length s.rows) → (s.ended ≡ true → s.last ≡ true) → is_closed s.file c.journal ≡ false
    → All (IsSaved c.types c.saved_types c.saved_words) rows → rows_of s.file c.hands ≡ rows → count_of s.file c.journal ≡ s.first → HasSealed h c s last rows
seals_lead h c s false [] lasts same some closed goes_on saved in_hand count = absurd (omega (arith, some lasts, ap length same))
seals_lead h c s false (r ∷ rows) lasts same some closed goes_on saved in_hand count =
    sealed_once h c s s false (r ∷ rows) goes_on saved in_hand count
    (same_segment s false false (r ∷ rows) lasts (not_ended s.last s.ended closed lasts) same) refl refl
seals_lead h c s true [] lasts same some closed goes_on saved in_hand count =
    sealed_once h c s (record s { ended = true }) true [] goes_on saved in_hand count
    (same_segment (record s { ended = true }) true true [] lasts refl same) refl refl
seals_lead h c s true (r ∷ rows) lasts same some closed goes_on saved in_hand count = sealed_twice h c s r rows goes_on saved in_hand count same

-- ---- a segment

parts_count : (file : ℕ) (s : SegmentEntry) (last : Bool) (rows : List Row) → s.rows ≡ rows → count_of file (bare_parts s last rows) ≡ (if s.file == file then length s.rows else 0)
parts_count file s false rows same = omega arith
parts_count file s true [] same = omega arith
parts_count file s true (r ∷ rows) same = by_test (s.file == file) where
  by_test : (b : Bool) → (if b then length s.rows else 0) + ((if b then 0 else 0) + 0) ≡ (if b then length s.rows else 0)
  by_test true = omega arith
  by_test false = refl

parts_closed : (file : ℕ) (s : SegmentEntry) (last : Bool) (rows : List Row) → s.last ≡ last → is_closed file (bare_parts s last rows) ≡ (s.file == file && s.last) || false
parts_closed file s false rows lasts = refl
parts_closed file s true [] lasts = refl
parts_closed file s true (r ∷ rows) lasts = by_test (s.file == file) ∙ ap (λ b. (s.file == file && b) || false) (sym lasts) where
  by_test : (b : Bool) → (b && false) || ((b && true) || false) ≡ (b && true) || false
  by_test true = refl
  by_test false = refl

segment_lead : (h : Header) (held : Held) (c : Core) (s : SegmentEntry) (messages : List (List ℕ)) → IsEven held c → AddsSegment h.version held s messages
    → HasLed h c (adds s.file messages ++ seals s.file s.last s.rows) (bare_parts s s.last s.rows) (record held { pieces = held.pieces ++ piece_of s messages ∷ [] })
segment_lead h held c s messages even adds_it =
    let file : ℕ = s.file in
    let none : rows_of file c.hands ≡ [] = even.empty file in
    let goes_on : is_closed file c.journal ≡ false = even.ends file ∙ adds_it.goes_on in
    let count : count_of file c.journal ≡ s.first = even.counts file ∙ sym adds_it.first in
    let canonical : AreCanonical h.version s.rows c.types c.words messages =
    subst (λ t. AreCanonical h.version s.rows t c.words messages) (sym even.same_types)
    (subst (λ t. AreCanonical h.version s.rows held.types t messages) (sym even.same_words) adds_it.canonical) in
    let added : HasAdded h c file s.rows messages = messages_added h c file s.rows messages (record {
      canonical = canonical;
      each = adds_it.each;
      fit = adds_it.fit;
      few = omega (arith, adds_it.rows, ap length none);
      goes_on = goes_on;
      most = omega (arith, adds_it.most, ap length none, count);
      variables = subst (λ l. variable_count (l ++ s.rows) < 2 ^ 32) (sym none) adds_it.variables;
    }) in
    let mid : Core = record c { hands = added.hands } in
    let in_hand : rows_of file mid.hands ≡ s.rows = added.own ∙ ap (λ l. l ++ s.rows) none in
    let saved : All (IsSaved c.types c.saved_types c.saved_words) s.rows =
    subst (λ n. All (IsSaved c.types n c.saved_words) s.rows) (sym even.all_types)
    (subst (λ n. All (IsSaved c.types (length c.types) n) s.rows) (sym even.all_words) (rows_saved h.version s.rows c.types c.words messages canonical)) in
    let done : HasSealed h mid s s.last s.rows =
    seals_lead h mid s s.last s.rows refl refl adds_it.some adds_it.ended goes_on saved in_hand count in
    let end : Core = record c { journal = c.journal ++ bare_parts s s.last s.rows; hands = done.hands } in
    let long = canonical_length h.version s.rows held.types held.words messages adds_it.canonical in
    record {
      state = end;
      runs = runs_joined h (adds file messages) (seals file s.last s.rows) c mid end added.runs done.runs;
      journal = refl;
      even = record {
        same_types = even.same_types;
        same_words = even.same_words;
        all_types = even.all_types;
        all_words = even.all_words;
        empty = λ other. elim (cases_eq file other) as (λ x. rows_of other done.hands ≡ []) [
          | inl same ↦ subst (λ w. rows_of w done.hands ≡ []) same done.own
          | inr apart ↦ done.others other apart ∙ added.others other apart ∙ even.empty other
        ];
        counts = λ other. omega (
          arith,
          count_joined other c.journal (bare_parts s s.last s.rows),
          parts_count other s s.last s.rows refl,
          even.counts other,
          ap length (messages_joined other held.pieces (piece_of s messages ∷ [])),
          length-append (messages_of other held.pieces) (messages_of other (piece_of s messages ∷ [])),
          piece_count other s messages long,
        );
        ends = λ other.
            closed_joined other c.journal (bare_parts s s.last s.rows)
            ∙ ap₂ (λ a b. a || b) (even.ends other) (parts_closed other s s.last s.rows refl)
            ∙ sym (whole_joined other held.pieces (piece_of s messages ∷ []));
      };
    }

-- ---- every journal

led_on : (h : Header) (c : Core) (es fs : List Event) (xs ys : List JournalEntry) (mid held : Held) → (front : HasLed h c es xs mid) → HasLed h front.state fs ys held → HasLed h c (es ++ fs) (xs ++ ys) held
led_on h c es fs xs ys mid held front back = record {
  state = back.state;
  runs = runs_joined h es fs c front.state back.state front.runs back.runs;
  journal = back.journal ∙ ap (λ l. l ++ ys) front.journal ∙ append_assoc c.journal xs ys;
  even = back.even;
}

lead : (h : Header) (held more : Held) (es : List JournalEntry) → (run : Run h held es more) → (c : Core) → IsEven held c → HasLed h c (events_of h held more es run) (bare es) more
lead h held more [] run c even = record {
  state = c;
  runs = refl;
  journal = sym (append-nil c.journal);
  even = subst (λ (x : Held). IsEven x c) (sym run) even;
}
lead h held more (Files names ∷ es) run c even =
    let named : IsEven (record held { names = held.names ++ names }) c = record {
      same_types = even.same_types;
      same_words = even.same_words;
      all_types = even.all_types;
      all_words = even.all_words;
      empty = even.empty;
      counts = even.counts;
      ends = even.ends;
    } in
    lead h run.0 more es run.2 c (subst (λ (x : Held). IsEven x c) (sym run.1) named)
lead h held more (Types first texts ∷ es) run c even =
    let front = types_lead h held c first texts even run.1.0 in
    let back = lead h run.0 more es run.2 front.state (subst (λ (x : Held). IsEven x front.state) (sym run.1.1) front.even) in
    subst (λ (l : List Event). HasLed h c l (Types first texts ∷ bare es) more) (append_assoc (namings OfTypes texts) (Save OfTypes ∷ []) (events_of h run.0 more es run.2))
    (led_on h c (namings OfTypes texts ++ Save OfTypes ∷ []) (events_of h run.0 more es run.2) (Types first texts ∷ []) (bare es) _ more front back)
lead h held more (Words first texts ∷ es) run c even =
    let front = words_lead h held c first texts even run.1.0 in
    let back = lead h run.0 more es run.2 front.state (subst (λ (x : Held). IsEven x front.state) (sym run.1.1) front.even) in
    subst (λ (l : List Event). HasLed h c l (Words first texts ∷ bare es) more) (append_assoc (namings OfWords texts) (Save OfWords ∷ []) (events_of h run.0 more es run.2))
    (led_on h c (namings OfWords texts ++ Save OfWords ∷ []) (events_of h run.0 more es run.2) (Words first texts ∷ []) (bare es) _ more front back)
lead h held more (Segment s ∷ es) run c even =
    let front = segment_lead h held c s run.1.0 even run.1.1 in
    let back = lead h run.0 more es run.2 front.state (subst (λ (x : Held). IsEven x front.state) (sym run.1.2) front.even) in
    subst (λ (l : List Event). HasLed h c l (bare_parts s s.last s.rows ++ bare es) more) (append_assoc (adds s.file run.1.0) (seals s.file s.last s.rows) (events_of h run.0 more es run.2))
    (led_on h c (adds s.file run.1.0 ++ seals s.file s.last s.rows) (events_of h run.0 more es run.2) (bare_parts s s.last s.rows) (bare es) _ more front back)

nothing_even : IsEven nothing_held nothing_yet
nothing_even = record {
  same_types = refl;
  same_words = refl;
  all_types = refl;
  all_words = refl;
  empty = λ worker. refl;
  counts = λ file. refl;
  ends = λ file. refl;
}

pub events_lead : EventsLead
events_lead h held es run =
    let led = lead h nothing_held held es run nothing_yet nothing_even in
    (led.state, led.runs, led.journal, led.even.same_types, led.even.same_words)

-- ---- what is added to a journal

writes_joined : (xs ys : List Event) → writes (xs ++ ys) ≡ writes xs + writes ys
writes_joined [] ys = omega arith
writes_joined (Name worker book text ∷ xs) ys = writes_joined xs ys
writes_joined (Add worker message ∷ xs) ys = writes_joined xs ys
writes_joined (Save book ∷ xs) ys = omega (arith, writes_joined xs ys)
writes_joined (Seal worker ∷ xs) ys = omega (arith, writes_joined xs ys)

writes_names : (book : Which) (texts : List (List ℕ)) → writes (namings book texts) ≡ 0
writes_names book [] = refl
writes_names book (t ∷ texts) = writes_names book texts

writes_adds : (worker : ℕ) (messages : List (List ℕ)) → writes (adds worker messages) ≡ 0
writes_adds worker [] = refl
writes_adds worker (m ∷ messages) = writes_adds worker messages

writes_seals : (s : SegmentEntry) (last : Bool) (rows : List Row) → writes (seals s.file last rows) ≡ length (bare_parts s last rows)
writes_seals s true (row ∷ rows) = refl
writes_seals s true [] = refl
writes_seals s false rows = refl

-- one event writes each entry
writes_each : (h : Header) (held more : Held) (es : List JournalEntry) → (run : Run h held es more) → writes (events_of h held more es run) ≡ length (bare es)
writes_each h held more [] run = refl
writes_each h held more (Files names ∷ es) run = writes_each h run.0 more es run.2
writes_each h held more (Types first texts ∷ es) run =
    omega (arith, writes_joined (namings OfTypes texts) (Save OfTypes ∷ events_of h run.0 more es run.2), writes_names OfTypes texts, writes_each h run.0 more es run.2)
writes_each h held more (Words first texts ∷ es) run =
    omega (arith, writes_joined (namings OfWords texts) (Save OfWords ∷ events_of h run.0 more es run.2), writes_names OfWords texts, writes_each h run.0 more es run.2)
writes_each h held more (Segment s ∷ es) run =
    omega (
      arith,
      writes_joined (adds s.file run.1.0) (seals s.file s.last s.rows ++ events_of h run.0 more es run.2),
      writes_adds s.file run.1.0,
      writes_joined (seals s.file s.last s.rows) (events_of h run.0 more es run.2),
      writes_seals s s.last s.rows,
      length-append (bare_parts s s.last s.rows) (bare es),
      writes_each h run.0 more es run.2,
    )

-- a run over two lists is one over each
run_split : (h : Header) (held more : Held) (es fs : List JournalEntry) → Run h held (es ++ fs) more → (mid : Held) × Run h held es mid × Run h mid fs more
run_split h held more [] fs run = (held, refl, run)
run_split h held more (e ∷ es) fs run =
    let rest = run_split h run.0 more es fs run.2 in
    (rest.0, (run.0, run.1, rest.1), rest.2)

pub legal_growth : LegalGrowth
legal_growth h before fresh legal =
    let runs = run_split h nothing_held legal.held before fresh legal.run in
    let led = lead h nothing_held runs.0 before runs.1 nothing_yet nothing_even in
    let more = lead h runs.0 legal.held fresh runs.2 led.state led.even in
    record {
      first = events_of h nothing_held runs.0 before runs.1;
      old = led.state;
      reached = led.runs;
      stood = led.journal;
      events = events_of h runs.0 legal.held fresh runs.2;
      new = more.state;
      led = more.runs;
      stands = more.journal ∙ ap (λ l. l ++ bare fresh) led.journal;
      each = writes_each h runs.0 legal.held fresh runs.2;
    }
