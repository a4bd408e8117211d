-- A segment behind what others have added since.
use Rattle.std.proofs.Common.{◌≡◌, ◌≢◌, ℕ, ◌+◌, ◌<◌, ◌≤◌, List, [], ◌∷◌, ◌++◌, Bool, true, false, length, refl, sym, ap, ap₂, ◌∙◌, subst, arith, append-nil, append_assoc, length-append, ne_eqb}
use Rattle.std.specs.Prelude.{◌==◌, ◌||◌, ◌&&◌, if◌then◌else◌, slice_index_or}
use Rattle.std.specs.List.{flat_map}
use Rattle.std.proofs.lemmas.List.Concat.{flat_map-cons}
use Rattle.std.proofs.lemmas.Option.{slice_get_within}
use Rattle.std.proofs.lemmas.List.{get_or_append_left}
use mathlib.Core.List.{IsPrefix}
use Rattle.column_store.specs.declared.row.Row.{Row}
use Rattle.record_format.specs.declared.header.Header.{Header}
use Rattle.record_format.specs.Header.{IsHeader}
use Rattle.disk_journal.specs.Record.{IsFrame, saved_of}
use Rattle.segment_format.specs.Layout.{sorted_set, segment_bytes}
use Rattle.row_codec.specs.Means.{AreCanonical}
use Rattle.row_codec.specs.Numbers.{numbers_of_row, kinds_from, word_numbers}
use Rattle.row_codec.proofs.MeansLemmas.{canonical_stays}
use Rattle.archive_meaning.specs.declared.entry.SegmentEntry.{SegmentEntry}
use Rattle.archive_meaning.specs.declared.entry.JournalEntry.{JournalEntry}
use Rattle.archive_meaning.specs.declared.entry.JournalEntry.TheVariants.{Files, Types, Words, Segment}
use Rattle.archive_meaning.specs.Held.{Held, Piece, nothing_held, messages_of, is_whole, last_is_open}
use Rattle.archive_meaning.specs.Legal.{Accepts, AddsSegment, AreNamed, Run, piece_of}
use Rattle.archive_meaning.specs.Spelled.{end_of, record_of, types_in, types_of, words_named}
use Rattle.archive_meaning.specs.Stands.{IsLegal}
use Rattle.archive_meaning.specs.StepsForms.{HasForm, HaveForms}
use Rattle.archive_meaning.proofs.SumsLemmas.{messages_joined, whole_joined}
use Rattle.archive_meaning.proofs.RunLemmas.{runs_split, one_held}
use Rattle.archive_meaning.proofs.JudgeLemmas.{run_types, named_more}
use Rattle.archive_meaning.proofs.UniqueLemmas.{legal_forms}
use Rattle.disk_seal.specs.Told.{entry_of}
use Rattle.ingest_meaning.specs.WordsIn.{words_of}
use Rattle.disk_seal.specs.Adding.{IsNext}
use Rattle.disk_seal.specs.Draft.{MayFollow}
use Rattle.disk_seal.specs.Planned.{LeavesFile}
use Rattle.disk_seal.proofs.NextLemmas.{run_words, legal_more, end_with}
use Rattle.disk_seal.proofs.FramedLemmas.{entry_is}

abbrev Texts : Type 0
Texts = List (List ℕ)

-- ---- entries that leave a file alone

-- what is held of the file, and whether it has a name
record SameFile (file : ℕ) (old new : Held) : Type 0 where
  messages : messages_of file new.pieces ≡ messages_of file old.pieces
  whole : is_whole file new.pieces ≡ is_whole file old.pieces
  names : length old.names ≤ length new.names

same_on : (file : ℕ) (a b c : Held) → SameFile file a b → SameFile file b c → SameFile file a c
same_on file a b c x y = record { messages = y.messages ∙ x.messages; whole = y.whole ∙ x.whole; names = omega (arith, x.names, y.names) }

other_file : (n file : ℕ) → n ≢ file → n == file ≡ false
other_file n file ne = ne_eqb n file ne

same_step : (h : Header) (file : ℕ) (old mid : Held) (e : JournalEntry) → Accepts h old e mid → LeavesFile file (e ∷ []) → SameFile file old mid
same_step h file old mid (Files names) adds leaves = subst (SameFile file old) (sym adds) (record { messages = refl; whole = refl; names = omega (arith, length-append old.names names) })
same_step h file old mid (Types first texts) adds leaves = subst (SameFile file old) (sym adds.1) (record { messages = refl; whole = refl; names = omega arith })
same_step h file old mid (Words first texts) adds leaves = subst (SameFile file old) (sym adds.1) (record { messages = refl; whole = refl; names = omega arith })
same_step h file old mid (Segment s) adds leaves =
    let p : Piece = piece_of s adds.0 in
    let test : s.file == file ≡ false = other_file s.file file leaves.0 in
    subst (SameFile file old) (sym adds.2) (record {
      messages = messages_joined file old.pieces (p ∷ []) ∙ (ap (λ b. messages_of file old.pieces ++ ((if b then p.messages else []) ++ [])) test ∙ append-nil (messages_of file old.pieces));
      whole = whole_joined file old.pieces (p ∷ []) ∙ (ap (λ b. is_whole file old.pieces || ((b && p.last) || false)) test ∙ or_false (is_whole file old.pieces));
      names = omega arith;
    })
  where
    or_false : (b : Bool) → (b || false) ≡ b
    or_false true = refl
    or_false false = refl

same_file : (h : Header) (file : ℕ) (old more : Held) (es : List JournalEntry) → Run h old es more → LeavesFile file es → SameFile file old more
same_file h file old more [] run leaves = subst (SameFile file old) (sym run) (record { messages = refl; whole = refl; names = omega arith })
same_file h file old more (Files names ∷ es) run leaves = same_on file old run.0 more (same_step h file old run.0 (Files names) run.1 tt) (same_file h file run.0 more es run.2 leaves)
same_file h file old more (Types first texts ∷ es) run leaves = same_on file old run.0 more (same_step h file old run.0 (Types first texts) run.1 tt) (same_file h file run.0 more es run.2 leaves)
same_file h file old more (Words first texts ∷ es) run leaves = same_on file old run.0 more (same_step h file old run.0 (Words first texts) run.1 tt) (same_file h file run.0 more es run.2 leaves)
same_file h file old more (Segment s ∷ es) run leaves = same_on file old run.0 more (same_step h file old run.0 (Segment s) run.1 (leaves.0, tt)) (same_file h file run.0 more es run.2 leaves.1)

-- ---- rows behind more texts

all_canonical : (version : ℕ) (rows : List Row) (types words more_types more_words ms : Texts) → IsPrefix types more_types → IsPrefix words more_words → AreCanonical version rows types words ms → AreCanonical version rows more_types more_words ms
all_canonical version [] types words more_types more_words [] a b are = tt
all_canonical version [] types words more_types more_words (m ∷ ms) a b are = are
all_canonical version (r ∷ rows) types words more_types more_words [] a b are = are
all_canonical version (r ∷ rows) types words more_types more_words (m ∷ ms) a b are =
    (canonical_stays version r types words more_types more_words m a b are.0, all_canonical version rows types words more_types more_words ms a b are.1)

same_numbers : (version : ℕ) (rows : List Row) (types words more ms : Texts) → IsPrefix types more → AreCanonical version rows types words ms → flat_map (numbers_of_row types) rows ≡ flat_map (numbers_of_row more) rows
same_numbers version [] types words more ms front are = refl
same_numbers version (r ∷ rows) types words more [] front are = absurd are
same_numbers version (r ∷ rows) types words more (m ∷ ms) front are =
    let inside : r.log_type < length types = slice_get_within types r.log_type _ are.0.means.typed in
    let here : slice_index_or types r.log_type [] ≡ slice_index_or more r.log_type [] = sym (get_or_append_left types front.0 [] r.log_type inside) ∙ ap (λ l. slice_index_or l r.log_type []) front.1 in
    flat_map-cons (numbers_of_row types) r rows
    ∙ (ap₂ (λ t l. word_numbers (kinds_from false t) r.words ++ l) here (same_numbers version rows types words more ms front are.1)
    ∙ sym (flat_map-cons (numbers_of_row more) r rows))

-- ---- the segment

last_form : (types : Texts) (es : List JournalEntry) (e : JournalEntry) → HaveForms types (es ++ e ∷ []) → HasForm (types ++ types_of es) e
last_form types [] e forms = subst (λ t. HasForm t e) (sym (append-nil types)) forms.0
last_form types (x ∷ es) e forms = subst (λ t. HasForm t e) (append_assoc types (types_in x) (types_of es)) (last_form (types ++ types_in x) es e forms.2)

module _ (h : Header) (header : IsHeader h) (first rest : List JournalEntry) (types words : Texts) (s : SegmentEntry) (numbers : List ℕ) (may : MayFollow h first types words s numbers) (leaves : LeavesFile s.file rest)
    (legal : IsLegal h (first ++ rest)) (types_front : IsPrefix types (types_of (first ++ rest))) (words_front : IsPrefix words (words_of (first ++ rest))) where
  abbrev es : List JournalEntry
  es = first ++ rest

  split : (mid : Held) × Run h nothing_held first mid × Run h mid rest legal.held
  split = runs_split h nothing_held legal.held first rest legal.run

  same : SameFile s.file may.held legal.held
  same = same_file h s.file may.held legal.held rest (subst (λ m. Run h m rest legal.held) (one_held h nothing_held split.0 may.held first split.1 may.run) split.2) leaves

  types_are : legal.held.types ≡ types_of es
  types_are = run_types h nothing_held legal.held es legal.run

  words_are : legal.held.words ≡ words_of es
  words_are = run_words h nothing_held legal.held es legal.run

  adds : AddsSegment h.version legal.held s may.messages
  adds = record {
    first = may.adds.first ∙ ap length (sym same.messages);
    goes_on = same.whole ∙ may.adds.goes_on;
    most = may.adds.most;
    rows = may.adds.rows;
    variables = may.adds.variables;
    fit = may.adds.fit;
    some = may.adds.some;
    ended = may.adds.ended;
    end = λ last open_end. ap (λ ms. last_is_open (ms ++ may.messages)) same.messages ∙ may.adds.end last open_end;
    canonical = all_canonical h.version s.rows types words legal.held.types legal.held.words may.messages (subst (IsPrefix types) (sym types_are) types_front) (subst (IsPrefix words) (sym words_are) words_front) may.adds.canonical;
    each = may.adds.each;
  }

  pub numbers_are : numbers ≡ words_named (types_of es) s.rows
  numbers_are = may.are ∙ ap sorted_set (same_numbers h.version s.rows types words (types_of es) may.messages types_front may.adds.canonical)

  -- its framed record may follow
  pub segment_next : (text : List ℕ) (place : ℕ) → IsFrame text → place + 1 ≡ end_of h es → saved_of text ≡ record { kind = 4; payload = segment_bytes s.file s.first s.last s.ended s.rows numbers }
      → place + 1 + length text ≤ h.length_limit → IsNext h es (saved_of text) × (entry_of (saved_of text) ≡ Segment s)
  segment_next text place framed gate saved room =
      let e : JournalEntry = Segment s in
      let spelled_so : saved_of text ≡ record_of (types_of es) e = saved ∙ ap (λ ns. record { kind = 4; payload = segment_bytes s.file s.first s.last s.ended s.rows ns }) numbers_are in
      let names : AreNamed 0 (es ++ e ∷ []) = named_more h nothing_held legal.held es (e ∷ []) legal.run legal.named tt (omega (arith, may.named, same.names), tt) in
      let after : Held = record legal.held { pieces = legal.held.pieces ++ piece_of s may.messages ∷ [] } in
      let more : IsLegal h (es ++ e ∷ []) = legal_more h es e legal after (may.messages, adds, refl) names (omega (arith, room, end_with h es e place text gate framed spelled_so)) in
      let is : entry_of (saved_of text) ≡ e = entry_is (types_of es) e (saved_of text) spelled_so (last_form [] es e (legal_forms h (es ++ e ∷ []) header more)) in
      (record { form = ap (record_of (types_of es)) is ∙ sym spelled_so; legal = subst (λ x. IsLegal h (es ++ x ∷ [])) (sym is) more }, is)
