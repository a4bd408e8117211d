-- What is built of a record that goes on with a legal journal.
use Rattle.std.proofs.Common.{◌≡◌, ◌≢◌, ℕ, suc, ◌+◌, ◌^◌, ◌<◌, ◌≤◌, List, [], ◌∷◌, ◌++◌, length, map, get_or, set, refl, sym, ◌∙◌, ap, ap₂, subst, arith, length-append}
use Rattle.std.proofs.lemmas.List.{append-nil, append_assoc}
use Rattle.disk_journal.specs.Record.{Saved, body, spelled}
use Rattle.disk_journal.proofs.SpellingLemmas.{length-body}
use Rattle.record_format.specs.declared.header.Header.{Header}
use Rattle.record_format.specs.Header.{header_bytes}
use Rattle.record_format.specs.Lists.{AreTexts, files_payload, texts_payload}
use Rattle.record_format.proofs.HeaderLemmas.{length-header_bytes}
use Rattle.record_format.proofs.ListLemmas.{one_list, one_texts}
use Rattle.column_store.specs.declared.row.Row.{Row}
use Rattle.std.specs.List.{flat_map}
use Rattle.row_codec.specs.Means.{AreCanonical}
use Rattle.row_codec.specs.Numbers.{numbers_of_row}
use Rattle.row_codec.specs.declared.namer.Which.{Which}
use Rattle.row_codec.specs.declared.namer.Which.TheVariants as which
use Rattle.segment_format.specs.declared.head.Head.{Head}
use Rattle.segment_format.specs.Layout.{IsHead, columns_bytes, head_bytes}
use Rattle.segment_format.proofs.LawsLemmas.{heads_once, read_back}
use Rattle.segment_format.proofs.SetLemmas.{rise_of, up_sorted_set}
use Rattle.archive_meaning.specs.declared.entry.SegmentEntry.{SegmentEntry}
use Rattle.archive_meaning.specs.declared.entry.JournalEntry.{JournalEntry}
use Rattle.archive_meaning.specs.declared.entry.JournalEntry.TheVariants.{Files, Types, Words, Segment}
use Rattle.archive_meaning.specs.Held.{Held, Piece, is_whole, messages_of, nothing_held}
use Rattle.archive_meaning.specs.Legal.{Accepts, AddsSegment, AreNamed, Run, piece_of}
use Rattle.archive_meaning.specs.Spelled.{front_of, record_of, records_from, records_of, types_in, types_of, words_named}
use Rattle.archive_meaning.specs.Stands.{IsLegal}
use Rattle.archive_meaning.specs.StepsForms.{HasForm, HaveForms}
use Rattle.archive_meaning.proofs.JudgeLemmas.{run_names, run_types}
use Rattle.archive_meaning.proofs.RunLemmas.{runs_split}
use Rattle.archive_meaning.proofs.SumsLemmas.{AreBelow}
use Rattle.archive_meaning.proofs.UniqueLemmas.{legal_forms}
use Rattle.archive_open.specs.declared.files.FileEntry.{FileEntry}
use Rattle.archive_open.specs.declared.segments.SegmentPlace.{SegmentPlace}
use Rattle.archive_open.specs.Kept.{Kept, MayHold, limit_of, texts_of, with_texts}
use Rattle.archive_open.specs.Shown.{files_of, head_in, kept_of, placed, places_from, places_of}
use Rattle.archive_open.specs.StepsFiles.{GoesOn, file_with, no_file}
use Rattle.archive_open.specs.StepsNext.{Builds, BuildsNext, Built, HasHead, IsBuilt, new_file}
use Rattle.archive_open.specs.Walk.{IsNext, Keeping, NoneNext}
use Rattle.archive_open.proofs.FilesLemmas.{entries_get, entries_named, entries_set, length-entries}

-- ---- places

places_joined : (at : ℕ) (types : List (List ℕ)) (es : List JournalEntry) (e : JournalEntry)
    → places_from at types (es ++ e ∷ []) ≡ places_from at types es ++ placed (at + length (spelled (records_from types es))) (types ++ types_of es) e
places_joined at types [] e =
    let same : at + 0 ≡ at = omega arith in
    append-nil (placed at types e) ∙ ap₂ (λ n t. placed n t e) (sym same) (sym (append-nil types))
places_joined at types (f ∷ es) e =
    let r : Saved = record_of types f in
    let rest : List ℕ = spelled (records_from (types ++ types_in f) es) in
    let next : ℕ = at + 10 + length r.payload in
    let same : next + length rest ≡ at + length (1 ∷ body r ++ rest) = omega (arith, length-append (body r) rest, length-body r) in
    ap (λ l. placed at types f ++ l) (places_joined next (types ++ types_in f) es e)
    ∙ sym (append_assoc (placed at types f) (places_from next (types ++ types_in f) es) (placed (next + length rest) ((types ++ types_in f) ++ types_of es) e))
    ∙ ap₂ (λ n t. places_from at types (f ∷ es) ++ placed n t e) same (append_assoc types (types_in f) (types_of es))

pub front_length : (h : Header) (es : List JournalEntry) → length (front_of h es) ≡ 32 + length (spelled (records_of es))
front_length h es = omega (arith, length-append (header_bytes h) (spelled (records_of es)), length-header_bytes h)

pub places_more : (h : Header) (es : List JournalEntry) (e : JournalEntry) → places_of (es ++ e ∷ []) ≡ places_of es ++ placed (length (front_of h es)) (types_of es) e
places_more h es e = places_joined 32 [] es e ∙ ap (λ n. places_of es ++ placed n (types_of es) e) (sym (front_length h es))

-- ---- an entry that follows

last_form : (types : List (List ℕ)) (es : List JournalEntry) (e : JournalEntry) → HaveForms types (es ++ e ∷ []) → HasForm (types ++ types_of es) e
last_form types [] e forms = subst (λ t. HasForm t e) (sym (append-nil types)) forms.0
last_form types (f ∷ es) e forms = subst (λ t. HasForm t e) (append_assoc types (types_in f) (types_of es)) (last_form (types ++ types_in f) es e forms.2)

pub next_form : (at kind : ℕ) (payload : List ℕ) (h : Header) (es : List JournalEntry) (e : JournalEntry) → IsNext at kind payload h es e → HasForm (types_of es) e
next_form at kind payload h es e next = last_form [] es e (legal_forms h (es ++ e ∷ []) next.header next.legal)

-- what is held before it, and with it
pub record Follows (h : Header) (es : List JournalEntry) (e : JournalEntry) (more : Held) : Type 0 where
  pub held : Held
  pub run : Run h nothing_held es held
  pub takes : Accepts h held e more
  pub named : AreNamed (length held.names) (e ∷ [])
  pub below : AreBelow (length held.names) held.pieces
  pub types : held.types ≡ types_of es

pub follows : (h : Header) (es : List JournalEntry) (e : JournalEntry) (more : Held) → IsLegal h (es ++ e ∷ []) → Run h nothing_held (es ++ e ∷ []) more → Follows h es e more
follows h es e more legal run =
    let split = runs_split h nothing_held more es (e ∷ []) run in
    let names = run_names h nothing_held split.0 es (e ∷ []) split.1 legal.named tt in
    record {
      held = split.0;
      run = split.1;
      takes = subst (λ x. Accepts h split.0 e x) (sym split.2.2) split.2.1;
      named = names.0;
      below = names.1;
      types = run_types h nothing_held split.0 es split.1;
    }

-- of the journal's own run
pub own_follows : (h : Header) (es : List JournalEntry) (e : JournalEntry) → (legal : IsLegal h (es ++ e ∷ [])) → Follows h es e legal.held
own_follows h es e legal = follows h es e legal.held legal legal.run

-- ---- which entry a record is of

is_files : (types : List (List ℕ)) (e : JournalEntry) (payload : List ℕ) → HasForm types e → record_of types e ≡ record { kind = 1; payload = payload }
    → (names : List (List ℕ)) × (e ≡ Files names) × AreTexts names × (payload ≡ files_payload names)
is_files types (Files names) payload form is = (names, refl, form, sym (ap (λ (r : Saved). r.payload) is))
is_files types (Types first texts) payload form is = let no : 2 ≡ 1 = ap (λ (r : Saved). r.kind) is in absurd (omega (arith, no))
is_files types (Words first texts) payload form is = let no : 3 ≡ 1 = ap (λ (r : Saved). r.kind) is in absurd (omega (arith, no))
is_files types (Segment s) payload form is = let no : 4 ≡ 1 = ap (λ (r : Saved). r.kind) is in absurd (omega (arith, no))

-- the number of a dictionary's records, and its entry
abbrev pub number_of : Which → ℕ
number_of which.Types = 2
number_of which.Words = 3

abbrev pub entry_of : Which → ℕ → List (List ℕ) → JournalEntry
entry_of which.Types first texts = Types first texts
entry_of which.Words first texts = Words first texts

pub is_texts : (kind : Which) (types : List (List ℕ)) (e : JournalEntry) (payload : List ℕ) → HasForm types e → record_of types e ≡ record { kind = number_of kind; payload = payload }
    → (first : ℕ) × ((texts : List (List ℕ)) × (e ≡ entry_of kind first texts) × (first < 2 ^ 32) × AreTexts texts × (payload ≡ texts_payload first texts))
is_texts which.Types types (Files names) payload form is = let no : 1 ≡ 2 = ap (λ (r : Saved). r.kind) is in absurd (omega (arith, no))
is_texts which.Types types (Types first texts) payload form is = (first, (texts, refl, form.0, form.1, sym (ap (λ (r : Saved). r.payload) is)))
is_texts which.Types types (Words first texts) payload form is = let no : 3 ≡ 2 = ap (λ (r : Saved). r.kind) is in absurd (omega (arith, no))
is_texts which.Types types (Segment s) payload form is = let no : 4 ≡ 2 = ap (λ (r : Saved). r.kind) is in absurd (omega (arith, no))
is_texts which.Words types (Files names) payload form is = let no : 1 ≡ 3 = ap (λ (r : Saved). r.kind) is in absurd (omega (arith, no))
is_texts which.Words types (Types first texts) payload form is = let no : 2 ≡ 3 = ap (λ (r : Saved). r.kind) is in absurd (omega (arith, no))
is_texts which.Words types (Words first texts) payload form is = (first, (texts, refl, form.0, form.1, sym (ap (λ (r : Saved). r.payload) is)))
is_texts which.Words types (Segment s) payload form is = let no : 4 ≡ 3 = ap (λ (r : Saved). r.kind) is in absurd (omega (arith, no))

pub is_segment : (types : List (List ℕ)) (e : JournalEntry) (payload : List ℕ) → HasForm types e → record_of types e ≡ record { kind = 4; payload = payload }
    → (s : SegmentEntry) × (e ≡ Segment s) × HasForm types (Segment s) × (payload ≡ head_bytes (head_in types s) ++ columns_bytes s.rows)
is_segment types (Files names) payload form is = let no : 1 ≡ 4 = ap (λ (r : Saved). r.kind) is in absurd (omega (arith, no))
is_segment types (Types first texts) payload form is = let no : 2 ≡ 4 = ap (λ (r : Saved). r.kind) is in absurd (omega (arith, no))
is_segment types (Words first texts) payload form is = let no : 3 ≡ 4 = ap (λ (r : Saved). r.kind) is in absurd (omega (arith, no))
is_segment types (Segment s) payload form is = (s, refl, form, sym (ap (λ (r : Saved). r.payload) is))

pub no_entry : (types : List (List ℕ)) (e : JournalEntry) (kind : ℕ) (payload : List ℕ) → record_of types e ≡ record { kind = kind; payload = payload }
    → (1 ≤ kind) × (kind ≤ 4)
no_entry types (Files names) kind payload is = let has : 1 ≡ kind = ap (λ (r : Saved). r.kind) is in (omega (arith, has), omega (arith, has))
no_entry types (Types first texts) kind payload is = let has : 2 ≡ kind = ap (λ (r : Saved). r.kind) is in (omega (arith, has), omega (arith, has))
no_entry types (Words first texts) kind payload is = let has : 3 ≡ kind = ap (λ (r : Saved). r.kind) is in (omega (arith, has), omega (arith, has))
no_entry types (Segment s) kind payload is = let has : 4 ≡ kind = ap (λ (r : Saved). r.kind) is in (omega (arith, has), omega (arith, has))

-- ---- names

-- the entry of a record of these names
pub files_entry : (at : ℕ) (payload : List ℕ) (names : List (List ℕ)) (h : Header) (es : List JournalEntry) (e : JournalEntry) → AreTexts names → payload ≡ files_payload names
    → IsNext at 1 payload h es e → e ≡ Files names
files_entry at payload names h es e are spells next =
    let is = is_files (types_of es) e payload (next_form at 1 payload h es e next) next.saved in
    is.1 ∙ ap Files (one_list is.0 names is.2 are (sym is.3 ∙ spells))

-- the files with them
pub files_named : (h : Header) (es : List JournalEntry) (names : List (List ℕ)) (more : Held) (f : Follows h es (Files names) more) → files_of more ≡ files_of f.held ++ map new_file names
files_named h es names more f = ap files_of f.takes ∙ entries_named f.held.names names f.held.pieces f.below

names_step : (h : Header) (es : List JournalEntry) (names : List (List ℕ)) (old new : Built) → IsLegal h (es ++ Files names ∷ [])
    → new.files ≡ old.files ++ map new_file names → new.kept ≡ old.kept → new.segments ≡ old.segments
    → Builds old h es → Builds new h (es ++ Files names ∷ [])
names_step h es names old new legal files kept segments built more run =
    let f = follows h es (Files names) more legal run in
    let was : IsBuilt old h es f.held = built f.held f.run in
    record {
      kept = kept ∙ was.kept ∙ ap (kept_of h) (sym f.takes);
      files = files ∙ ap (λ l. l ++ map new_file names) was.files ∙ sym (files_named h es names more f);
      segments = segments ∙ was.segments ∙ sym (places_more h es (Files names) ∙ append-nil (places_of es));
    }

pub names_built : (at : ℕ) (payload : List ℕ) (names : List (List ℕ)) (old new : Built) → AreTexts names → payload ≡ files_payload names
    → new.files ≡ old.files ++ map new_file names → new.kept ≡ old.kept → new.segments ≡ old.segments → BuildsNext at 1 payload old new
names_built at payload names old new are spells files kept segments h es e next built =
    let same : e ≡ Files names = files_entry at payload names h es e are spells next in
    subst (λ f. Builds new h (es ++ f ∷ [])) (sym same)
    (names_step h es names old new (subst (λ f. IsLegal h (es ++ f ∷ [])) same next.legal) files kept segments built)

pub no_names : (at : ℕ) (payload : List ℕ) (old : Keeping) → ((names : List (List ℕ)) → AreTexts names → payload ≢ files_payload names) → NoneNext at 1 payload old
no_names at payload old none h es e next was =
    let is = is_files (types_of es) e payload (next_form at 1 payload h es e next) next.saved in none is.0 is.2 is.3

-- ---- texts

-- the entry of a record of these texts
pub texts_entry : (kind : Which) (at : ℕ) (payload : List ℕ) (first : ℕ) (texts : List (List ℕ)) (h : Header) (es : List JournalEntry) (e : JournalEntry) → first < 2 ^ 32 → AreTexts texts
    → payload ≡ texts_payload first texts → IsNext at (number_of kind) payload h es e → e ≡ entry_of kind first texts
texts_entry kind at payload first texts h es e fits are spells next =
    let is = is_texts kind (types_of es) e payload (next_form at (number_of kind) payload h es e next) next.saved in
    let one = one_texts is.0 first is.1.0 texts is.1.2 fits is.1.3 are (sym is.1.4 ∙ spells) in
    is.1.1 ∙ ap₂ (λ n l. entry_of kind n l) one.0 one.1

texts_step : (kind : Which) (h : Header) (es : List JournalEntry) (first : ℕ) (texts : List (List ℕ)) (old new : Built) → IsLegal h (es ++ entry_of kind first texts ∷ [])
    → new.kept ≡ with_texts kind texts old.kept → new.files ≡ old.files → new.segments ≡ old.segments
    → Builds old h es → Builds new h (es ++ entry_of kind first texts ∷ [])
texts_step which.Types h es first texts old new legal kept files segments built more run =
    let f = follows h es (Types first texts) more legal run in
    let was : IsBuilt old h es f.held = built f.held f.run in
    subst (λ x. IsBuilt new h (es ++ Types first texts ∷ []) x) (sym f.takes.1) (record {
      kept = kept ∙ ap (λ k. with_texts which.Types texts k) was.kept;
      files = files ∙ was.files;
      segments = segments ∙ was.segments ∙ sym (places_more h es (Types first texts) ∙ append-nil (places_of es));
    })
texts_step which.Words h es first texts old new legal kept files segments built more run =
    let f = follows h es (Words first texts) more legal run in
    let was : IsBuilt old h es f.held = built f.held f.run in
    subst (λ x. IsBuilt new h (es ++ Words first texts ∷ []) x) (sym f.takes.1) (record {
      kept = kept ∙ ap (λ k. with_texts which.Words texts k) was.kept;
      files = files ∙ was.files;
      segments = segments ∙ was.segments ∙ sym (places_more h es (Words first texts) ∙ append-nil (places_of es));
    })

pub texts_built : (kind : Which) (at : ℕ) (payload : List ℕ) (first : ℕ) (texts : List (List ℕ)) (old new : Built) → first < 2 ^ 32 → AreTexts texts → payload ≡ texts_payload first texts
    → new.kept ≡ with_texts kind texts old.kept → new.files ≡ old.files → new.segments ≡ old.segments → BuildsNext at (number_of kind) payload old new
texts_built kind at payload first texts old new fits are spells kept files segments h es e next built =
    let same : e ≡ entry_of kind first texts = texts_entry kind at payload first texts h es e fits are spells next in
    subst (λ f. Builds new h (es ++ f ∷ [])) (sym same)
    (texts_step kind h es first texts old new (subst (λ f. IsLegal h (es ++ f ∷ [])) same next.legal) kept files segments built)

-- these texts may be the next of a dictionary: they are numbered on, and it may have them
abbrev pub MayFollow : Which → ℕ → List (List ℕ) → Kept → Type 0
MayFollow kind first texts k = (first ≡ length (texts_of kind k)) × MayHold (limit_of kind k) (texts_of kind k ++ texts)

pub may_follow : (kind : Which) (h : Header) (es : List JournalEntry) (first : ℕ) (texts : List (List ℕ)) (more : Held) (f : Follows h es (entry_of kind first texts) more)
    → MayFollow kind first texts (kept_of h f.held)
may_follow which.Types h es first texts more f = (f.takes.0.behind, record { distinct = f.takes.0.book.distinct; most = f.takes.0.book.most })
may_follow which.Words h es first texts more f = (f.takes.0.behind, record { distinct = f.takes.0.book.distinct; most = f.takes.0.book.most })

pub no_texts : (kind : Which) (at : ℕ) (payload : List ℕ) (old : Built)
    → ((first : ℕ) (texts : List (List ℕ)) → first < 2 ^ 32 → AreTexts texts → payload ≡ texts_payload first texts → first ≡ length (texts_of kind old.kept)
    → MayHold (limit_of kind old.kept) (texts_of kind old.kept ++ texts) → ⊥)
    → NoneNext at (number_of kind) payload (Builds old)
no_texts kind at payload old none h es e next built =
    let is = is_texts kind (types_of es) e payload (next_form at (number_of kind) payload h es e next) next.saved in
    let f = own_follows h es (entry_of kind is.0 is.1.0) (subst (λ f. IsLegal h (es ++ f ∷ [])) is.1.1 next.legal) in
    let may = subst (MayFollow kind is.0 is.1.0) (sym (built f.held f.run).kept) (may_follow kind h es is.0 is.1.0 _ f) in
    none is.0 is.1.0 is.1.2 is.1.3 is.1.4 may.0 may.1

-- ---- segments

canonical_length : (version : ℕ) (rows : List Row) (types words messages : List (List ℕ)) → AreCanonical version rows types words messages → length rows ≡ length messages
canonical_length version [] types words [] are = refl
canonical_length version [] types words (m ∷ messages) are = absurd are
canonical_length version (r ∷ rows) types words [] are = absurd are
canonical_length version (r ∷ rows) types words (m ∷ messages) are = ap suc (canonical_length version rows types words messages are.1)

-- what is written of a segment's rows is its head
pub segment_head : (types : List (List ℕ)) (s : SegmentEntry) → HasForm types (Segment s) → IsHead (head_in types s)
segment_head types s form =
    (read_back s.file s.first s.last s.ended s.rows (words_named types s.rows) form.file_fits form.first_fits form.rows_fit form.few_rows form.few_variables (record {
      rise = rise_of 0 (words_named types s.rows) (up_sorted_set (flat_map (numbers_of_row types) s.rows));
      fit = form.words_fit;
      count = form.few_words;
    })).0

-- the head that a segment's payload begins with is its own
pub one_head : (types : List (List ℕ)) (s : SegmentEntry) (payload : List ℕ) (head : Head) → HasForm types (Segment s)
    → payload ≡ head_bytes (head_in types s) ++ columns_bytes s.rows → HasHead head payload → head ≡ head_in types s
one_head types s payload head form is has =
    (heads_once head (head_in types s) has.rest (columns_bytes s.rows) has.fits (segment_head types s form) (sym has.spells ∙ is)).0

pub own_head : (types : List (List ℕ)) (s : SegmentEntry) (payload : List ℕ) → HasForm types (Segment s)
    → payload ≡ head_bytes (head_in types s) ++ columns_bytes s.rows → HasHead (head_in types s) payload
own_head types s payload form is = record { fits = segment_head types s form; rest = columns_bytes s.rows; spells = is }

-- the files with a segment
pub files_more : (h : Header) (es : List JournalEntry) (s : SegmentEntry) (more : Held) (f : Follows h es (Segment s) more)
    → files_of more ≡ set (files_of f.held) s.file (file_with (get_or (files_of f.held) s.file no_file) (head_in (types_of es) s))
files_more h es s more f =
    let held : Held = f.held in
    let adds : AddsSegment h.version held s f.takes.0 = f.takes.1 in
    let p : Piece = piece_of s f.takes.0 in
    let at : 0 + s.file ≡ p.file = omega arith in
    ap files_of f.takes.2 ∙ entries_set 0 held.names held.pieces p s.file (length s.rows) at f.named.0 adds.goes_on adds.ended
    (canonical_length h.version s.rows held.types held.words f.takes.0 adds.canonical)

segment_step : (h : Header) (es : List JournalEntry) (s : SegmentEntry) (old new : Built) → IsLegal h (es ++ Segment s ∷ [])
    → new.kept ≡ old.kept → new.segments ≡ old.segments ++ placed (length (front_of h es)) (types_of es) (Segment s)
    → new.files ≡ set old.files s.file (file_with (get_or old.files s.file no_file) (head_in (types_of es) s))
    → Builds old h es → Builds new h (es ++ Segment s ∷ [])
segment_step h es s old new legal kept segments files built more run =
    let f = follows h es (Segment s) more legal run in
    let was : IsBuilt old h es f.held = built f.held f.run in
    record {
      kept = kept ∙ was.kept ∙ ap (kept_of h) (sym f.takes.2);
      files = files ∙ ap (λ (l : List FileEntry). set l s.file (file_with (get_or l s.file no_file) (head_in (types_of es) s))) was.files ∙ sym (files_more h es s more f);
      segments = segments ∙ ap (λ l. l ++ placed (length (front_of h es)) (types_of es) (Segment s)) was.segments ∙ sym (places_more h es (Segment s));
    }

same_place : (at payload length other_payload other_length : ℕ) (head other : Head) → payload ≡ other_payload → length ≡ other_length → head ≡ other
    → (let x : SegmentPlace = record { at = at; payload = payload; length = length; head = head } in x) ≡ record { at = at; payload = other_payload; length = other_length; head = other }
same_place at payload length other_payload other_length head other p q r = λ i. record { at = at; payload = p i; length = q i; head = r i }

pub segment_built : (at : ℕ) (payload : List ℕ) (head : Head) (place : SegmentPlace) (old new : Built) → HasHead head payload
    → place ≡ record { at = at; payload = at + 10; length = length payload; head = head } → new.kept ≡ old.kept → new.segments ≡ old.segments ++ place ∷ []
    → new.files ≡ set old.files head.file (file_with (get_or old.files head.file no_file) head) → BuildsNext at 4 payload old new
segment_built at payload head place old new has at_place kept segments files h es e next built =
    let is = is_segment (types_of es) e payload (next_form at 4 payload h es e next) next.saved in
    let s : SegmentEntry = is.0 in
    let mine : head ≡ head_in (types_of es) s = one_head (types_of es) s payload head is.2 is.3 has in
    let here : place ≡ record { at = length (front_of h es); payload = length (front_of h es) + 10; length = length (record_of (types_of es) (Segment s)).payload; head = head_in (types_of es) s } =
    at_place ∙ ap (λ n. (let x : SegmentPlace = record { at = n; payload = n + 10; length = length payload; head = head } in x)) next.gate
    ∙ same_place (length (front_of h es)) _ _ _ _ head (head_in (types_of es) s) refl (ap length is.3) mine in
    subst (λ f. Builds new h (es ++ f ∷ [])) (sym is.1)
    (segment_step h es s old new (subst (λ f. IsLegal h (es ++ f ∷ [])) is.1 next.legal) kept (segments ∙ ap (λ x. old.segments ++ x ∷ []) here)
    (files ∙ ap (λ (k : Head). set old.files k.file (file_with (get_or old.files k.file no_file) k)) mine) built)

pub no_head : (at : ℕ) (payload : List ℕ) (old : Keeping) → ((head : Head) → HasHead head payload → ⊥) → NoneNext at 4 payload old
no_head at payload old none h es e next was =
    let is = is_segment (types_of es) e payload (next_form at 4 payload h es e next) next.saved in
    none (head_in (types_of es) is.0) (own_head (types_of es) is.0 payload is.2 is.3)

-- a segment with this head may be the next of these files
abbrev pub MayGoOn : Head → List FileEntry → Type 0
MayGoOn head files = (head.file < length files) × GoesOn (get_or files head.file no_file) head

pub may_go_on : (h : Header) (es : List JournalEntry) (s : SegmentEntry) (more : Held) (f : Follows h es (Segment s) more) → MayGoOn (head_in (types_of es) s) (files_of f.held)
may_go_on h es s more f =
    let held : Held = f.held in
    let adds : AddsSegment h.version held s f.takes.0 = f.takes.1 in
    let at : 0 + s.file ≡ s.file = omega arith in
    let got = entries_get 0 held.names held.pieces s.file f.named.0 in (
      omega (arith, f.named.0, length-entries 0 held.names held.pieces),
      record {
        whole = got.1 ∙ ap (λ k. is_whole k held.pieces) at ∙ adds.goes_on;
        first = adds.first ∙ ap (λ k. length (messages_of k held.pieces)) (sym at) ∙ sym got.0;
        most = adds.most;
      },
    )

pub no_segment : (at : ℕ) (payload : List ℕ) (head : Head) (old : Built) → HasHead head payload
    → (head.file < length old.files → GoesOn (get_or old.files head.file no_file) head → ⊥) → NoneNext at 4 payload (Builds old)
no_segment at payload head old has none h es e next built =
    let is = is_segment (types_of es) e payload (next_form at 4 payload h es e next) next.saved in
    let mine : head ≡ head_in (types_of es) is.0 = one_head (types_of es) is.0 payload head is.2 is.3 has in
    let f = own_follows h es (Segment is.0) (subst (λ f. IsLegal h (es ++ f ∷ [])) is.1 next.legal) in
    let may = subst (MayGoOn (head_in (types_of es) is.0)) (sym (built f.held f.run).files) (may_go_on h es is.0 _ f) in
    subst (λ (k : Head). (k.file < length old.files → GoesOn (get_or old.files k.file no_file) k → ⊥)) mine none may.0 may.1
