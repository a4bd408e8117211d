-- Which entries a record can be of, by its kind.
use Rattle.std.proofs.Common.{◌≡◌, ◌≢◌, ℕ, ◌<◌, ◌^◌, List, All, get_or, sym, ◌∙◌, ap, subst, arith}
use Rattle.std.specs.Prelude.{OnOk, Result}
use Rattle.std.proofs.Common.{Err, Ok}
use Rattle.std.specs.List.{flat_map}
use Rattle.std.proofs.lemmas.List.Elements.{All-contains, All-contains_itself}
use Rattle.disk_journal.specs.Record.{Saved}
use Rattle.record_format.specs.Lists.{AreTexts, files_payload, texts_payload}
use Rattle.record_format.proofs.ListLemmas.{one_list, one_texts}
use Rattle.column_store.specs.declared.row.Row.{Row}
use Rattle.row_codec.specs.Numbers.{numbers_of_row}
use Rattle.segment_format.specs.declared.head.Head.{Head}
use Rattle.segment_format.specs.Layout.{IsSegment, segment_bytes, sorted_set}
use Rattle.segment_format.proofs.SetLemmas.{has_sorted_set, rise_of, up_sorted_set}
use Rattle.archive_meaning.specs.declared.entry.SegmentEntry.{SegmentEntry}
use Rattle.archive_meaning.specs.declared.entry.JournalEntry.TheVariants.{Files, Types, Words, Segment}
use Rattle.archive_meaning.specs.Spelled.{words_named}
use Rattle.archive_meaning.specs.StepsForms.{HasForm}
use Rattle.archive_meaning.specs.Sums.{Admits, Sums}
use Rattle.archive_check.specs.Taken.{HasParts, SpellsNoSegment, Takes, TakesNone}

kind_of : (r s : Saved) → r ≡ s → r.kind ≡ s.kind
kind_of r s same = ap (λ (q : Saved). q.kind) same

payload_of : (r s : Saved) → r ≡ s → r.payload ≡ s.payload
payload_of r s same = ap (λ (q : Saved). q.payload) same

apart : (k l : ℕ) → k ≡ l → k ≢ l → ⊥
apart k l same other = other same

-- ---- names

pub took_names : (old new : Sums) (names : List (List ℕ)) (payload : List ℕ) → payload ≡ files_payload names → Admits old (Files names) new → Takes old 1 payload new
took_names old new names payload is admits = (Files names, (λ i. record { kind = 1; payload = sym is i }), admits)

pub no_names : (old : Sums) (payload : List ℕ) → ((names : List (List ℕ)) → AreTexts names → payload ≢ files_payload names) → TakesNone old 1 payload
no_names old payload none (Files names) more form admits same = none names form (sym (payload_of _ _ same))
no_names old payload none (Types first texts) more form admits same = apart 2 1 (kind_of _ _ same) (omega arith)
no_names old payload none (Words first texts) more form admits same = apart 3 1 (kind_of _ _ same) (omega arith)
no_names old payload none (Segment s) more form admits same = apart 4 1 (kind_of _ _ same) (omega arith)

pub not_names : (old : Sums) (payload : List ℕ) (names : List (List ℕ)) → AreTexts names → payload ≡ files_payload names
    → ((more : Sums) → Admits old (Files names) more → ⊥) → TakesNone old 1 payload
not_names old payload names are is refused (Files others) more form admits same =
    let one : others ≡ names = one_list others names form are (payload_of _ _ same ∙ is) in
    refused more (subst (λ l. Admits old (Files l) more) one admits)
not_names old payload names are is refused (Types first texts) more form admits same = apart 2 1 (kind_of _ _ same) (omega arith)
not_names old payload names are is refused (Words first texts) more form admits same = apart 3 1 (kind_of _ _ same) (omega arith)
not_names old payload names are is refused (Segment s) more form admits same = apart 4 1 (kind_of _ _ same) (omega arith)

-- ---- log types

pub took_types : (old new : Sums) (first : ℕ) (texts : List (List ℕ)) (payload : List ℕ) → payload ≡ texts_payload first texts → Admits old (Types first texts) new → Takes old 2 payload new
took_types old new first texts payload is admits = (Types first texts, (λ i. record { kind = 2; payload = sym is i }), admits)

pub no_types : (old : Sums) (payload : List ℕ) → ((first : ℕ) (texts : List (List ℕ)) → first < 2 ^ 32 → AreTexts texts → payload ≢ texts_payload first texts) → TakesNone old 2 payload
no_types old payload none (Files names) more form admits same = apart 1 2 (kind_of _ _ same) (omega arith)
no_types old payload none (Types first texts) more form admits same = none first texts form.0 form.1 (sym (payload_of _ _ same))
no_types old payload none (Words first texts) more form admits same = apart 3 2 (kind_of _ _ same) (omega arith)
no_types old payload none (Segment s) more form admits same = apart 4 2 (kind_of _ _ same) (omega arith)

pub not_types : (old : Sums) (payload : List ℕ) (first : ℕ) (texts : List (List ℕ)) → first < 2 ^ 32 → AreTexts texts → payload ≡ texts_payload first texts
    → ((more : Sums) → Admits old (Types first texts) more → ⊥) → TakesNone old 2 payload
not_types old payload first texts low are is refused (Files names) more form admits same = apart 1 2 (kind_of _ _ same) (omega arith)
not_types old payload first texts low are is refused (Types other others) more form admits same =
    let one = one_texts other first others texts form.0 low form.1 are (payload_of _ _ same ∙ is) in
    refused more (subst (λ l. Admits old (Types first l) more) one.1 (subst (λ n. Admits old (Types n others) more) one.0 admits))
not_types old payload first texts low are is refused (Words other others) more form admits same = apart 3 2 (kind_of _ _ same) (omega arith)
not_types old payload first texts low are is refused (Segment s) more form admits same = apart 4 2 (kind_of _ _ same) (omega arith)

-- ---- words

pub took_words : (old new : Sums) (first : ℕ) (texts : List (List ℕ)) (payload : List ℕ) → payload ≡ texts_payload first texts → Admits old (Words first texts) new → Takes old 3 payload new
took_words old new first texts payload is admits = (Words first texts, (λ i. record { kind = 3; payload = sym is i }), admits)

pub no_words : (old : Sums) (payload : List ℕ) → ((first : ℕ) (texts : List (List ℕ)) → first < 2 ^ 32 → AreTexts texts → payload ≢ texts_payload first texts) → TakesNone old 3 payload
no_words old payload none (Files names) more form admits same = apart 1 3 (kind_of _ _ same) (omega arith)
no_words old payload none (Types first texts) more form admits same = apart 2 3 (kind_of _ _ same) (omega arith)
no_words old payload none (Words first texts) more form admits same = none first texts form.0 form.1 (sym (payload_of _ _ same))
no_words old payload none (Segment s) more form admits same = apart 4 3 (kind_of _ _ same) (omega arith)

pub not_words : (old : Sums) (payload : List ℕ) (first : ℕ) (texts : List (List ℕ)) → first < 2 ^ 32 → AreTexts texts → payload ≡ texts_payload first texts
    → ((more : Sums) → Admits old (Words first texts) more → ⊥) → TakesNone old 3 payload
not_words old payload first texts low are is refused (Files names) more form admits same = apart 1 3 (kind_of _ _ same) (omega arith)
not_words old payload first texts low are is refused (Types other others) more form admits same = apart 2 3 (kind_of _ _ same) (omega arith)
not_words old payload first texts low are is refused (Words other others) more form admits same =
    let one = one_texts other first others texts form.0 low form.1 are (payload_of _ _ same ∙ is) in
    refused more (subst (λ l. Admits old (Words first l) more) one.1 (subst (λ n. Admits old (Words n others) more) one.0 admits))
not_words old payload first texts low are is refused (Segment s) more form admits same = apart 4 3 (kind_of _ _ same) (omega arith)

-- ---- segments

-- what holds of each number of a set holds of each that it was made of
all_from_set : (P : ℕ → Type 0) (ns : List ℕ) → All P (sorted_set ns) → All P ns
all_from_set P ns all k d within = All-contains P (sorted_set ns) (get_or ns k d) all (has_sorted_set ns (get_or ns k d) (All-contains_itself ns k d within))

-- a segment whose numbers fit has a spelling of its own
pub segment_fits : (types : List (List ℕ)) (s : SegmentEntry) → HasForm types (Segment s) → IsSegment s.file s.first s.last s.ended s.rows (words_named types s.rows)
segment_fits types s form = record {
  as_file = form.file_fits;
  as_first = form.first_fits;
  fit = form.rows_fit;
  count = form.few_rows;
  variables = form.few_variables;
  set = record {
    rise = rise_of 0 (words_named types s.rows) (up_sorted_set (flat_map (numbers_of_row types) s.rows));
    fit = form.words_fit;
    count = form.few_words;
  };
  only_last = form.closed;
}

pub took_segment : (old new : Sums) (s : SegmentEntry) (payload : List ℕ) → payload ≡ segment_bytes s.file s.first s.last s.ended s.rows (words_named old.types s.rows)
    → Admits old (Segment s) new → Takes old 4 payload new
took_segment old new s payload is admits = (Segment s, (λ i. record { kind = 4; payload = sym is i }), admits)

pub no_segment : (old : Sums) (payload : List ℕ) → SpellsNoSegment payload → TakesNone old 4 payload
no_segment old payload none (Files names) more form admits same = apart 1 4 (kind_of _ _ same) (omega arith)
no_segment old payload none (Types first texts) more form admits same = apart 2 4 (kind_of _ _ same) (omega arith)
no_segment old payload none (Words first texts) more form admits same = apart 3 4 (kind_of _ _ same) (omega arith)
no_segment old payload none (Segment s) more form admits same =
    none s.file s.first s.last s.ended s.rows (words_named old.types s.rows) (segment_fits old.types s form) (sym (payload_of _ _ same))

-- where the payload has these parts, an entry that it is the record of is the segment with them
pub only_segment : (old : Sums) (payload : List ℕ) (head : Head) (rows : List Row) → HasParts payload head rows
    → ((more : Sums) (words_are : payload ≡ segment_bytes head.file head.first head.last head.ended rows (words_named old.types rows))
    → All (λ n. n < 2 ^ 32) (flat_map (numbers_of_row old.types) rows)
    → Admits old (Segment (record { file = head.file; first = head.first; last = head.last; ended = head.ended; rows = rows })) more → ⊥)
    → TakesNone old 4 payload
only_segment old payload head rows parts refused (Files names) more form admits same = apart 1 4 (kind_of _ _ same) (omega arith)
only_segment old payload head rows parts refused (Types first texts) more form admits same = apart 2 4 (kind_of _ _ same) (omega arith)
only_segment old payload head rows parts refused (Words first texts) more form admits same = apart 3 4 (kind_of _ _ same) (omega arith)
only_segment old payload head rows parts refused (Segment s) more form admits same =
    let spelled : payload ≡ segment_bytes s.file s.first s.last s.ended s.rows (words_named old.types s.rows) = sym (payload_of _ _ same) in
    let are = parts s.file s.first s.last s.ended s.rows (words_named old.types s.rows) (segment_fits old.types s form) spelled in
    let one : s ≡ record { file = head.file; first = head.first; last = head.last; ended = head.ended; rows = rows } =
    λ i. record { file = sym are.0 i; first = sym are.1 i; last = sym are.2 i; ended = sym are.3 i; rows = sym are.4 i } in
    let low : All (λ n. n < 2 ^ 32) (flat_map (numbers_of_row old.types) s.rows) = all_from_set (λ n. n < 2 ^ 32) (flat_map (numbers_of_row old.types) s.rows) form.words_fit in
    refused more
    (subst (λ (t : SegmentEntry). payload ≡ segment_bytes t.file t.first t.last t.ended t.rows (words_named old.types t.rows)) one spelled)
    (subst (λ (t : SegmentEntry). All (λ n. n < 2 ^ 32) (flat_map (numbers_of_row old.types) t.rows)) one low)
    (subst (λ (t : SegmentEntry). Admits old (Segment t) more) one admits)

-- ---- no kind

pub no_kind : (old : Sums) (kind : ℕ) (payload : List ℕ) → kind ≢ 1 → kind ≢ 2 → kind ≢ 3 → kind ≢ 4 → TakesNone old kind payload
no_kind old kind payload a b c d (Files names) more form admits same = a (sym (kind_of _ _ same))
no_kind old kind payload a b c d (Types first texts) more form admits same = b (sym (kind_of _ _ same))
no_kind old kind payload a b c d (Words first texts) more form admits same = c (sym (kind_of _ _ same))
no_kind old kind payload a b c d (Segment s) more form admits same = d (sym (kind_of _ _ same))

pub on_ok : {A E : Type 0} (r : Result A E) {P Q : Type 0} → OnOk r P → (P → Q) → OnOk r Q
on_ok (Ok x) p f = f p
on_ok (Err e) p f = tt
