-- What the limits of a legal journal give: each entry has its form.
use Rattle.std.proofs.Common.{◌≡◌, ℕ, ◌+◌, ◌^◌, ◌<◌, ◌≤◌, List, [], ◌∷◌, ◌++◌, length, All, refl, sym, ◌∙◌, ap, subst, arith, length-append}
use Rattle.std.specs.List.{flat_map}
use Rattle.std.proofs.lemmas.List.{append-nil, drop_at}
use Rattle.std.proofs.lemmas.List.Elements.{All-drop}
use Rattle.logtype_text.specs.Fair.{IsFairType, IsFairWord}
use Rattle.disk_journal.specs.Record.{body, spelled}
use Rattle.disk_journal.proofs.SpellingLemmas.{length-body}
use Rattle.record_format.specs.declared.header.Header.{Header}
use Rattle.record_format.specs.Header.{IsHeader}
use Rattle.record_format.specs.Lists.{AreTexts}
use Rattle.row_codec.specs.Numbers.{numbers_of_row}
use Rattle.archive_meaning.specs.StepsForms.{HasForm, HaveForms, IsSegment}
use Rattle.archive_meaning.proofs.SetLemmas.{all_of_set, set_is_short}
use Rattle.archive_meaning.specs.declared.TheConstants.{MAX_FILES}
use Rattle.archive_meaning.specs.declared.entry.SegmentEntry.{SegmentEntry}
use Rattle.archive_meaning.specs.declared.entry.JournalEntry.{JournalEntry}
use Rattle.archive_meaning.specs.declared.entry.JournalEntry.TheVariants.{Files, Types, Words, Segment}
use Rattle.archive_meaning.specs.Held.{Held}
use Rattle.archive_meaning.specs.Legal.{Accepts, AddsSegment, AddsTexts, AreNamed, Run}
use Rattle.archive_meaning.specs.Spelled.{record_of, records_from, types_in, words_named}
use Rattle.archive_meaning.proofs.FormLemmas.{rows_numbers_few, rows_numbers_low}

below : (old texts : List (List ℕ)) (most : ℕ) → All (λ text. length text ≤ most) (old ++ texts) → most < 2 ^ 32 → All (λ text. length text < 2 ^ 32) texts
below old texts most all low k d lt =
    let here : All (λ text. length text ≤ most) texts =
    subst (λ l. All (λ text. length text ≤ most) l) (drop_at old texts (length old) refl) (All-drop (λ text. length text ≤ most) (length old) (old ++ texts) all) in
    omega (arith, here k d lt, low)

texts_form : (IsFair : List ℕ → Type 0) (limit most : ℕ) (old texts : List (List ℕ)) (first : ℕ) → AddsTexts IsFair limit old first texts
    → ((t : List ℕ) → IsFair t → length t ≤ most) → most < 2 ^ 32 → limit < 2 ^ 32 → (first < 2 ^ 32) × AreTexts texts
texts_form IsFair limit most old texts first adds short low few =
    let both : length (old ++ texts) ≡ length old + length texts = length-append old texts in (
      omega (arith, adds.behind, adds.book.most, both, few),
      record {
        count = omega (arith, adds.book.most, both, few);
        lengths = below old texts most (λ k d lt. short _ (adds.book.fair k d lt)) low;
      },
    )

segment_form : (h : Header) (held : Held) (s : SegmentEntry) (messages : List (List ℕ)) (count : ℕ) → AddsSegment h.version held s messages
    → length held.words < 2 ^ 32 → s.file < count → count ≤ MAX_FILES → IsSegment s.file s.first s.last s.ended s.rows (words_named held.types s.rows)
segment_form h held s messages count adds few named all =
    let low = rows_numbers_low h.version s.rows held.types held.words messages adds.canonical in
    record {
      file_fits = omega (arith, named, all);
      first_fits = omega (arith, adds.most);
      rows_fit = adds.fit;
      few_rows = omega (arith, adds.rows);
      few_variables = adds.variables;
      words_fit = all_of_set (λ w. w < 2 ^ 32) (flat_map (numbers_of_row held.types) s.rows) (λ k d lt. omega (arith, low k d lt, few));
      few_words = omega (arith, set_is_short (flat_map (numbers_of_row held.types) s.rows), rows_numbers_few held.types s.rows, adds.variables);
      closed = adds.ended;
    }

entry_form : (h : Header) (held mid : Held) (e : JournalEntry) (es : List JournalEntry) (count : ℕ) → IsHeader h → length held.words ≤ h.words_limit
    → Accepts h held e mid → AreNamed count (e ∷ es) → count ≤ MAX_FILES → HasForm held.types e
entry_form h held mid (Files names) es count header few takes named all = record {
  count = omega (arith, named.1);
  lengths = λ k d lt. omega (arith, named.2 k d lt);
}
entry_form h held mid (Types first texts) es count header few takes named all =
    texts_form IsFairType h.types_limit 2_097_152 held.types texts first takes.0 (λ t fair. fair.short) (omega arith) (omega (arith, header.most_types))
entry_form h held mid (Words first texts) es count header few takes named all =
    texts_form IsFairWord h.words_limit 1_048_576 held.words texts first takes.0 (λ t fair. fair.short) (omega arith) (omega (arith, header.most_words))
entry_form h held mid (Segment s) es count header few takes named all =
    segment_form h held s takes.0 count takes.1 (omega (arith, few, header.most_words)) named.0 all

pub types_after : (h : Header) (held mid : Held) (e : JournalEntry) → Accepts h held e mid → mid.types ≡ held.types ++ types_in e
types_after h held mid (Files names) takes = ap (λ (x : Held). x.types) takes ∙ sym (append-nil held.types)
types_after h held mid (Types first texts) takes = ap (λ (x : Held). x.types) takes.1
types_after h held mid (Words first texts) takes = ap (λ (x : Held). x.types) takes.1 ∙ sym (append-nil held.types)
types_after h held mid (Segment s) takes = ap (λ (x : Held). x.types) takes.2 ∙ sym (append-nil held.types)

words_after : (h : Header) (held mid : Held) (e : JournalEntry) → Accepts h held e mid → length held.words ≤ h.words_limit → length mid.words ≤ h.words_limit
words_after h held mid (Files names) takes few = subst (λ (x : Held). length x.words ≤ h.words_limit) (sym takes) few
words_after h held mid (Types first texts) takes few = subst (λ (x : Held). length x.words ≤ h.words_limit) (sym takes.1) few
words_after h held mid (Words first texts) takes few = subst (λ (x : Held). length x.words ≤ h.words_limit) (sym takes.1) takes.0.book.most
words_after h held mid (Segment s) takes few = subst (λ (x : Held). length x.words ≤ h.words_limit) (sym takes.2) few

named_after : (count : ℕ) (e : JournalEntry) (es : List JournalEntry) → AreNamed count (e ∷ es) → count ≤ MAX_FILES → (next : ℕ) × (next ≤ MAX_FILES) × AreNamed next es
named_after count (Files names) es named all = (count + length names, named.3, named.4)
named_after count (Types first texts) es named all = (count, all, named)
named_after count (Words first texts) es named all = (count, all, named)
named_after count (Segment s) es named all = (count, all, named.1)

-- each entry that a legal journal goes on with has its form
pub run_forms : (h : Header) (held more : Held) (es : List JournalEntry) (count : ℕ) → IsHeader h → length held.words ≤ h.words_limit
    → Run h held es more → AreNamed count es → count ≤ MAX_FILES → length (spelled (records_from held.types es)) < 2 ^ 64 → HaveForms held.types es
run_forms h held more [] count header few run named all short = tt
run_forms h held more (e ∷ es) count header few run named all short =
    let mid : Held = run.0 in
    let types : mid.types ≡ held.types ++ types_in e = types_after h held mid e run.1 in
    let next = named_after count e es named all in
    let rest : List ℕ = spelled (records_from (held.types ++ types_in e) es) in
    let size : length (body (record_of held.types e) ++ rest) ≡ length (body (record_of held.types e)) + length rest = length-append (body (record_of held.types e)) rest in
    let less : length rest < 2 ^ 64 = omega (arith, short, size) in
    let back = run_forms h mid more es next.0 header (words_after h held mid e run.1 few) run.2 next.2 next.1
    (subst (λ t. length (spelled (records_from t es)) < 2 ^ 64) (sym types) less) in (
      entry_form h held mid e es count header few run.1 named all,
      omega (arith, short, size, length-body (record_of held.types e)),
      subst (λ t. HaveForms t es) types back,
    )
