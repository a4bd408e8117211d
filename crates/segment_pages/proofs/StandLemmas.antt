-- The rows of a journal's segments stand in its bytes.
use Rattle.std.proofs.Common.{◌≡◌, ◌≤◌, ◌+◌, ℕ, List, [], ◌∷◌, ◌++◌, length, refl, sym, ◌∙◌, ap, subst, arith, length-append}
use Rattle.std.specs.Int.{w64, to_le_bytes}
use Rattle.std.specs.List.{flat_map}
use Rattle.std.proofs.lemmas.List.{append-nil, append_assoc}
use Rattle.record_format.specs.declared.header.Header.{Header}
use Rattle.row_codec.specs.Numbers.{numbers_of_row}
use Rattle.segment_format.specs.Layout.{IsHead, head_of, segment_bytes}
use Rattle.segment_format.specs.Spelled.{HoldsRows}
use Rattle.segment_format.proofs.LawsLemmas.{read_back}
use Rattle.segment_format.proofs.SetLemmas.{rise_of, up_sorted_set}
use Rattle.disk_journal.specs.Record.{Saved, body, spelled}
use Rattle.disk_journal.proofs.SpellingLemmas.{length-body}
use Rattle.archive_meaning.specs.declared.entry.SegmentEntry.{SegmentEntry}
use Rattle.archive_meaning.specs.declared.entry.JournalEntry.{JournalEntry}
use Rattle.archive_meaning.specs.declared.entry.JournalEntry.TheVariants.{Segment}
use Rattle.archive_meaning.specs.Spelled.{front_of, record_of, records_from, types_in, types_of, words_named}
use Rattle.archive_meaning.specs.Stands.{StandsFor}
use Rattle.archive_meaning.specs.StepsForms.{HasForm, HaveForms}
use Rattle.archive_meaning.proofs.UniqueLemmas.{front_joined, legal_forms}
use Rattle.segment_pages.specs.Paged.{StandsAt}
use Rattle.segment_pages.specs.Laws.{SegmentsAreHeld}

-- each entry has its form behind the log types of those before it
pub form_at : (types : List (List ℕ)) (before after : List JournalEntry) (e : JournalEntry) → HaveForms types (before ++ e ∷ after) → HasForm (types ++ types_of before) e
form_at types [] after e forms = subst (λ t. HasForm t e) (sym (append-nil types)) forms.0
form_at types (b ∷ before) after e forms =
    subst (λ t. HasForm t e) (append_assoc types (types_in b) (types_of before)) (form_at (types ++ types_in b) before after e forms.2)

-- what is written of a segment's rows is a head, and holds them
rows_held : (types : List (List ℕ)) (s : SegmentEntry) → HasForm types (Segment s)
    → IsHead (head_of s.file s.first s.last s.ended s.rows (words_named types s.rows))
    × HoldsRows (head_of s.file s.first s.last s.ended s.rows (words_named types s.rows)) (segment_bytes s.file s.first s.last s.ended s.rows (words_named types s.rows)) s.rows
rows_held types s form =
    read_back s.file s.first s.last s.ended s.rows (words_named types s.rows) form.file_fits form.first_fits form.rows_fit form.few_rows form.few_variables (record {
      rise = rise_of 0 (words_named types s.rows) (up_sorted_set (flat_map (numbers_of_row types) s.rows));
      fit = form.words_fit;
      count = form.few_words;
    })

-- gate, kind and length of a record, and then its payload
framed : (r : Saved) (front behind : List ℕ) → front ++ (1 ∷ body r ++ behind) ≡ (front ++ (1 ∷ r.kind ∷ to_le_bytes w64 (length r.payload))) ++ (r.payload ++ behind)
unfolding body
framed r front behind =
    ap (λ (l : List ℕ). front ++ l) (append_assoc (1 ∷ r.kind ∷ to_le_bytes w64 (length r.payload)) r.payload behind)
    ∙ sym (append_assoc front (1 ∷ r.kind ∷ to_le_bytes w64 (length r.payload)) (r.payload ++ behind))

pub payload_stands : (bytes : List ℕ) (h : Header) (es before after : List JournalEntry) (e : JournalEntry) → StandsFor bytes h es → es ≡ before ++ e ∷ after
    → StandsAt (length (front_of h before) + 10) (record_of (types_of before) e).payload bytes
payload_stands bytes h es before after e stood is =
    let r : Saved = record_of (types_of before) e in
    let others : List ℕ = spelled (records_from (types_of before ++ types_in e) after) in
    let end : List ℕ = stood.stands.gate ∷ stood.stands.rest in
    let front : List ℕ = front_of h before in
    let whole : bytes ≡ (front ++ ((1 ∷ body r) ++ others)) ++ end =
    stood.stands.spells ∙ ap (λ l. front_of h l ++ end) is ∙ ap (λ (l : List ℕ). l ++ end) (front_joined h before (e ∷ after)) in
    let cut : bytes ≡ (front ++ (1 ∷ r.kind ∷ to_le_bytes w64 (length r.payload))) ++ (r.payload ++ (others ++ end)) =
    whole ∙ append_assoc front ((1 ∷ body r) ++ others) end ∙ ap (λ (l : List ℕ). front ++ l) (append_assoc (1 ∷ body r) others end) ∙ framed r front (others ++ end) in
    record {
      front = front ++ (1 ∷ r.kind ∷ to_le_bytes w64 (length r.payload));
      behind = others ++ end;
      spells = cut;
      place = length-append front (1 ∷ r.kind ∷ to_le_bytes w64 (length r.payload));
    }

-- a record ends within the limit of length
length_within : (bytes : List ℕ) (h : Header) (es before after : List JournalEntry) (e : JournalEntry) → StandsFor bytes h es → es ≡ before ++ e ∷ after
    → length (front_of h before) + 10 + length (record_of (types_of before) e).payload ≤ h.length_limit
length_within bytes h es before after e stood is =
    let r : Saved = record_of (types_of before) e in
    let others : List ℕ = spelled (records_from (types_of before ++ types_in e) after) in
    let whole : length (front_of h es) ≡ length (front_of h before) + (length (body r) + 1 + length others) =
    ap (λ l. length (front_of h l)) is ∙ ap length (front_joined h before (e ∷ after)) ∙ length-append (front_of h before) ((1 ∷ body r) ++ others)
    ∙ ap (λ (k : ℕ). length (front_of h before) + k) (length-append (1 ∷ body r) others) ∙ omega arith in
    omega (arith, whole, length-body r, stood.legal.short)

pub segments_held : SegmentsAreHeld
segments_held bytes h es before after s stood is =
    let types : List (List ℕ) = types_of before in
    let forms : HaveForms [] (before ++ Segment s ∷ after) = subst (HaveForms []) is (legal_forms h es stood.header stood.legal) in
    let held = rows_held types s (form_at [] before after (Segment s) forms) in
    let stands = payload_stands bytes h es before after (Segment s) stood is in
    record {
      is_head = held.0;
      payload = (record_of types (Segment s)).payload;
      stands = stands;
      sized = refl;
      small = omega (arith, length_within bytes h es before after (Segment s) stood is, stood.header.most_length);
      holds = held.1;
    }
