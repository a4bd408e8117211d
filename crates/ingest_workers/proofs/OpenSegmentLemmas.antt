-- A message more in the open segment.
use Rattle.std.proofs.Common.{◌≡◌, ℕ, suc, ◌+◌, ◌<◌, ◌≤◌, List, [], ◌∷◌, ◌++◌, length, refl, sym, ap, ap₂, ◌∙◌, subst, arith, append-nil, length-append}
use Rattle.std.specs.Prelude.{slice_index_or, false}
use Rattle.std.specs.List.{flat_map}
use Rattle.std.proofs.lemmas.List.Concat.{flat_map-cons, flat_map-append}
use Rattle.std.proofs.lemmas.List.Sums.{sum_by-append}
use Rattle.std.proofs.lemmas.List.{get_or_append_left}
use Rattle.std.proofs.lemmas.Option.{slice_get_within}
use mathlib.Core.List.{IsPrefix}
use Rattle.logtype_text.specs.Parts.{Part, Constant, Variable, StandAt, joined, text_of_part}
use Rattle.column_store.specs.declared.row.Row.{Row}
use Rattle.row_codec.specs.Means.{AreCanonical, EachWord, HasWord, IsCanonical}
use Rattle.row_codec.specs.Numbers.{numbers_of_row, kinds_from, word_numbers}
use Rattle.ingest_workers.specs.declared.open_segment.OpenSegment.{OpenSegment}
use Rattle.ingest_workers.specs.OpenSegment.{HasMessages}
use Rattle.ingest_workers.proofs.JournalLemmas.{all_canonical}

abbrev Texts : Type 0
Texts = List (List ℕ)

-- each variable of a body has a byte
words_few : (words : Texts) (body : List ℕ) (at : ℕ) (parts : List Part) (row : List ℕ) → StandAt body at parts → EachWord (HasWord words) parts row → length row ≤ length (joined parts)
words_few words body at [] [] stand each = omega arith
words_few words body at [] (w ∷ row) stand each = absurd each
words_few words body at (Constant b ∷ parts) row stand each =
    omega (arith, words_few words body (at + 1) parts row stand.1 each, ap length (flat_map-cons text_of_part (Constant b) parts), length-append (b ∷ []) (joined parts))
words_few words body at (Variable kind text ∷ parts) [] stand each = absurd each
words_few words body at (Variable kind text ∷ parts) (w ∷ row) stand each =
    omega (
      arith,
      stand.0.token.not_empty,
      words_few words body (at + length text) parts row stand.2 each.1,
      ap length (flat_map-cons text_of_part (Variable kind text) parts),
      length-append text (joined parts),
    )

-- a row has no more words than its message has bytes
pub row_short : (version : ℕ) (row : Row) (types words : Texts) (message : List ℕ) → IsCanonical version row types words message → length row.words ≤ length message
row_short version row types words message is =
    omega (
      arith,
      words_few words (joined is.means.parts) 0 is.means.parts row.words is.body.stand is.means.coded,
      ap length is.means.is,
      length-append is.means.stamp (joined is.means.parts),
    )

-- the dictionary numbers of rows stay where there are more log types
pub same_numbers : (version : ℕ) (rows : List Row) (types words more ms : Texts) → IsPrefix types more → AreCanonical version rows types words ms → flat_map (numbers_of_row types) rows ≡ flat_map (numbers_of_row more) rows
same_numbers version [] types words more ms front are = refl
same_numbers version (r ∷ rows) types words more [] front are = absurd are
same_numbers version (r ∷ rows) types words more (m ∷ ms) front are =
    let inside : r.log_type < length types = slice_get_within types r.log_type _ are.0.means.typed in
    let here : slice_index_or types r.log_type [] ≡ slice_index_or more r.log_type [] = sym (get_or_append_left types front.0 [] r.log_type inside) ∙ ap (λ l. slice_index_or l r.log_type []) front.1 in
    flat_map-cons (numbers_of_row types) r rows
    ∙ (ap₂ (λ t l. word_numbers (kinds_from false t) r.words ++ l) here (same_numbers version rows types words more ms front are.1)
    ∙ sym (flat_map-cons (numbers_of_row more) r rows))

pub canonical_push : (version : ℕ) (rows : List Row) (row : Row) (types words ms : Texts) (m : List ℕ) → AreCanonical version rows types words ms → IsCanonical version row types words m → AreCanonical version (rows ++ row ∷ []) types words (ms ++ m ∷ [])
canonical_push version [] row types words [] m are is = (is, tt)
canonical_push version [] row types words (n ∷ ms) m are is = absurd are
canonical_push version (r ∷ rows) row types words [] m are is = absurd are
canonical_push version (r ∷ rows) row types words (n ∷ ms) m are is = (are.0, canonical_push version rows row types words ms m are.1 is)

pub canonical_even : (version : ℕ) (rows : List Row) (types words ms : Texts) → AreCanonical version rows types words ms → length rows ≡ length ms
canonical_even version [] types words [] are = refl
canonical_even version [] types words (m ∷ ms) are = absurd are
canonical_even version (r ∷ rows) types words [] are = absurd are
canonical_even version (r ∷ rows) types words (m ∷ ms) are = ap suc (canonical_even version rows types words ms are.1)

-- what is in the open segment stays so where more texts are known
pub in_hand_on : (version : ℕ) (types words more_types more_words messages : Texts) (segment : OpenSegment) → IsPrefix types more_types → IsPrefix words more_words
    → HasMessages version types words messages segment → HasMessages version more_types more_words messages segment
in_hand_on version types words more_types more_words messages segment a b has = record {
  canonical = all_canonical version segment.draft.columns.rows types words more_types more_words messages a b has.canonical;
  used = has.used ∙ same_numbers version segment.draft.columns.rows types words more_types messages a has.canonical;
  bytes = has.bytes;
}

pub in_hand_more : (version : ℕ) (types words more_types more_words messages : Texts) (line : List ℕ) (row : Row) (numbers : List ℕ) (segment new : OpenSegment) → IsPrefix types more_types → IsPrefix words more_words
    → IsCanonical version row more_types more_words line → numbers_of_row more_types row ≡ numbers
    → new.draft.columns.rows ≡ segment.draft.columns.rows ++ row ∷ [] → new.draft.columns.bytes ≡ segment.draft.columns.bytes + length line → new.used.items ≡ segment.used.items ++ numbers
    → HasMessages version types words messages segment → HasMessages version more_types more_words (messages ++ line ∷ []) new
in_hand_more version types words more_types more_words messages line row numbers segment new a b canonical are rows bytes used has =
    let on = in_hand_on version types words more_types more_words messages segment a b has in
    record {
      canonical = subst (λ l. AreCanonical version l more_types more_words (messages ++ line ∷ [])) (sym rows) (canonical_push version segment.draft.columns.rows row more_types more_words messages line on.canonical canonical);
      used = used
          ∙ (ap₂ (λ l m. l ++ m) on.used (sym (append-nil numbers) ∙ (ap (λ l. l ++ []) (sym are) ∙ sym (flat_map-cons (numbers_of_row more_types) row [])))
          ∙ (sym (flat_map-append (numbers_of_row more_types) segment.draft.columns.rows (row ∷ []))
          ∙ ap (flat_map (numbers_of_row more_types)) (sym rows)));
      bytes = bytes ∙ (ap (λ n. n + length line) has.bytes ∙ omega (arith, sum_by-append length messages (line ∷ [])));
    }
