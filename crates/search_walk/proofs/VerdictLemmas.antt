-- What was decided of a row, and what that tells of its message.
use Rattle.std.proofs.Common.{◌≡◌, ◌≢◌, ℕ, List, ◌++◌, length, drop, refl, ◌∙◌, ap₂, subst, sym}
use Rattle.std.proofs.lemmas.List.{drop_at}
use Rattle.column_store.specs.Range.{Holds}
use Rattle.column_store.specs.declared.range.Range.{Range}
use Rattle.column_store.specs.declared.row.Row.{Row}
use Rattle.wild_match.specs.Matches.{Match}
use Rattle.query_plan.specs.Laws.{IsSearched}
use Rattle.query_plan.specs.Pieces.{wide, wide_pieces}
use Rattle.row_codec.specs.Means.{HasSpelling, IsCanonical, IsSpelling}
use Rattle.row_codec.specs.Numbers.{numbers_of_row}
use Rattle.subquery_filter.specs.declared.filter.Filter.{Filter}
use Rattle.subquery_filter.specs.Filter.{IsFilter, IsRowVerdict, Rejects}
use Rattle.subquery_filter.specs.declared.verdicts.Verdict.{Verdict}
use Rattle.subquery_filter.specs.declared.verdicts.Verdict.TheVariants.{Rejected, Certain, Tried}
use Rattle.word_places.specs.Held.{HeldNames, lends}
use Rattle.word_places.specs.Local.{Agree, EncodingIsLocal, EncodingIsOfType, NumbersAreOfType, SpellingIsLocal, SpellingIsOfType}
use Rattle.search_meaning.specs.Scan.{Asked}
use Rattle.search_walk.specs.Held.{Named}
use Rattle.search_walk.specs.Ready.{IsDecided, IsLent, IsOpen}
use Rattle.search_walk.proofs.RowLemmas.{has_spelling, of_range}

-- ---- deciding

-- by its moment
pub decided_outside : (n : Named) (q : Asked) (range : Range) (row : Row) → range ≡ q.range → ¬ Holds range row.pattern row.moment → IsDecided n q row Rejected
decided_outside n q range row same out = λ message is tried.
    out (subst (λ (r : Range). Holds r row.pattern row.moment) (sym same) (of_range n.version q.range row n.types n.words message is tried.inside))

-- by its numbers
pub decided_by : (n : Named) (q : Asked) (row : Row) (v : Verdict) → Holds q.range row.pattern row.moment → IsRowVerdict (wide_pieces q.pattern) n.types n.words row v → (v ≢ Rejected → IsOpen n row) → IsDecided n q row v
decided_by n q row Rejected holds told is_open = λ message is tried. told n.version message is tried.matched
decided_by n q row Certain holds told is_open = (holds, told, is_open (λ is. absurd (cc (is))))
decided_by n q row Tried holds told is_open = (holds, is_open (λ is. absurd (cc (is))))

pub decided_inside : (n : Named) (q : Asked) (row : Row) (v : Verdict) → v ≢ Rejected → IsDecided n q row v → Holds q.range row.pattern row.moment
decided_inside n q row Rejected not decided = absurd (not refl)
decided_inside n q row Certain not decided = decided.0
decided_inside n q row Tried not decided = decided.0

-- its log type is held
pub decided_open : (n : Named) (q : Asked) (row : Row) (v : Verdict) → v ≢ Rejected → IsDecided n q row v → IsOpen n row
decided_open n q row Rejected not decided = absurd (not refl)
decided_open n q row Certain not decided = decided.2
decided_open n q row Tried not decided = decided.1

-- ---- by the log types and the words that are held

-- its words are the same by the log types that are held
lent_agree : (n : Named) (q : Asked) (held : HeldNames) (row : Row) (v : Verdict) → NumbersAreOfType → v ≢ Rejected → IsLent n q held row v → Agree (numbers_of_row n.types row) n.words (lends held.records)
lent_agree n q held row v of_type not lent =
    subst (λ (l : List ℕ). Agree l n.words (lends held.records)) (of_type row n.kept.texts n.types (decided_open n q row v not lent.decided)) (lent.agree not)

pub lent_canonical : (n : Named) (q : Asked) (held : HeldNames) (row : Row) (v : Verdict) (message : List ℕ) → NumbersAreOfType → EncodingIsLocal → v ≢ Rejected → IsLent n q held row v → IsCanonical n.version row n.types n.words message
    → IsCanonical n.version row n.types (lends held.records) message
lent_canonical n q held row v message of_type local not lent is = local n.version row n.types n.words (lends held.records) message (lent_agree n q held row v of_type not lent) is

pub lent_spelling : (n : Named) (q : Asked) (held : HeldNames) (row : Row) (v : Verdict) (text : List ℕ) → SpellingIsOfType → v ≢ Rejected → IsLent n q held row v → IsSpelling row held.types (lends held.records) text
    → IsSpelling row n.types (lends held.records) text
lent_spelling n q held row v text of_type not lent spelled =
    of_type row n.kept.texts n.types (lends held.records) text (decided_open n q row v not lent.decided) (subst (λ ts. IsSpelling row ts (lends held.records) text) lent.types spelled)

pub lent_has : (n : Named) (q : Asked) (held : HeldNames) (row : Row) (v : Verdict) (message : List ℕ) → NumbersAreOfType → EncodingIsOfType → EncodingIsLocal → v ≢ Rejected → IsLent n q held row v → IsCanonical n.version row n.types n.words message
    → HasSpelling row held.types (lends held.records)
lent_has n q held row v message numbers of_type local not lent is =
    let own : IsCanonical n.version row n.kept.texts (lends held.records) message =
    of_type n.version row n.types n.kept.texts (lends held.records) message (sym (decided_open n q row v not lent.decided)) (lent_canonical n q held row v message numbers local not lent is) in
    subst (λ ts. HasSpelling row ts (lends held.records)) (sym lent.types) (has_spelling n.version row n.kept.texts (lends held.records) message own)

pub certain_matches : (n : Named) (q : Asked) (held : HeldNames) (row : Row) (v : Verdict) (text g1 g2 judged : List ℕ) (k : ℕ) → NumbersAreOfType → SpellingIsOfType → SpellingIsLocal → v ≡ Certain → v ≢ Rejected → IsLent n q held row v
    → IsSpelling row held.types (lends held.records) text → k ≡ length g1 → g2 ≡ g1 ++ text → judged ≡ drop k g2 → Match (wide q.pattern) judged
certain_matches n q held row v text g1 g2 judged k numbers of_type local is not lent spelled size wrote cut =
    let agree : Agree (numbers_of_row n.types row) n.words (lends held.records) = lent_agree n q held row v numbers not lent in
    let own : IsSpelling row n.types n.words text = local row n.types (lends held.records) n.words text (λ m at. sym (agree m at)) (lent_spelling n q held row v text of_type not lent spelled) in
    let read : judged ≡ text = cut ∙ ap₂ (λ (k : ℕ) (l : List ℕ). drop k l) size wrote ∙ drop_at g1 text (length g1) refl in
    subst (Match (wide q.pattern)) (sym read) ((subst (IsDecided n q row) is lent.decided).1 text own)

-- by what is told of it whatever the filter is one of
pub decided_known : (n : Named) (q : Asked) (row : Row) (f : Filter) → Rejects f row → IsSearched q.pattern → IsFilter (wide_pieces q.pattern) n.types n.words f → IsDecided n q row Rejected
decided_known n q row f rejects searched is message tried_as tried = rejects q.pattern n.types n.words searched is n.version message tried_as tried.matched
