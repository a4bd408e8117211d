-- What the count of a row has passed, and the loops over the rows of a page.
use Rattle.std.proofs.Common.{◌≡◌, ◌≢◌, ◌↔◌, inl, inr, ℕ, ◌+◌, ◌≤◌, Bool, true, false, IsTrue, List, [], ◌∷◌, ◌++◌, length, drop, Some, refl, sym, ◌∙◌, ap, subst, arith, length-append}
use Rattle.std.specs.Prelude.{slice_get}
use Rattle.std.proofs.lemmas.Bool.{false≢true}
use Rattle.std.proofs.lemmas.List.{append-nil, append_assoc}
use Rattle.std.proofs.Math.ListN.{drop_of_length-le}
use Rattle.column_store.specs.declared.row.Row.{Row}
use Rattle.wild_match.specs.Matches.{Match}
use Rattle.row_codec.specs.Means.{HasSpelling, IsCanonical, IsSpelling}
use Rattle.row_codec.specs.Numbers.{numbers_of_row}
use Rattle.row_codec.proofs.CanonicalLemmas.{rows_return}
use Rattle.query_plan.specs.Laws.{IsPlain, WideIsWider}
use Rattle.query_plan.specs.declared.pieces.Piece.{Piece}
use Rattle.query_plan.specs.Pieces.{wide, wide_pieces}
use Rattle.subquery_filter.specs.Filter.{IsRowVerdict}
use Rattle.subquery_filter.specs.declared.verdicts.Verdict.{Verdict}
use Rattle.subquery_filter.specs.declared.verdicts.Verdict.TheVariants.{Certain, Rejected, Tried}
use Rattle.word_places.specs.Held.{HeldNames, lends}
use Rattle.word_places.specs.Local.{Agree, EncodingIsLocal, EncodingIsOfType, NumbersAreOfType, SpellingIsLocal, SpellingIsOfType}
use Rattle.search_walk.specs.declared.query.Judgement.{Judgement}
use Rattle.search_walk.specs.declared.query.Judgement.TheVariants.{Found, Left, Tried as Expanded}
use Rattle.search_walk.specs.Held.{AreRowsOf, Named}
use Rattle.search_walk.specs.Judged.{Judges as JudgesText}
use Rattle.search_walk.specs.Ready.{IsDecided, IsLent}
use Rattle.printed_lines.specs.Lines.{Placed, numbered, placed}
use Rattle.search_meaning.specs.Scan.{Asked, IsFound, IsInRange, IsTried}
use Rattle.printed_lines.proofs.LineLemmas.{numbered_append}
use Rattle.search_walk.proofs.RowLemmas.{in_range, next_row, none_left}
use Rattle.search_walk.proofs.VerdictLemmas.{decided_inside, decided_open, lent_canonical, lent_has, lent_spelling}
use Rattle.search_meaning.specs.Grouped.{IsExpanded}
use Rattle.group_count.specs.Judged.{Judges}
use Rattle.group_count.specs.StepsCounted.{Adds, Passes, Sofar, Stops, judged_more, judged_rows}
use Rattle.group_count.specs.StepsGoing.{adds_none, passes_none, passes_on, stops_behind, stops_same}
use Rattle.group_count.specs.StepsRows.{PastRows}

-- ---- what was decided, by the words that are held

-- a row depends on no other log type than its own, and on no other words than those that it names
pub record RowLaws : Type 0 where
  pub numbers : NumbersAreOfType
  pub spelling_of : SpellingIsOfType
  pub encoding_of : EncodingIsOfType
  pub spelling : SpellingIsLocal
  pub encoding : EncodingIsLocal

own_agree : (n : Named) (q : Asked) (held : HeldNames) (row : Row) (v : Verdict) → RowLaws → v ≢ Rejected → IsLent n q held row v → Agree (numbers_of_row n.types row) n.words (lends held.records)
own_agree n q held row v laws not lent =
    subst (λ (l : List ℕ). Agree l n.words (lends held.records)) (laws.numbers row n.kept.texts n.types (decided_open n q row v not lent.decided)) (lent.agree not)

own_spelling : (n : Named) (q : Asked) (held : HeldNames) (row : Row) (v : Verdict) (text : List ℕ) → RowLaws → v ≢ Rejected → IsLent n q held row v → IsSpelling row held.types (lends held.records) text → IsSpelling row n.types n.words text
own_spelling n q held row v text laws not lent spelled =
    laws.spelling row n.types (lends held.records) n.words text (λ m at. sym (own_agree n q held row v laws not lent m at)) (lent_spelling n q held row v text laws.spelling_of not lent spelled)

own_verdict : (n : Named) (q : Asked) (held : HeldNames) (row : Row) (v : Verdict) → RowLaws → v ≢ Rejected → IsLent n q held row v
    → IsRowVerdict (wide_pieces q.pattern) held.types (lends held.records) row v
own_verdict n q held row Rejected laws not lent = absurd (not refl)
own_verdict n q held row Certain laws not lent = λ text spelled. lent.decided.1 text (own_spelling n q held row Certain text laws not lent spelled)
own_verdict n q held row Tried laws not lent = tt

own_canonical : (n : Named) (q : Asked) (held : HeldNames) (row : Row) (v : Verdict) (message : List ℕ) → RowLaws → v ≢ Rejected → IsLent n q held row v → IsCanonical n.version row n.types n.words message
    → IsCanonical n.version row held.types (lends held.records) message
own_canonical n q held row v message laws not lent is =
    subst (λ (ts : List (List ℕ)). IsCanonical n.version row ts (lends held.records) message) (sym lent.types)
    (laws.encoding_of n.version row n.types n.kept.texts (lends held.records) message (sym (decided_open n q row v not lent.decided)) (lent_canonical n q held row v message laws.numbers laws.encoding not lent is))

lent_inside : (n : Named) (q : Asked) (held : HeldNames) (row : Row) (v : Verdict) (message : List ℕ) → v ≢ Rejected → IsLent n q held row v → IsCanonical n.version row n.types n.words message → IsInRange n.version q.range message
lent_inside n q held row v message not lent is = in_range n.version q.range row n.types n.words message is (decided_inside n q row v not lent.decided)

-- a row that is the encoding of no message by the words that are held is that of none
pub none_stored : (n : Named) (q : Asked) (held : HeldNames) (row : Row) (v : Verdict) → RowLaws → v ≢ Rejected → ((version : ℕ) (message : List ℕ) → ¬ IsCanonical version row held.types (lends held.records) message)
    → IsLent n q held row v → (message : List ℕ) → ¬ IsCanonical n.version row n.types n.words message
none_stored n q held row v laws not none lent message is = none n.version message (own_canonical n q held row v message laws not lent is)

pub none_written : (n : Named) (q : Asked) (held : HeldNames) (row : Row) (v : Verdict) → RowLaws → v ≢ Rejected → ¬ HasSpelling row held.types (lends held.records) → IsLent n q held row v → (message : List ℕ)
    → ¬ IsCanonical n.version row n.types n.words message
none_written n q held row v laws not none lent message is = none (lent_has n q held row v message laws.numbers laws.encoding_of laws.encoding not lent is)

-- a message that was written is the row's, and the pattern that the search is planned over matches it where that is certain
pub wrote_message : (n : Named) (q : Asked) (held : HeldNames) (row : Row) (v : Verdict) (message text : List ℕ) → RowLaws → v ≢ Rejected → IsLent n q held row v → IsCanonical n.version row n.types n.words message
    → IsSpelling row held.types (lends held.records) text → text ≡ message
wrote_message n q held row v message text laws not lent is spelled =
    rows_return n.version row n.types (lends held.records) message text (lent_canonical n q held row v message laws.numbers laws.encoding not lent is) (lent_spelling n q held row v text laws.spelling_of not lent spelled)

pub certain_matches : (n : Named) (q : Asked) (held : HeldNames) (row : Row) (v : Verdict) (text : List ℕ) → RowLaws → v ≡ Certain → v ≢ Rejected → IsLent n q held row v → IsSpelling row held.types (lends held.records) text
    → Match (wide q.pattern) text
certain_matches n q held row v text laws is not lent spelled =
    (subst (λ w. IsRowVerdict (wide_pieces q.pattern) held.types (lends held.records) row w) is (own_verdict n q held row v laws not lent)) text spelled

module _ {T : Type 0} (counted : T → ℕ → List Row → Type 0) (n : Named) (q : Asked) where
  -- ---- one message

  passed : (p : Placed) (a b : Sofar T) → ¬ IsFound n.version q p.message → ¬ IsExpanded n.version q p.message → Adds counted [] 0 a b → Passes counted n q (p ∷ []) a b
  passed p a b no_found no_expanded adds =
      record { found = []; expansions = []; rows = []; are_found = inr (no_found, refl); are_expanded = inr (no_expanded, refl); are = tt; adds = adds }

  -- one of which it is known that it is not expanded
  pub rejected_passes : (row : Row) (v : Verdict) (name : List ℕ) (number : ℕ) (message : List ℕ) (a : Sofar T) → WideIsWider → v ≡ Rejected → IsDecided n q row v → IsCanonical n.version row n.types n.words message
      → Passes counted n q (placed name number message ∷ []) a a
  rejected_passes row v name number message a wider is decided canonical =
      let no : ¬ IsTried n.version q message = subst (IsDecided n q row) is decided message canonical in
      passed (placed name number message) a a (λ f. no (record { matched = wider q.pattern message f.matched; inside = f.inside })) (λ e. no e.tried) (adds_none counted a)

  -- one that was told by its row
  module _ (held : HeldNames) (row : Row) (v : Verdict) (pieces : List Piece) (laws : RowLaws) (not : v ≢ Rejected) (same : pieces ≡ wide_pieces q.pattern) (plain : IsPlain q.pattern) (lent : IsLent n q held row v) where
    told_by : (found : Bool) (message : List ℕ) → Judges pieces held.types (lends held.records) row v found → IsCanonical n.version row n.types n.words message → IsTrue found ↔ Match q.pattern message
    told_by found message judges is =
        judges q.pattern n.version message same plain.0 plain.1
        (subst (λ (ps : List Piece). IsRowVerdict ps held.types (lends held.records) row v) (sym same) (own_verdict n q held row v laws not lent)) (own_canonical n q held row v message laws not lent is)

    pub stored_found : (found : Bool) (name : List ℕ) (number : ℕ) (message : List ℕ) (a b : Sofar T) → found ≡ true → Judges pieces held.types (lends held.records) row v found → IsCanonical n.version row n.types n.words message
        → Adds counted (row ∷ []) 0 a b → Passes counted n q (placed name number message ∷ []) a b
    stored_found found name number message a b truly judges is adds = record {
      found = placed name number message ∷ [];
      expansions = [];
      rows = row ∷ [];
      are_found = inl ([], record { matched = (told_by found message judges is).0 truly; inside = lent_inside n q held row v message not lent is }, refl, refl);
      are_expanded = inr (λ e. e.written plain, refl);
      are = (is, tt);
      adds = adds;
    }

    pub stored_left : (found : Bool) (name : List ℕ) (number : ℕ) (message : List ℕ) (a : Sofar T) → found ≡ false → Judges pieces held.types (lends held.records) row v found → IsCanonical n.version row n.types n.words message
        → Passes counted n q (placed name number message ∷ []) a a
    stored_left found name number message a never judges is =
        passed (placed name number message) a a (λ f. false≢true (sym never ∙ (told_by found message judges is).1 f.matched)) (λ e. e.written plain) (adds_none counted a)

  -- one that was written and judged
  judged_passes : (row : Row) (name : List ℕ) (number : ℕ) (message : List ℕ) (j : Judgement) (a b : Sofar T) → ¬ IsPlain q.pattern → IsInRange n.version q.range message → IsCanonical n.version row n.types n.words message
      → JudgesText q message j → Adds counted (judged_rows j row) (judged_more j) a b → Passes counted n q (placed name number message ∷ []) a b
  judged_passes row name number message Left a b other inside is judges adds =
      passed (placed name number message) a b (λ f. judges.1 f.matched) (λ e. judges.0 e.tried.matched) adds
  judged_passes row name number message Expanded a b other inside is judges adds = record {
    found = [];
    expansions = placed name number message ∷ [];
    rows = [];
    are_found = inr (λ f. judges.1 f.matched, refl);
    are_expanded = inl ([], record { written = other; tried = record { matched = judges.0; inside = inside } }, refl, refl);
    are = tt;
    adds = adds;
  }
  judged_passes row name number message Found a b other inside is judges adds = record {
    found = placed name number message ∷ [];
    expansions = placed name number message ∷ [];
    rows = row ∷ [];
    are_found = inl ([], record { matched = judges.1; inside = inside }, refl, refl);
    are_expanded = inl ([], record { written = other; tried = record { matched = judges.0; inside = inside } }, refl, refl);
    are = (is, tt);
    adds = adds;
  }

  pub written_passes : (held : HeldNames) (row : Row) (v : Verdict) (name : List ℕ) (number : ℕ) (message text judged : List ℕ) (j : Judgement) (a b : Sofar T) → RowLaws → v ≢ Rejected → ¬ IsPlain q.pattern → IsLent n q held row v
      → IsCanonical n.version row n.types n.words message → IsSpelling row held.types (lends held.records) text → judged ≡ text → JudgesText q judged j → Adds counted (judged_rows j row) (judged_more j) a b
      → Passes counted n q (placed name number message ∷ []) a b
  written_passes held row v name number message text judged j a b laws not other lent is spelled same judges adds =
      judged_passes row name number message j a b other (lent_inside n q held row v message not lent is) is
      (subst (λ l. JudgesText q l j) (same ∙ wrote_message n q held row v message text laws not lent is spelled) judges) adds

  -- ---- the rows of a page

  pub rows_first : (name : List ℕ) (number : ℕ) (rows : List Row) (messages : List (List ℕ)) (a : Sofar T) → AreRowsOf n rows messages → PastRows counted n q name number rows 0 messages a a
  rows_first name number rows messages a are = record { gone = []; left = messages; all = refl; count = refl; are = are; passes = passes_none counted n q a }

  pub rows_next : (name : List ℕ) (number : ℕ) (rows : List Row) (k : ℕ) (row : Row) (messages : List (List ℕ)) (a b c : Sofar T) → slice_get rows k ≡ Some row → PastRows counted n q name number rows k messages a b
      → ((at : ℕ) (message : List ℕ) → IsCanonical n.version row n.types n.words message → Passes counted n q (placed name at message ∷ []) b c)
      → PastRows counted n q name number rows (k + 1) messages a c
  rows_next name number rows k row messages a b c is past one =
      let next = next_row n rows k row past.left is past.are in
      record {
        gone = past.gone ++ next.message ∷ [];
        left = next.left;
        all = past.all ∙ ap (λ (l : List (List ℕ)). past.gone ++ l) next.all ∙ sym (append_assoc past.gone (next.message ∷ []) next.left);
        count = omega (arith, length-append past.gone (next.message ∷ []), past.count);
        are = next.are;
        passes =
            subst (λ l. Passes counted n q l a c) (sym (numbered_append name number past.gone (next.message ∷ []) (number + length past.gone) refl))
            (passes_on counted n q (numbered name number past.gone) (placed name (number + length past.gone) next.message ∷ []) a b c past.passes (one (number + length past.gone) next.message next.is));
      }

  pub rows_end : (name : List ℕ) (number : ℕ) (rows : List Row) (k : ℕ) (messages : List (List ℕ)) (a b : Sofar T) → length rows ≤ k → PastRows counted n q name number rows k messages a b
      → Passes counted n q (numbered name number messages) a b
  rows_end name number rows k messages a b end past =
      let none : past.left ≡ [] = none_left n (drop k rows) past.left (drop_of_length-le rows end) past.are in
      let all : messages ≡ past.gone = past.all ∙ ap (λ (l : List (List ℕ)). past.gone ++ l) none ∙ append-nil past.gone in
      subst (λ l. Passes counted n q (numbered name number l) a b) (sym all) past.passes

  pub rows_stop : (name : List ℕ) (number : ℕ) (rows : List Row) (k : ℕ) (messages : List (List ℕ)) (a b : Sofar T) (new : ℕ) → new ≡ b.ticks → PastRows counted n q name number rows k messages a b
      → Stops n.version q (numbered name number messages) a.ticks new
  rows_stop name number rows k messages a b new same past =
      let all : numbered name number messages ≡ numbered name number past.gone ++ numbered name (number + length past.gone) past.left =
      ap (numbered name number) past.all ∙ numbered_append name number past.gone past.left (number + length past.gone) refl in
      subst (λ l. Stops n.version q l a.ticks new) (sym all)
      (stops_behind counted n q (numbered name number past.gone) (numbered name (number + length past.gone) past.left) a b new past.passes (stops_same n.version q _ b.ticks new same))

  pub rows_damaged : (name : List ℕ) (number : ℕ) (rows : List Row) (k : ℕ) (row : Row) (messages : List (List ℕ)) (a b : Sofar T) → slice_get rows k ≡ Some row → ((message : List ℕ) → ¬ IsCanonical n.version row n.types n.words message)
      → PastRows counted n q name number rows k messages a b → ⊥
  rows_damaged name number rows k row messages a b is none past =
      let next = next_row n rows k row past.left is past.are in none next.message next.is
