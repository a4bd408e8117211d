-- What a row's message is told, and what the loop over rows has passed.
use Rattle.std.proofs.Common.{◌≡◌, inl, inr, ℕ, ◌+◌, ◌<◌, ◌≤◌, ◌^◌, List, [], ◌∷◌, ◌++◌, length, take, drop, Option, Some, None, refl, sym, ◌∙◌, ap, ap₂, subst, arith, length-append}
use Rattle.std.specs.Prelude.{slice_get}
use Rattle.std.proofs.lemmas.List.{append-nil, append_assoc, take_at, drop_at}
use Rattle.std.proofs.Math.ListN.{drop_of_length-le}
use Rattle.column_store.specs.Range.{Holds}
use Rattle.column_store.specs.declared.range.Range.{Range}
use Rattle.column_store.specs.declared.row.Row.{Row}
use Rattle.row_codec.specs.Means.{IsCanonical, IsSpelling}
use Rattle.row_codec.proofs.CanonicalLemmas.{rows_return}
use Rattle.search_walk.specs.declared.query.Judgement.{Judgement}
use Rattle.search_walk.specs.declared.query.Judgement.TheVariants.{Left, Tried, Found}
use Rattle.search_engine.specs.declared.counts.Counts.{Counts}
use Rattle.printed_lines.specs.Lines.{Placed, label_of, line_of, numbered, placed}
use Rattle.search_meaning.specs.Scan.{Asked, IsFound, IsInRange, IsTried}
use Rattle.search_engine.specs.Sofar.{Passes, Sofar, TicksWithin, sofar}
use Rattle.search_walk.specs.Held.{AreRowsOf, Named}
use Rattle.search_walk.specs.Judged.{Judges}
use Rattle.search_engine.specs.Kept.{Keeps}
use Rattle.search_engine.specs.StepsPast.{PastRows}
use Rattle.sink_pieces.proofs.OutputLemmas.{Grew-nothing}
use Rattle.printed_lines.proofs.LineLemmas.{line_written, numbered_append}
use Rattle.search_engine.specs.StepsSofar.{passes_none, passes_on, ticks_behind, ticks_same}
use Rattle.query_plan.specs.Laws.{WideIsWider}
use Rattle.subquery_filter.specs.declared.verdicts.Verdict.{Verdict}
use Rattle.subquery_filter.specs.declared.verdicts.Verdict.TheVariants.{Rejected, Tried}
use Rattle.search_walk.specs.Ready.{IsDecided}
use Rattle.search_walk.proofs.RowLemmas.{of_range, in_range, next_row, none_left}

-- ---- one message

pub passed : (version : ℕ) (q : Asked) (p : Placed) (w : Option (List ℕ)) (g h : List ℕ) (a b : Counts) (t u : ℕ) → ¬ IsFound version q p.message → ¬ IsTried version q p.message
    → h ≡ g → b ≡ a → u ≡ t → Passes version q (p ∷ []) (sofar w g a t) (sofar w h b u)
passed version q p w g h a b t u no_found no_tried same_g same_a same_t = record {
  found = [];
  tried = [];
  are_found = inr (no_found, refl);
  are_tried = inr (no_tried, refl);
  advances = record {
    goes = record { front = []; splits = append-nil g ∙ sym same_g; grew = Grew-nothing w };
    matched = λ fits. ap (λ (x : Counts). x.matched) same_a ∙ omega arith;
    expanded = λ fits. ap (λ (x : Counts). x.expanded) same_a ∙ omega arith;
    ticks = omega (arith, same_t);
  };
}

tried : (version : ℕ) (q : Asked) (p : Placed) (w : Option (List ℕ)) (g h : List ℕ) (a b : Counts) (t u : ℕ) → ¬ IsFound version q p.message → IsTried version q p.message
    → h ≡ g → b.matched ≡ a.matched → (a.expanded + 1 < 2 ^ 64 → b.expanded ≡ a.expanded + 1) → u ≡ t + 1 → Passes version q (p ∷ []) (sofar w g a t) (sofar w h b u)
tried version q p w g h a b t u no_found is_tried same_g matched expanded ticks = record {
  found = [];
  tried = p ∷ [];
  are_found = inr (no_found, refl);
  are_tried = inl ([], is_tried, refl, refl);
  advances = record {
    goes = record { front = []; splits = append-nil g ∙ sym same_g; grew = Grew-nothing w };
    matched = λ fits. matched ∙ omega arith;
    expanded = expanded;
    ticks = ticks;
  };
}

found : (version : ℕ) (q : Asked) (p : Placed) (w : Option (List ℕ)) (g h : List ℕ) (a b : Counts) (t u : ℕ) → IsFound version q p.message → IsTried version q p.message
    → h ≡ g ++ line_of p → (a.matched + 1 < 2 ^ 64 → b.matched ≡ a.matched + 1) → (a.expanded + 1 < 2 ^ 64 → b.expanded ≡ a.expanded + 1) → u ≡ t + 1
    → Passes version q (p ∷ []) (sofar w g a t) (sofar w h b u)
found version q p w g h a b t u is_found is_tried more matched expanded ticks = record {
  found = p ∷ [];
  tried = p ∷ [];
  are_found = inl ([], is_found, refl, refl);
  are_tried = inl ([], is_tried, refl, refl);
  advances = record {
    goes = record { front = []; splits = ap (λ (l : List ℕ). g ++ l) (append-nil (line_of p)) ∙ sym more; grew = Grew-nothing w };
    matched = matched;
    expanded = expanded;
    ticks = ticks;
  };
}

-- a message that is out of the range
pub outside_passes : (version : ℕ) (q : Asked) (range : Range) (row : Row) (types words : List (List ℕ)) (name : List ℕ) (number : ℕ) (message : List ℕ) (w : Option (List ℕ)) (g : List ℕ) (a : Counts) (t : ℕ)
    → range ≡ q.range → ¬ Holds range row.pattern row.moment → IsCanonical version row types words message
    → Passes version q (placed name number message ∷ []) (sofar w g a t) (sofar w g a t)
outside_passes version q range row types words name number message w g a t same out is =
    let no : IsInRange version q.range message → ⊥ = λ inside. out (of_range version range row types words message is (subst (λ r. IsInRange version r message) (sym same) inside)) in
    passed version q (placed name number message) w g g a a t t (λ f. no f.inside) (λ f. no f.inside) refl refl refl

row_judged : (version : ℕ) (q : Asked) (name : List ℕ) (number : ℕ) (message : List ℕ) (w : Option (List ℕ)) (g g2 h : List ℕ) (a b : Counts) (t u : ℕ) (j : Judgement) (kept : ℕ) → IsInRange version q.range message
    → Judges q message j → take kept g2 ≡ g → g2 ≡ (g ++ label_of name number) ++ message → Keeps j kept g2 h a b t u → Passes version q (placed name number message ∷ []) (sofar w g a t) (sofar w h b u)
row_judged version q name number message w g g2 h a b t u Left kept inside judges back whole keeps =
    passed version q (placed name number message) w g h a b t u (λ f. judges.1 f.matched) (λ f. judges.0 f.matched) (keeps.gathered ∙ back) keeps.counts keeps.ticked
row_judged version q name number message w g g2 h a b t u Tried kept inside judges back whole keeps =
    tried version q (placed name number message) w g h a b t u (λ f. judges.1 f.matched) (record { matched = judges.0; inside = inside }) (keeps.gathered ∙ back) keeps.matched keeps.expanded keeps.ticked
row_judged version q name number message w g g2 h a b t u Found kept inside judges back whole keeps =
    found version q (placed name number message) w g h a b t u (record { matched = judges.1; inside = inside }) (record { matched = judges.0; inside = inside })
    (keeps.gathered ∙ ap (λ (l : List ℕ). l ++ 10 ∷ []) whole ∙ line_written name number message g) keeps.matched keeps.expanded keeps.ticked

-- a message in the range that was written, judged and kept or taken back
pub row_passes : (version : ℕ) (q : Asked) (range : Range) (row : Row) (types words : List (List ℕ)) (name : List ℕ) (number : ℕ) (message text : List ℕ) (w : Option (List ℕ)) (g g1 g2 h : List ℕ) (a b : Counts) (t u : ℕ)
    (j : Judgement) (kept : ℕ) (judged : List ℕ) → range ≡ q.range → Holds range row.pattern row.moment → IsCanonical version row types words message → IsSpelling row types words text
    → kept ≡ length g → g1 ≡ g ++ label_of name number → g2 ≡ g1 ++ text → judged ≡ drop (length g1) g2 → Judges q judged j → Keeps j kept g2 h a b t u
    → Passes version q (placed name number message ∷ []) (sofar w g a t) (sofar w h b u)
row_passes version q range row types words name number message text w g g1 g2 h a b t u j kept judged same holds is spelled size label wrote cut judges keeps =
    let one : text ≡ message = rows_return version row types words message text is spelled in
    let inside : IsInRange version q.range message = subst (λ r. IsInRange version r message) same (in_range version range row types words message is holds) in
    let read : judged ≡ message = cut ∙ ap (drop (length g1)) wrote ∙ drop_at g1 text (length g1) refl ∙ one in
    let whole : g2 ≡ (g ++ label_of name number) ++ message = wrote ∙ ap₂ (λ (x y : List ℕ). x ++ y) label one in
    let back : take kept g2 ≡ g =
    ap (take kept) (whole ∙ append_assoc g (label_of name number) message) ∙ take_at g (label_of name number ++ message) kept (sym size) in
    row_judged version q name number message w g g2 h a b t u j kept inside (subst (λ l. Judges q l j) read judges) back whole keeps

pub rows_first : (n : Named) (q : Asked) (name : List ℕ) (number : ℕ) (rows : List Row) (messages : List (List ℕ)) (g : List ℕ) (a : Counts) (t : ℕ) → AreRowsOf n rows messages
    → PastRows n q name number rows 0 messages (λ w. sofar w g a t) (λ w. sofar w g a t)
rows_first n q name number rows messages g a t are = record {
  gone = [];
  left = messages;
  all = refl;
  count = refl;
  are = are;
  passes = λ w. passes_none n.version q (sofar w g a t);
}

pub rows_next : (n : Named) (q : Asked) (name : List ℕ) (number at : ℕ) (rows : List Row) (k : ℕ) (row : Row) (messages : List (List ℕ)) (a b c : Option (List ℕ) → Sofar) → at ≡ number + k
    → slice_get rows k ≡ Some row → PastRows n q name number rows k messages a b
    → ((w : Option (List ℕ)) (message : List ℕ) → IsCanonical n.version row n.types n.words message → Passes n.version q (placed name at message ∷ []) (b w) (c w))
    → PastRows n q name number rows (k + 1) messages a c
rows_next n q name number at rows k row messages a b c place is past one =
    let next = next_row n rows k row past.left is past.are in
    record {
      gone = past.gone ++ next.message ∷ [];
      left = next.left;
      all = past.all ∙ ap (λ (l : List (List ℕ)). past.gone ++ l) next.all ∙ sym (append_assoc past.gone (next.message ∷ []) next.left);
      count = omega (arith, length-append past.gone (next.message ∷ []), past.count);
      are = next.are;
      passes = λ w. subst (λ l. Passes n.version q l (a w) (c w)) (sym (numbered_append name number past.gone (next.message ∷ []) at (omega (arith, place, past.count))))
          (passes_on n.version q (numbered name number past.gone) (placed name at next.message ∷ []) (a w) (b w) (c w) (past.passes w) (one w next.message next.is));
    }

pub rows_end : (n : Named) (q : Asked) (name : List ℕ) (number : ℕ) (rows : List Row) (k : ℕ) (messages : List (List ℕ)) (a b : Option (List ℕ) → Sofar) → length rows ≤ k
    → PastRows n q name number rows k messages a b → (w : Option (List ℕ)) → Passes n.version q (numbered name number messages) (a w) (b w)
rows_end n q name number rows k messages a b end past w =
    let none : past.left ≡ [] = none_left n (drop k rows) past.left (drop_of_length-le rows end) past.are in
    let all : messages ≡ past.gone = past.all ∙ ap (λ (l : List (List ℕ)). past.gone ++ l) none ∙ append-nil past.gone in
    subst (λ l. Passes n.version q (numbered name number l) (a w) (b w)) (sym all) (past.passes w)

pub rows_ticks : (n : Named) (q : Asked) (name : List ℕ) (number : ℕ) (rows : List Row) (k : ℕ) (messages : List (List ℕ)) (a b : Option (List ℕ) → Sofar) (new : ℕ) → new ≡ (b None).ticks
    → PastRows n q name number rows k messages a b → TicksWithin n.version q (numbered name number messages) (a None).ticks new
rows_ticks n q name number rows k messages a b new same past =
    let all : numbered name number messages ≡ numbered name number past.gone ++ numbered name (number + length past.gone) past.left =
    ap (numbered name number) past.all ∙ numbered_append name number past.gone past.left (number + length past.gone) refl in
    subst (λ l. TicksWithin n.version q l (a None).ticks new) (sym all)
    (ticks_behind n.version q (numbered name number past.gone) (numbered name (number + length past.gone) past.left) (a None) (b None) new (past.passes None) (ticks_same n.version q _ (b None).ticks new same))

pub rows_damaged : (n : Named) (q : Asked) (name : List ℕ) (number : ℕ) (rows : List Row) (k : ℕ) (row : Row) (messages : List (List ℕ)) (a b : Option (List ℕ) → Sofar) → slice_get rows k ≡ Some row
    → ((message : List ℕ) → ¬ IsCanonical n.version row n.types n.words message) → PastRows n q name number rows k messages a b → ⊥
rows_damaged n q name number rows k row messages a b is none past =
    let next = next_row n rows k row past.left is past.are in none next.message next.is

-- ---- what was decided

pub rejected_row : (n : Named) (q : Asked) (row : Row) (v : Verdict) (name : List ℕ) (number : ℕ) (message : List ℕ) (w : Option (List ℕ)) (g : List ℕ) (a : Counts) (t : ℕ) → WideIsWider → v ≡ Rejected → IsDecided n q row v
    → IsCanonical n.version row n.types n.words message → Passes n.version q (placed name number message ∷ []) (sofar w g a t) (sofar w g a t)
rejected_row n q row v name number message w g a t wider is decided canonical =
    let no : ¬ IsTried n.version q message = subst (IsDecided n q row) is decided message canonical in
    passed n.version q (placed name number message) w g g a a t t (λ f. no (record { matched = wider q.pattern message f.matched; inside = f.inside })) no refl refl refl
