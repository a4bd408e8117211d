-- Runs that a log type leaves to stamps.
use Rattle.std.proofs.Common.{◌≡◌, ℕ, zero, suc, ◌+◌, ◌<◌, ◌≤◌, List, [], ◌∷◌, ◌++◌, length, drop, take, get_or, map, refl, sym, ◌∙◌, ap, subst, arith, inl, inr, append_assoc, length-append, take-append-drop}
use Rattle.std.specs.Prelude.{ℤ, ◌≤ℤ◌, false, Some, bit_or, slice_get, slice_index_or}
use Rattle.std.proofs.lemmas.Bool.{cases_eq, cases_lt}
use Rattle.std.proofs.lemmas.List.{drop_at, get_or_append_left, get_or_past, get_or_push}
use Rattle.std.proofs.lemmas.List.Elements.{All-push}
use Rattle.time_patterns.specs.Laws.{PrintedMoments}
use Rattle.time_patterns.specs.Stamps.{HasStamp, Prints}
use Rattle.logtype_text.specs.Parts.{joined, symbol_of}
use Rattle.logtype_text.specs.TypeText.{type_text}
use Rattle.wild_match.specs.Matches.{Match}
use Rattle.row_codec.specs.Means.{HasStampText}
use Rattle.segment_format.specs.declared.head.Head.{Head}
use Rattle.query_plan.specs.declared.pieces.Piece.{Piece}
use Rattle.query_plan.specs.Laws.{BeginsMark}
use Rattle.query_plan.specs.Needs.{around}
use Rattle.query_plan.specs.Pieces.{flat}
use Rattle.query_plan.specs.Slots.{ChunksMayStand, MayBegin, MayStand}
use Rattle.subquery_filter.specs.declared.run.Run.{Run}
use Rattle.subquery_filter.specs.declared.filter.Filter.{Filter}
use Rattle.subquery_filter.specs.Filter.{AreAlone, AreRunStamps, AreRuns, Has, IsAlone, IsWithin, RunMarks}
use Rattle.subquery_filter.specs.StepsFilter.{EndsRun, RunsBring}
use Rattle.subquery_filter.specs.Tokens.{GoesOnAt, IsRunOf, MayGoOn, MayStandIn, RowsBringChunks}
use Rattle.subquery_filter.proofs.AroundLemmas.{front_short}
use Rattle.subquery_filter.proofs.BarrenLemmas.{body_behind}
use Rattle.subquery_filter.proofs.BitLemmas.{has_both, has_left, has_none, has_right, has_through}
use Rattle.subquery_filter.proofs.FilterLemmas.{before_step}
use Rattle.subquery_filter.proofs.TokenLemmas.{same_text}

-- ---- the law

pub rows_bring_chunks : ChunksMayStand → RowsBringChunks
rows_bring_chunks chunks version ps row types words text message w cut is matches (run, chunk, w_is) here not_stand not_go =
    let means = is.means in
    let body = joined means.parts in
    let symbols = map symbol_of means.parts in
    let behind = body_behind version row.pattern row.moment means.stamp body (subst (λ m. HasStamp version m row.pattern row.moment (length means.stamp)) means.is is.stamp) in
    let typed : text ≡ type_text symbols = sym (same_text (slice_get types row.log_type) (type_text symbols) text means.typed here) in
    elim (chunks ps run means.stamp body means.parts cut chunk behind is.body (subst (Match (flat ps)) means.is matches)) [
      | inl within ↦ (means.stamp, means.stamped, subst (λ x. Match (around x) means.stamp) (sym w_is) within)
      | inr (inl goes) ↦
          let back : goes.back ≡ drop (length goes.front) w = sym (ap (drop (length goes.front)) (w_is ∙ goes.joins) ∙ drop_at goes.front goes.back (length goes.front) refl) in
          absurd (not_go (
            length goes.front,
            record { some = goes.some; marks = subst BeginsMark back goes.marks; symbols = symbols; typed = typed; goes = subst (λ (x : List ℕ). MayBegin x symbols) back goes.goes },
          ))
      | inr (inr stands) ↦ absurd (not_stand (symbols, typed, subst (λ x. MayStand x symbols) (sym w_is) stands))
    ]

-- ---- the runs of a pattern

pub run_ends_at : (ps : List Piece) (place : ℕ) (text : List ℕ) → EndsRun (take place ps) text → IsRunOf ps text
run_ends_at ps place text (before, run, stands, none, is) = (
  run,
  record {
    before = before;
    behind = drop place ps;
    stands = sym (take-append-drop place ps) ∙ ap (λ (l : List Piece). l ++ drop place ps) stands ∙ append_assoc before run (drop place ps);
    whole = none;
  },
  is,
)

pub runs_push : (ps : List Piece) (place : ℕ) (text : List ℕ) (old new : List Run) (run : Run) → EndsRun (take place ps) text → run.text ≡ text → new ≡ old ++ run ∷ [] → AreRuns ps old → AreRuns ps new
runs_push ps place text old new run ends same is are =
    subst (AreRuns ps) (sym is) (All-push (λ (r : Run). IsRunOf ps r.text) old run are (subst (IsRunOf ps) (sym same) (run_ends_at ps place text ends)))

-- ---- what a log type leaves to stamps

-- no place so far is one where the run goes on
abbrev pub NoneGoes : List ℕ → List ℕ → ℕ → Type 0
NoneGoes w text end = (n : ℕ) → n < end → ¬ GoesOnAt w text n

pub goes_first : (w text : List ℕ) → NoneGoes w text 1
goes_first w text n lt h = omega (arith, lt, h.some)

pub goes_step : (w text : List ℕ) (end : ℕ) → ¬ GoesOnAt w text end → NoneGoes w text end → NoneGoes w text (end + 1)
goes_step w text end here before n lt h = elim (cases_lt n end) [
  | inl less ↦ before n less h
  | inr past ↦ here (subst (GoesOnAt w text) (omega (arith, lt, past)) h)
]

pub goes_none : (w text : List ℕ) (end : ℕ) → length w ≤ end → NoneGoes w text end → ¬ MayGoOn w text
goes_none w text end all before (n, h) = let lt = front_short w n h.marks in before n (omega (arith, lt, all)) h

-- bits that are among any that have those of the runs so far which are left to stamps
abbrev pub AloneBefore : List Run → List ℕ → ℕ → ℕ → Type 0
AloneBefore runs text i bits =
    (may : ℕ) → ((k : ℕ) (d : Run) → k < i → ¬ MayStandIn (get_or runs k d).text text → ¬ MayGoOn (get_or runs k d).text text → Has may (get_or runs k d).bit) → Has may bits

pub alone_step : (runs : List Run) (text : List ℕ) (i bits mark : ℕ) (run : Run) → run ≡ get_or runs i run
    → ((may : ℕ) → (¬ MayStandIn run.text text → ¬ MayGoOn run.text text → Has may run.bit) → Has may mark) → AloneBefore runs text i bits → AloneBefore runs text (i + 1) (bit_or bits mark)
alone_step runs text i bits mark run is here before may each =
    has_both may bits mark (before may (λ k d lt. each k d (omega (arith, lt))))
    (here may (subst (λ (r : Run). ¬ MayStandIn r.text text → ¬ MayGoOn r.text text → Has may r.bit) (sym is) (each i run (omega arith))))

pub alone_push : (runs : List Run) (types : List (List ℕ)) (count : ℕ) (old new : List ℕ) (mark : ℕ) (text : List ℕ) → length old ≡ count → new ≡ old ++ mark ∷ [] → slice_get types count ≡ Some text → IsAlone runs text mark
    → AreAlone runs types old → AreAlone runs types new
alone_push runs types count old new mark text size is there here before t other type_is = elim (cases_lt t (length old)) [
  | inl less ↦
      subst (IsAlone runs other) (sym (ap (λ (l : List ℕ). get_or l t 0) is ∙ get_or_append_left old (mark ∷ []) 0 t less)) (before t other type_is)
  | inr past ↦ elim (cases_eq t (length old)) [
    | inl same ↦
        let texts : text ≡ other = same_text (slice_get types count) text other there (ap (λ (j : ℕ). slice_get types j) (sym (same ∙ size)) ∙ type_is) in
        subst (IsAlone runs other) (sym (ap (λ (l : List ℕ). get_or l t 0) is ∙ get_or_push old mark 0 t (sym same)))
        (subst (λ (x : List ℕ). IsAlone runs x mark) texts here)
    | inr other_place ↦
        let none : get_or new t 0 ≡ 0 = get_or_past new t 0 (omega (arith, past, other_place, ap length is, length-append old (mark ∷ []))) in
        subst (IsAlone runs other) (sym none) (λ may each. has_none may)
  ]
]

pub alone_none : (runs : List Run) (types : List (List ℕ)) (alone : List ℕ) → alone ≡ [] → AreAlone runs types alone
alone_none runs types alone none t text at = subst (λ (l : List ℕ). IsAlone runs text (get_or l t 0)) (sym none) (nothing t)
  where
    nothing : (t : ℕ) → IsAlone runs text (get_or [] t 0)
    nothing t may each = has_none may

-- ---- which runs stamps have

-- the bit of each run so far of which P holds is among these
abbrev pub RunsBefore : (Run → Type 0) → List Run → ℕ → ℕ → Type 0
RunsBefore P runs i bits = (k : ℕ) (d : Run) → k < i → P (get_or runs k d) → Has bits (get_or runs k d).bit

pub runs_step : (P : Run → Type 0) (runs : List Run) (i bits mark : ℕ) (run : Run) → i < length runs → run ≡ get_or runs i run → (P run → mark ≡ run.bit)
    → RunsBefore P runs i bits → RunsBefore P runs (i + 1) (bit_or bits mark)
runs_step P runs i bits mark run lt is marks before =
    before_step runs (λ (r : Run). P r → Has bits r.bit) (λ (r : Run). P r → Has (bit_or bits mark) r.bit) i run lt is
    (λ r f m. has_left bits mark r.bit (f m)) (λ m. subst (Has (bit_or bits mark)) (marks m) (has_right bits mark)) before

-- a run stands in no empty text
pub no_run : (runs : List Run) (bits : ℕ) → RunMarks runs [] bits
no_run runs bits j d lt m = let r : Run = slice_index_or runs j d in absurd (nowhere r.text r.some m)
  where
    nowhere : (w : List ℕ) → 0 < length w → Match (around w) [] → ⊥
    nowhere [] some m = omega (arith, some)
    nowhere (b ∷ w) some m = m

no_stamp : (runs : List Run) (s : List ℕ) (bits : ℕ) → s ≡ [] → RunMarks runs s bits
no_stamp runs s bits none = subst (λ (t : List ℕ). RunMarks runs t bits) (sym none) (no_run runs bits)

-- the table as far as it goes
abbrev pub TableBefore : List Run → ℕ → List ℕ → Type 0
TableBefore runs count stamps =
    (1 ≤ count) × (length stamps ≡ count)
    × ((pattern : ℕ) (moment : ℤ) (s : List ℕ) → pattern < count → HasStampText pattern moment s → RunMarks runs s (slice_index_or stamps pattern 0))

pub table_first : (runs : List Run) (old new : List ℕ) (mark : ℕ) → old ≡ [] → new ≡ old ++ mark ∷ [] → TableBefore runs 1 new
table_first runs old new mark empty is = (
  omega arith,
  omega (arith, ap length is, ap length empty, length-append old (mark ∷ [])),
  λ pattern moment s lt stamped. at pattern moment s lt stamped,
)
  where
    at : (pattern : ℕ) (moment : ℤ) (s : List ℕ) → pattern < 1 → HasStampText pattern moment s → RunMarks runs s (slice_index_or new pattern 0)
    at zero moment s lt stamped = no_stamp runs s (slice_index_or new 0 0) stamped.1
    at (suc pattern) moment s lt stamped = absurd (omega (arith, lt))

pub prints_of : (k : ℕ) (moment : ℤ) (s : List ℕ) → 1 ≤ k → HasStampText k moment s → Prints k moment s
prints_of zero moment s some stamped = absurd (omega (arith, some))
prints_of (suc k) moment s some stamped = stamped

pub table_step : (runs : List Run) (count : ℕ) (old new : List ℕ) (mark : ℕ) → new ≡ old ++ mark ∷ [] → ((moment : ℤ) (s : List ℕ) → Prints count moment s → RunMarks runs s mark)
    → TableBefore runs count old → TableBefore runs (count + 1) new
table_step runs count old new mark is marks (some, size, before) = (
  omega (arith, some),
  omega (arith, size, ap length is, length-append old (mark ∷ [])),
  λ pattern moment s lt stamped. elim (cases_lt pattern count) [
    | inl less ↦ subst (RunMarks runs s) (sym (ap (λ l. get_or l pattern 0) is ∙ get_or_append_left old (mark ∷ []) 0 pattern (omega (arith, less, size)))) (before pattern moment s less stamped)
    | inr past ↦
        let e : count ≡ pattern = omega (arith, lt, past) in
        let at : get_or new pattern 0 ≡ mark = ap (λ l. get_or l pattern 0) is ∙ get_or_push old mark 0 pattern (size ∙ e) in
        subst (RunMarks runs s) (sym at) (marks moment s (subst (λ k. Prints k moment s) (sym e) (prints_of pattern moment s (omega (arith, some, e)) stamped)))
  ],
)

pub table_end : PrintedMoments → (runs : List Run) (count : ℕ) (stamps : List ℕ) → 27 ≤ count → TableBefore runs count stamps → AreRunStamps runs stamps
table_end printed runs count stamps all (some, size, before) pattern moment s stamped = elim (cases_lt pattern count) [
  | inl less ↦ before pattern moment s less stamped
  | inr past ↦
      let prints = prints_of pattern moment s (omega (arith, past, all)) stamped in
      let known = printed.patterns pattern moment (s, prints) in
      absurd (omega (arith, past, all, known.1))
]

-- what the stamps of a segment have, of the patterns so far
abbrev pub WithinBefore : List Run → Head → ℕ → ℕ → Type 0
WithinBefore runs head end bits = (pattern : ℕ) (moment : ℤ) (s : List ℕ) → pattern < end → IsWithin head moment → Prints pattern moment s → RunMarks runs s bits

pub within_first : PrintedMoments → (runs : List Run) (head : Head) (bits : ℕ) → WithinBefore runs head 1 bits
within_first printed runs head bits pattern moment s lt within prints = absurd (omega (arith, lt, (printed.patterns pattern moment (s, prints)).0))

pub within_step : (runs : List Run) (head : Head) (end bits more : ℕ) → ((moment : ℤ) (s : List ℕ) → head.least ≤ℤ moment → moment ≤ℤ head.greatest → Prints end moment s → RunMarks runs s more)
    → WithinBefore runs head end bits → WithinBefore runs head (end + 1) (bit_or bits more)
within_step runs head end bits more here before pattern moment s lt within prints j d inside m = elim (cases_lt pattern end) [
  | inl less ↦ has_left bits more (slice_index_or runs j d).bit (before pattern moment s less within prints j d inside m)
  | inr past ↦
      let e : pattern ≡ end = omega (arith, lt, past) in
      has_through (bit_or bits more) more (slice_index_or runs j d).bit (has_right bits more)
      (here moment s within.1 within.2 (subst (λ n. Prints n moment s) e prints) j d inside m)
]

pub within_all : PrintedMoments → (runs : List Run) (head : Head) (end bits : ℕ) → 27 ≤ end → WithinBefore runs head end bits
    → (pattern : ℕ) (moment : ℤ) (s : List ℕ) → IsWithin head moment → Prints pattern moment s → RunMarks runs s bits
within_all printed runs head end bits all before pattern moment s within prints =
    before pattern moment s (omega (arith, all, (printed.patterns pattern moment (s, prints)).1)) within prints

pub runs_none : (f : Filter) (head : Head) (bits : ℕ) → head.stamped ≡ false → RunsBring f head bits
runs_none f head bits none zero moment s within stamped = no_stamp f.runs.items s bits stamped.1
runs_none f head bits none (suc pattern) moment s within stamped =
    absurd (let some = (within (λ zero_is. absurd (omega (arith, zero_is)))).0 in cc (none, some))

pub runs_bring : (f : Filter) (head : Head) (bits : ℕ) → ((pattern : ℕ) (moment : ℤ) (s : List ℕ) → IsWithin head moment → Prints pattern moment s → RunMarks f.runs.items s bits) → RunsBring f head bits
runs_bring f head bits tells zero moment s within stamped = no_stamp f.runs.items s bits stamped.1
runs_bring f head bits tells (suc pattern) moment s within stamped = tells (suc pattern) moment s (within (λ zero_is. absurd (omega (arith, zero_is)))) stamped
