-- Tokens lie in stamps with what stands around them in the pattern.
use Rattle.std.proofs.Common.{◌≡◌, ℕ, zero, suc, ◌+◌, ◌-◌, ◌<◌, ◌≤◌, List, [], ◌∷◌, ◌++◌, length, take, drop, get_or, map, refl, sym, ◌∙◌, ap, subst, inl, inr, arith, append-nil, append_assoc, length-append, length-take-le, take-append-drop}
use Rattle.std.specs.Prelude.{◌↔◌, ℤ, Bool, false, IsTrue, Some, slice_get}
use Rattle.std.specs.List.{Contains}
use Rattle.std.proofs.lemmas.Bool.{cases_lt}
use Rattle.std.proofs.lemmas.List.{drop_at, drop_more, take_all, take_at, take_more}
use Rattle.std.proofs.lemmas.List.Elements.{Contains-append_left, Contains-append_right}
use Rattle.std.proofs.lemmas.Option.{get_or_from_slice_get}
use Rattle.token_rules.specs.Tokens.{IsDelimiter}
use Rattle.time_patterns.specs.Stamps.{HasStamp, Prints}
use Rattle.logtype_text.specs.Parts.{joined, symbol_of}
use Rattle.logtype_text.specs.TypeText.{type_text}
use Rattle.wild_match.specs.Matches.{Match}
use Rattle.query_plan.specs.declared.pieces.Piece.{Piece}
use Rattle.query_plan.specs.declared.pieces.Piece.TheVariants.{Gap, Mark, Word}
use Rattle.query_plan.specs.Laws.{Across, BeginsMark, ChunksAreBrought, IsChunk, NoGap, TokensStand, chunk_text}
use Rattle.query_plan.specs.Needs.{around}
use Rattle.query_plan.specs.Pieces.{flat}
use Rattle.stamp_templates.specs.Laws.{EndsNone, StandsAt}
use Rattle.subquery_filter.specs.StepsFilter.{AddsRun, EndsRun}
use Rattle.subquery_filter.specs.Tokens.{EndsAt, IsInRun, LiesAcross, LiesInStamp, RowsBringRuns}
use Rattle.subquery_filter.proofs.BarrenLemmas.{body_behind}
use Rattle.subquery_filter.proofs.TokenLemmas.{body_brings, same_text}

-- ---- over the border of a stamp and a body

pub across_ends : (w s body : List ℕ) → Across w s body → LiesAcross w s
across_ends w s body h = (
  length h.front,
  record {
    some = h.some;
    marks = subst BeginsMark (sym (ap (drop (length h.front)) h.joins ∙ drop_at h.front h.back (length h.front) refl)) h.marks;
    before = h.before;
    ends = h.ends ∙ ap (λ (l : List ℕ). h.before ++ l) (sym (ap (take (length h.front)) h.joins ∙ take_at h.front h.back (length h.front) refl));
  },
)

run_has : (ps run : List Piece) (t : List ℕ) → IsChunk ps run → Contains run (Word t) → Contains ps (Word t)
run_has ps run t h has =
    subst (λ (l : List Piece). Contains l (Word t)) (sym h.stands) (Contains-append_right h.before (run ++ h.behind) (Word t) (Contains-append_left run h.behind (Word t) has))

pub rows_bring_runs : TokensStand → ChunksAreBrought → RowsBringRuns
rows_bring_runs stand chunks version ps row types words text message t w cut is matches h here =
    let means = is.means in
    let body = joined means.parts in
    let behind = body_behind version row.pattern row.moment means.stamp body (subst (λ m. HasStamp version m row.pattern row.moment (length means.stamp)) means.is is.stamp) in
    let typed : type_text (map symbol_of means.parts) ≡ text = same_text (slice_get types row.log_type) (type_text (map symbol_of means.parts)) text means.typed here in
    elim (chunks ps h.run means.stamp body means.parts cut h.chunk behind is.body (subst (Match (flat ps)) means.is matches)) [
      | inl within ↦ inl (means.stamp, means.stamped, inl (subst (λ x. Match (around x) means.stamp) (sym h.text) within))
      | inr (inl across) ↦ elim (stand ps means.stamp body means.parts t cut (run_has ps h.run t h.chunk h.has) behind is.body (subst (Match (flat ps)) means.is matches)) [
        | inl in_stamp ↦ inl (means.stamp, means.stamped, inr (subst (λ x. LiesAcross x means.stamp) (sym h.text) (across_ends (chunk_text h.run) means.stamp body across), in_stamp))
        | inr brought ↦ inr (body_brings words t text means.parts row.words typed means.coded brought)
      ]
      | inr (inr there) ↦ inr (body_brings words t text means.parts row.words typed means.coded (there.1 t h.has))
    ]

-- ---- the fronts of a text

-- a delimiter stands behind no more bytes than a text has
pub front_short : (w : List ℕ) (n : ℕ) → BeginsMark (drop n w) → n < length w
front_short [] zero marks = absurd marks
front_short [] (suc n) marks = absurd marks
front_short (b ∷ w) zero marks = omega arith
front_short (b ∷ w) (suc n) marks = let lt = front_short w n marks in omega (arith, lt)

-- no front so far ends the stamp
abbrev pub NoneBefore : List ℕ → List ℕ → ℕ → Type 0
NoneBefore w s end = (n : ℕ) → n < end → ¬ EndsAt w s n

pub none_first : (w s : List ℕ) → NoneBefore w s 1
none_first w s n lt h = omega (arith, lt, h.some)

pub none_step : (w s : List ℕ) (end : ℕ) → ¬ EndsAt w s end → NoneBefore w s end → NoneBefore w s (end + 1)
none_step w s end here before n lt h = elim (cases_lt n end) [
  | inl less ↦ before n less h
  | inr past ↦ here (subst (EndsAt w s) (omega (arith, lt, past)) h)
]

pub none_across : (w s : List ℕ) (end : ℕ) → length w ≤ end → NoneBefore w s end → ¬ LiesAcross w s
none_across w s end all before (n, h) = let lt = front_short w n h.marks in before n (omega (arith, lt, all)) h

-- the byte behind a front
pub mark_behind : (w : List ℕ) (n d : ℕ) → n < length w → BeginsMark (drop n w) → BeginsMark (get_or w n d ∷ drop (n + 1) w)
mark_behind w n d lt marks = subst BeginsMark (drop_more w n d lt) marks

-- a front at the end stands there
pub front_stands : (w s : List ℕ) (n : ℕ) → n ≤ length w → EndsAt w s n → (n ≤ length s) × StandsAt (take n w) s (length s - n)
front_stands w s n within h =
    let front = take n w in
    let long : length front ≡ n = length-take-le n w within in
    let size : length s ≡ length h.before + n = ap length h.ends ∙ length-append h.before front ∙ ap (λ (k : ℕ). length h.before + k) long in
    let at : length h.before ≡ length s - n = omega (arith, size) in
    let there : take (length front) (drop (length s - n) s) ≡ front =
    ap (λ (k : ℕ). take (length front) (drop k s)) (sym at)
    ∙ ap (λ (l : List ℕ). take (length front) (drop (length h.before) l)) h.ends
    ∙ ap (take (length front)) (drop_at h.before front (length h.before) refl)
    ∙ take_all (length front) front (omega arith) in
    (omega (arith, size), (omega (arith, size, long), there))

-- no byte of a token stands behind a front
pub no_mark : (w s : List ℕ) (n d : ℕ) (told : Bool) → n < length w → d ≡ get_or w n d → (IsTrue told ↔ IsDelimiter d) → told ≡ false → ¬ EndsAt w s n
no_mark w s n d told lt is tells never h =
    let there : BeginsMark (get_or w n d ∷ drop (n + 1) w) = mark_behind w n d lt h.marks in
    absurd (cc (never, tells.1 (subst IsDelimiter (sym is) there)))

-- nor does a stamp end with it that the pattern prints
pub ends_none : (pattern : ℕ) (w s : List ℕ) (n : ℕ) (moment : ℤ) (front : List ℕ) → front ≡ take n w → EndsNone pattern front → Prints pattern moment s → ¬ EndsAt w s n
ends_none pattern w s n moment front is none prints h = none moment h.before (subst (Prints pattern moment) (h.ends ∙ ap (λ (l : List ℕ). h.before ++ l) (sym is)) prints)

pub no_room : (w s : List ℕ) (n : ℕ) → n < length w → length s < n → ¬ EndsAt w s n
no_room w s n lt short h = let fits = (front_stands w s n (omega (arith, lt)) h).0 in omega (arith, short, fits)

pub front_apart : (w s : List ℕ) (n : ℕ) (front : List ℕ) (at : ℕ) (told : Bool) → n < length w → front ≡ take n w → at ≡ length s - n → (IsTrue told ↔ StandsAt front s at) → told ≡ false → ¬ EndsAt w s n
front_apart w s n front at told lt is at_is tells never h =
    let there = (front_stands w s n (omega (arith, lt)) h).1 in
    absurd (cc (never, tells.1 (subst (λ (l : List ℕ). StandsAt l s at) (sym is) (subst (StandsAt (take n w) s) (sym at_is) there))))

-- a text that is another
pub matched_by : (text w s : List ℕ) → text ≡ w → ¬ Match (around text) s → ¬ Match (around w) s
matched_by text w s is none m = none (subst (λ (t : List ℕ). Match (around t) s) (sym is) m)

-- what is told of a token that does not lie in a stamp
pub lies_not : (w t s : List ℕ) → ¬ Match (around w) s → (LiesAcross w s → ¬ Match (around t) s) → ¬ LiesInStamp w t s
lies_not w t s whole front (inl m) = whole m
lies_not w t s whole front (inr (ends, m)) = front ends m

-- ---- pieces around a token

pub no_gap_more : (run more : List Piece) → NoGap run → NoGap more → NoGap (run ++ more)
no_gap_more [] more one two = two
no_gap_more (Gap ∷ run) more one two = absurd one
no_gap_more (Mark d ∷ run) more one two = no_gap_more run more one two
no_gap_more (Word t ∷ run) more one two = no_gap_more run more one two

pub text_more : (run more : List Piece) → chunk_text (run ++ more) ≡ chunk_text run ++ chunk_text more
text_more [] more = refl
text_more (Gap ∷ run) more = text_more run more
text_more (Mark d ∷ run) more = ap (λ (l : List ℕ). d ∷ l) (text_more run more)
text_more (Word t ∷ run) more = ap (λ (l : List ℕ). t ++ l) (text_more run more) ∙ sym (append_assoc t (chunk_text run) (chunk_text more))

-- the text of the pieces from the first up to a place is added
abbrev pub RunSoFar : List Piece → ℕ → ℕ → List ℕ → List ℕ → Type 0
RunSoFar ps from place old new = (run : List Piece) × (drop from ps ≡ run ++ drop place ps) × NoGap run × (new ≡ old ++ chunk_text run)

pub run_none : (ps : List Piece) (from : ℕ) (old : List ℕ) → RunSoFar ps from from old old
run_none ps from old = ([], refl, tt, sym (append-nil old))

pub run_step : (ps : List Piece) (from place : ℕ) (old now new : List ℕ) (p : Piece) → place < length ps → p ≡ get_or ps place p → NoGap (p ∷ []) → new ≡ now ++ chunk_text (p ∷ [])
    → RunSoFar ps from place old now → RunSoFar ps from (place + 1) old new
run_step ps from place old now new p lt is whole added (run, stands, none, text) = (
  run ++ p ∷ [],
  stands
      ∙ ap (λ (l : List Piece). run ++ l) (drop_more ps place p lt ∙ ap (λ (x : Piece). x ∷ drop (place + 1) ps) (sym is))
      ∙ sym (append_assoc run (p ∷ []) (drop (place + 1) ps)),
  no_gap_more run (p ∷ []) none whole,
  added ∙ ap (λ (l : List ℕ). l ++ chunk_text (p ∷ [])) text ∙ append_assoc old (chunk_text run) (chunk_text (p ∷ [])) ∙ ap (λ (l : List ℕ). old ++ l) (sym (text_more run (p ∷ []))),
)

pub run_ends : (ps : List Piece) (from place : ℕ) (old new : List ℕ) → RunSoFar ps from place old new → AddsRun (drop from ps) old new
run_ends ps from place old new (run, stands, none, text) = (run, drop place ps, stands, none, text)

-- behind a gap no piece is known
pub front_none : (ps : List Piece) (text : List ℕ) → text ≡ [] → EndsRun ps text
front_none ps text none = (ps, [], sym (append-nil ps), tt, none)

pub front_step : (ps : List Piece) (p : Piece) (old new : List ℕ) → NoGap (p ∷ []) → new ≡ old ++ chunk_text (p ∷ []) → EndsRun ps old → EndsRun (ps ++ p ∷ []) new
front_step ps p old new whole added (before, run, stands, none, text) = (
  before,
  run ++ p ∷ [],
  ap (λ (l : List Piece). l ++ p ∷ []) stands ∙ append_assoc before run (p ∷ []),
  no_gap_more run (p ∷ []) none whole,
  added ∙ ap (λ (l : List ℕ). l ++ chunk_text (p ∷ [])) text ∙ sym (text_more run (p ∷ [])),
)

-- a token between the pieces before and behind it
pub in_run : (ps : List Piece) (place : ℕ) (t front some w : List ℕ) → slice_get ps place ≡ Some (Word t) → place < length ps → EndsRun (take place ps) front → some ≡ front ++ t
    → AddsRun (drop (place + 1) ps) some w → IsInRun ps t w
in_run ps place t front some w there lt (before, run, stands, none, text) joined (more, rest, goes, clear, added) =
    let here : get_or ps place (Word t) ≡ Word t = get_or_from_slice_get ps place (Word t) (Word t) there in
    let whole : List Piece = run ++ Word t ∷ more in
    record {
      run = whole;
      chunk = record {
        before = before;
        behind = rest;
        stands =
            sym (take-append-drop place ps)
            ∙ (λ i. stands i ++ (drop_more ps place (Word t) lt ∙ ap (λ (x : Piece). x ∷ drop (place + 1) ps) here ∙ ap (λ (l : List Piece). Word t ∷ l) goes) i)
            ∙ append_assoc before run (Word t ∷ (more ++ rest))
            ∙ ap (λ (l : List Piece). before ++ l) (sym (append_assoc run (Word t ∷ more) rest));
        whole = no_gap_more run (Word t ∷ more) none clear;
      };
      has = Contains-append_right run (Word t ∷ more) (Word t) (zero, omega arith, refl);
      text =
          added
          ∙ ap (λ (l : List ℕ). l ++ chunk_text more) (joined ∙ ap (λ (l : List ℕ). l ++ t) text)
          ∙ append_assoc (chunk_text run) t (chunk_text more)
          ∙ sym (text_more run (Word t ∷ more));
    }

-- the front goes on over the piece at a place
pub front_next : (ps : List Piece) (place : ℕ) (p : Piece) (old new : List ℕ) → place < length ps → p ≡ get_or ps place p → ((xs : List Piece) → EndsRun xs old → EndsRun (xs ++ p ∷ []) new) → EndsRun (take place ps) old → EndsRun (take (place + 1) ps) new
front_next ps place p old new lt is goes ends =
    subst (λ (l : List Piece). EndsRun l new) (sym (take_more ps place p lt ∙ ap (λ (x : Piece). take place ps ++ x ∷ []) (sym is))) (goes (take place ps) ends)
