-- What two tables counted, in one of them.
use Rattle.std.proofs.Common.{◌≡◌, ◌≢◌, ◌+◌, ◌<◌, ◌≤◌, ◌^◌, ◌∷◌, ◌++◌, ℕ, zero, suc, ℤ, Bool, true, false, IsTrue, IsFalse, All, List, [], length, cond, count_by, is_none, nat_eq, slice_index_or, Option, arith, refl, ap, sym, subst, ◌∙◌, length-append, below_more, inl, inr, ⊎_elim, ◌||◌}
use Rattle.std.specs.Prelude.{◌⊎◌}
use Rattle.std.specs.Cmp.{IsEquivalence}
use Rattle.std.specs.List.{IsDistinct, sum_by}
use Rattle.std.specs.Map.{keys_of, lookup}
use Rattle.std.specs.Option.{unwrap_or}
use Rattle.std.specs.Ordering.{int_cmp, is_eq}
use Rattle.std.proofs.lemmas.Bool.{cond-true, cond-false}
use Rattle.std.proofs.lemmas.Cmp.{eq_by_cmp_equiv, int_cmp_total}
use Rattle.std.proofs.lemmas.List.{get_or_past}
use Rattle.std.proofs.lemmas.List.Elements.{All-append, All-tail}
use Rattle.std.proofs.lemmas.List.Sums.{count_by-le-length, sum_by-append, sum_by-cons}
use Rattle.std.proofs.lemmas.Map.{NonePasses}
use Rattle.std.proofs.lemmas.Map.Entries.{lookup_head, lookup_tail, none_past_head}
use Rattle.std.proofs.lemmas.Map.Keys.{IsDistinct-tail}
use Rattle.group_count.specs.Tables.{AreCounts, AreMinutes, AreTallied, HoldTypes, MinuteState, TypeState, is_minute, some_of}
use Rattle.group_count.proofs.TypeLemmas.{all_front}
use Rattle.group_count.proofs.MinuteLemmas.{Put, all_put, none_in}

-- ---- counts at places

-- the counts of the first places were added
pub record AddedTo (old more now : List ℕ) (k : ℕ) : Type 0 where
  pub done : (t : ℕ) → t < k → slice_index_or old t 0 + slice_index_or more t 0 < 2 ^ 64
      → slice_index_or now t 0 ≡ slice_index_or old t 0 + slice_index_or more t 0
  pub left : (t : ℕ) → k ≤ t → slice_index_or now t 0 ≡ slice_index_or old t 0

pub added_first : (old more : List ℕ) → AddedTo old more old 0
added_first old more = record { done = λ t lt. absurd (omega (arith, lt)); left = λ t le. refl }

pub added_next : (old more now later : List ℕ) (k n : ℕ) → n ≡ slice_index_or more k 0
    → (slice_index_or now k 0 + n < 2 ^ 64 → slice_index_or later k 0 ≡ slice_index_or now k 0 + n)
    → ((t : ℕ) → t ≢ k → slice_index_or later t 0 ≡ slice_index_or now t 0) → AddedTo old more now k → AddedTo old more later (k + 1)
added_next old more now later k n is own others before = record {
  done =
      below_more (λ t. slice_index_or old t 0 + slice_index_or more t 0 < 2 ^ 64 → slice_index_or later t 0 ≡ slice_index_or old t 0 + slice_index_or more t 0) k
      (λ t lt fits. others t (λ e. omega (arith, lt, e)) ∙ before.done t lt fits)
      (λ fits.
      let was = before.left k (omega arith) in
      let here = own (omega (arith, was, is, fits)) in
      omega (arith, here, was, is));
  left = λ t le. others t (λ e. omega (arith, le, e)) ∙ before.left t (omega (arith, le));
}

-- behind the last place both are counted
pub added_all : (old more now : List ℕ) (k : ℕ) (before numbers : List ℕ) → length more ≤ k → AddedTo old more now k → AreCounts old before
    → AreCounts more numbers → AreCounts now (before ++ numbers)
added_all old more now k before numbers end added one two = λ few t.
    let long = length-append before numbers in
    let a = one (omega (arith, few, long)) t in
    let b = two (omega (arith, few, long)) t in
    let both = sum_by-append (λ n. cond (nat_eq n t) 1 0) before numbers in
    let most = count_by-le-length (λ n. nat_eq n t) (before ++ numbers) in
    let below : t < k → slice_index_or now t 0 ≡ count_by (λ n. nat_eq n t) (before ++ numbers) =
    λ lt. let here = added.done t lt (omega (arith, a, b, both, most, few)) in omega (arith, here, a, b, both) in
    let above : k ≤ t → slice_index_or now t 0 ≡ count_by (λ n. nat_eq n t) (before ++ numbers) =
    λ le.
    let none : slice_index_or more t 0 ≡ 0 = get_or_past more t 0 (omega (arith, end, le)) in
    let here = added.left t le in
    omega (arith, here, none, a, b, both) in
    ⊎_elim below above (lt_or_le t k)
  where
    lt_or_le : (t k : ℕ) → (t < k) ⊎ (k ≤ t)
    lt_or_le t zero = inr (omega arith)
    lt_or_le zero (suc k) = inl (omega arith)
    lt_or_le (suc t) (suc k) = ⊎_elim (λ lt. inl (omega (arith, lt))) (λ le. inr (omega (arith, le))) (lt_or_le t k)

all_back : (P : ℕ → Type 0) (xs ys : List ℕ) → All P (xs ++ ys) → All P ys
all_back P [] ys all = all
all_back P (x ∷ xs) ys all = all_back P xs ys (All-tail P x (xs ++ ys) all)

either : (a b : Bool) → IsTrue (a || b) → IsTrue a ⊎ IsTrue b
either true b is = inl is
either false b is = inr is

neither_first : (a b : Bool) → IsFalse (a || b) → IsFalse a
neither_first true b is = is
neither_first false b is = refl

neither_second : (a b : Bool) → IsFalse (a || b) → IsFalse b
neither_second true b is = absurd (cc (is))
neither_second false b is = is

-- numbers of two tables
pub types_joined : (a b c : TypeState) (before numbers : List ℕ) → c.limit ≡ a.limit → b.limit ≡ a.limit → c.beyond ≡ (a.beyond || b.beyond)
    → ((xs ys : List ℕ) → AreCounts a.counts xs → AreCounts b.counts ys → AreCounts c.counts (xs ++ ys)) → HoldTypes a before → HoldTypes b numbers
    → HoldTypes c (before ++ numbers)
types_joined a b c before numbers limit same beyond joined one two = record {
  counts = λ all. joined before numbers (one.counts (first all)) (two.counts (second all));
  marked = λ is all. ⊎_elim (λ x. one.marked x (first all)) (λ y. two.marked y (second all)) (either a.beyond b.beyond (subst IsTrue beyond is));
  unmarked = λ is.
      let none = subst IsFalse beyond is in
      subst (λ (l : ℕ). All (λ n. n < l) (before ++ numbers)) (sym limit)
      (All-append (λ n. n < a.limit) before numbers (one.unmarked (neither_first a.beyond b.beyond none))
      (subst (λ (l : ℕ). All (λ n. n < l) numbers) same (two.unmarked (neither_second a.beyond b.beyond none))));
}
  where
    first : All (λ n. n < c.limit) (before ++ numbers) → All (λ n. n < a.limit) before
    first all = subst (λ (l : ℕ). All (λ n. n < l) before) limit (all_front (λ (n : ℕ). n < c.limit) before numbers all)

    second : All (λ n. n < c.limit) (before ++ numbers) → All (λ n. n < b.limit) numbers
    second all = subst (λ (l : ℕ). All (λ n. n < l) numbers) (limit ∙ sym same) (all_back (λ (n : ℕ). n < c.limit) before numbers all)

-- ---- minutes

-- how often a minute came, by these entries
abbrev pub left_of : List (ℤ × ℕ) → ℤ → ℕ
left_of entries q = sum_by (λ e. cond (is_eq (int_cmp e.0 q)) e.1 0) entries

abbrev same_minute : ℤ → ℤ → Bool
same_minute x y = is_eq (int_cmp x y)

minutes_equal : IsEquivalence same_minute
minutes_equal = eq_by_cmp_equiv int_cmp_total

none_of : (q : ℤ) (entries : List (ℤ × ℕ)) → NonePasses (same_minute q) entries → left_of entries q ≡ 0
none_of q [] none = refl
none_of q (e ∷ entries) none =
    let other : cond (is_eq (int_cmp e.0 q)) e.1 0 ≡ 0 = cond-false (is_eq (int_cmp e.0 q)) e.1 0 (minutes_equal.symm e.0 q ∙ none.0) in
    let rest = none_of q entries none.1 in
    let push = sum_by-cons (λ (x : ℤ × ℕ). cond (is_eq (int_cmp x.0 q)) x.1 0) e entries in
    omega (arith, other, rest, push)

-- entries with distinct keys have each minute as often as a look-up tells
all_left : (q : ℤ) (entries : List (ℤ × ℕ)) → IsDistinct same_minute (keys_of entries) → left_of entries q ≡ unwrap_or (lookup (same_minute q) entries) 0
all_left q [] distinct = refl
all_left q (e ∷ entries) distinct = go (same_minute q e.0) refl (all_left q entries (IsDistinct-tail same_minute e.0 (keys_of entries) distinct))
  where
    push : left_of (e ∷ entries) q ≡ cond (is_eq (int_cmp e.0 q)) e.1 0 + left_of entries q
    push = sum_by-cons (λ (x : ℤ × ℕ). cond (is_eq (int_cmp x.0 q)) x.1 0) e entries

    go : (b : Bool) → same_minute q e.0 ≡ b → left_of entries q ≡ unwrap_or (lookup (same_minute q) entries) 0
        → left_of (e ∷ entries) q ≡ unwrap_or (lookup (same_minute q) (e ∷ entries)) 0
    go true is later =
        let own : cond (is_eq (int_cmp e.0 q)) e.1 0 ≡ e.1 = cond-true (is_eq (int_cmp e.0 q)) e.1 0 (minutes_equal.symm e.0 q ∙ is) in
        let none = none_of q entries (none_past_head minutes_equal q e entries distinct is) in
        let found : unwrap_or (lookup (same_minute q) (e ∷ entries)) 0 ≡ e.1 = ap (λ (o : Option ℕ). unwrap_or o 0) (lookup_head (same_minute q) e entries is) in
        omega (arith, push, own, none, found)
    go false is later =
        let other : cond (is_eq (int_cmp e.0 q)) e.1 0 ≡ 0 = cond-false (is_eq (int_cmp e.0 q)) e.1 0 (minutes_equal.symm e.0 q ∙ is) in
        let found : unwrap_or (lookup (same_minute q) (e ∷ entries)) 0 ≡ unwrap_or (lookup (same_minute q) entries) 0 =
        ap (λ (o : Option ℕ). unwrap_or o 0) (lookup_tail (same_minute q) e entries is) in
        omega (arith, push, other, later, found)

unwrapped : (n : ℕ) → unwrap_or (some_of n) 0 ≡ n
unwrapped zero = refl
unwrapped (suc n) = refl

-- what was added, and what is left, are all
pub record AddedSoFar (often others : ℤ → ℕ) (now left : List (ℤ × ℕ)) : Type 0 where
  pub sums : ℤ → ℕ
  pub tally : AreTallied int_cmp now sums
  pub each : (q : ℤ) → sums q + left_of left q ≡ often q + others q

pub so_far_first : (often others : ℤ → ℕ) (now entries : List (ℤ × ℕ)) → IsDistinct same_minute (keys_of entries) → AreTallied int_cmp now often
    → AreTallied int_cmp entries others → AddedSoFar often others now entries
so_far_first often others now entries distinct tally are = record {
  sums = often;
  tally = tally;
  each = λ q.
      let whole = all_left q entries distinct ∙ ap (λ (o : Option ℕ). unwrap_or o 0) (are q) ∙ unwrapped (others q) in
      omega (arith, whole);
}

pub so_far_next : (often others : ℤ → ℕ) (now later rest after : List (ℤ × ℕ)) (minute : ℤ) (count : ℕ) → rest ≡ (minute, count) ∷ after
    → ((q : ℤ) → often q + others q < 2 ^ 64)
    → ((sums : ℤ → ℕ) → ((q : ℤ) → sums q + cond (is_eq (int_cmp minute q)) count 0 < 2 ^ 64) → AreTallied int_cmp now sums
    → AreTallied int_cmp later (λ q. sums q + cond (is_eq (int_cmp minute q)) count 0))
    → AddedSoFar often others now rest → AddedSoFar often others later after
so_far_next often others now later rest after minute count left fits put before = record {
  sums = λ q. before.sums q + cond (is_eq (int_cmp minute q)) count 0;
  tally = put before.sums (λ q. let each = before.each q in let cut = parts q in omega (arith, each, cut, fits q)) before.tally;
  each = λ q. let each = before.each q in let cut = parts q in omega (arith, each, cut);
}
  where
    parts : (q : ℤ) → left_of rest q ≡ cond (is_eq (int_cmp minute q)) count 0 + left_of after q
    parts q = ap (λ (l : List (ℤ × ℕ)). left_of l q) left ∙ sum_by-cons (λ (x : ℤ × ℕ). cond (is_eq (int_cmp x.0 q)) x.1 0) (minute, count) after

pub so_far_end : (often others : ℤ → ℕ) (now left : List (ℤ × ℕ)) → left ≡ [] → AddedSoFar often others now left
    → AreTallied int_cmp now (λ q. often q + others q)
so_far_end often others now left none so_far = λ q.
    let end : left_of left q ≡ 0 = ap (λ (l : List (ℤ × ℕ)). left_of l q) none in
    let each = so_far.each q in
    let same : so_far.sums q ≡ often q + others q = omega (arith, end, each) in
    so_far.tally q ∙ ap some_of same

-- what adding minutes to minutes says
abbrev pub Adds : List (ℤ × ℕ) → List (ℤ × ℕ) → List (ℤ × ℕ) → Type 0
Adds old more new =
    (often others : ℤ → ℕ) → ((q : ℤ) → often q + others q < 2 ^ 64) → AreTallied int_cmp old often → AreTallied int_cmp more others
    → AreTallied int_cmp new (λ q. often q + others q)

-- minutes of two tables
pub minutes_joined : (a b c : MinuteState) (mid most : List (ℤ × ℕ)) (before keys : List (Option ℤ)) → Put a mid → Adds mid b.minutes most
    → Put (record b { minutes = most }) c.minutes → c.run ≡ 0 → (a.without + b.without < 2 ^ 64 → c.without ≡ a.without + b.without)
    → AreMinutes a before → AreMinutes b keys → AreMinutes c (before ++ keys)
minutes_joined a b c mid most before keys put adds behind run raised one two = λ few.
    let long = length-append before keys in
    let x = one (omega (arith, few, long)) in
    let y = two (omega (arith, few, long)) in
    let own = λ (q : ℤ). x.often q + cond (is_eq (int_cmp a.first q)) a.run 0 in
    let other = λ (q : ℤ). cond (is_eq (int_cmp b.first q)) b.run 0 in
    let bound : (q : ℤ) → (own q + y.often q) + other q ≡ count_by (is_minute q) (before ++ keys) =
    λ q.
    let e = x.each q in
    let f = y.each q in
    let g = sum_by-append (λ k. cond (is_minute q k) 1 0) before keys in
    omega (arith, e, f, g) in
    let within : (q : ℤ) → (own q + y.often q) + other q < 2 ^ 64 = λ q. let e = bound q in let f = count_by-le-length (is_minute q) (before ++ keys) in omega (arith, e, f, few) in
    let first : AreTallied int_cmp mid own = all_put a mid before (omega (arith, few, long)) x put in
    let second = adds own y.often (λ q. let e = within q in omega (arith, e)) first y.tally in
    let third = behind (λ q. own q + y.often q) within second in
    let g = sum_by-append (λ k. cond (is_none k) 1 0) before keys in
    let h = count_by-le-length is_none (before ++ keys) in
    let e = x.others in
    let f = y.others in
    let without = raised (omega (arith, e, f, g, h, few)) in
    record {
      often = λ q. (own q + y.often q) + other q;
      tally = third;
      each = λ q.
          let none : cond (is_eq (int_cmp c.first q)) c.run 0 ≡ 0 = ap (λ (n : ℕ). cond (is_eq (int_cmp c.first q)) n 0) run ∙ none_in (is_eq (int_cmp c.first q)) in
          let all = bound q in
          omega (arith, none, all);
      others = omega (arith, without, e, f, g);
    }
