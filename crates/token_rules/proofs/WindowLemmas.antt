-- Windows over a body.
use Rattle.std.proofs.Common.{◌≡◌, ℕ, zero, suc, ◌+◌, ◌-◌, ◌<◌, ◌≤◌, Bool, true, false, ◌&&◌, ◌||◌, List, ◌++◌, length, take, drop, replicate, get_or, sym, ap, ap₂, ◌∙◌, arith, inl, inr}
use Rattle.std.specs.Prelude.{slice_index, slice_range}
use Rattle.std.proofs.lemmas.Bool.{both_ways, cases_lt}
use Rattle.std.proofs.lemmas.List.{get_or_past, get_or-drop, get_or_append_left, get_or-append_right, length-drop, take_all}
use Rattle.std.proofs.lemmas.Simd.{get_or-replicate}
use Rattle.token_rules.specs.StepsOfWindows.{test, all_bits, any_bit, Tells}
use Rattle.std.specs.List.{list_all, list_any}
use Rattle.token_rules.specs.Tokens.{OnlyDelimiters, is_token_byte}
use Rattle.token_rules.proofs.ClassLemmas.{any_more, all_more, none_there}

-- the bits of a body's end, from a later place on
pub tells_later : (p : ℕ → Bool) → p 0 ≡ false → (body : List ℕ) (early at bits bits' : ℕ) → early ≤ at → length body ≤ early + 64 → Tells p body early bits
    → ((k : ℕ) → test bits' k ≡ test bits (at - early + k)) → ((k : ℕ) → 64 ≤ at - early + k → test bits' k ≡ false) → Tells p body at bits'
tells_later p none body early at bits bits' later end tells kept above k l = elim (cases_lt (at - early + k) 64) [
  | inl within ↦
      let place : early + (at - early + k) ≡ at + k = omega arith in
      kept k ∙ tells (at - early + k) within ∙ ap (λ j. p (slice_index body j)) place
  | inr past ↦ above k past ∙ sym none ∙ sym (ap p (get_or_past body (at + k) 0 (omega arith)))
]

-- the last bytes of a body, with zeros behind them
pub padded : (body : List ℕ) (at : ℕ) (front : List ℕ) → at ≤ length body → length body < at + 64 → front ≡ take (length body - at) (drop at body)
    → (k : ℕ) → k < 64 → get_or (front ++ drop (length (take (length body - at) (drop at body))) (replicate 64 0)) k 0 ≡ get_or body (at + k) 0
padded body at front inside few is k l =
    let n = length body - at in
    let rest : take n (drop at body) ≡ drop at body = take_all n (drop at body) (omega (arith, length-drop at body)) in
    let long : length (drop at body) ≡ n = length-drop at body in
    ap₂ (λ xs ys. get_or (xs ++ drop (length ys) (replicate 64 0)) k 0) (is ∙ rest) rest
    ∙ elim (cases_lt k n) [
      | inl low ↦ get_or_append_left (drop at body) (drop (length (drop at body)) (replicate 64 0)) 0 k (omega (arith, long)) ∙ get_or-drop at body k 0
      | inr high ↦
          get_or-append_right (drop at body) (drop (length (drop at body)) (replicate 64 0)) n k 0 long high ∙ get_or-drop (length (drop at body)) (replicate 64 0) (k - n) 0
          ∙ get_or-replicate 64 (length (drop at body) + (k - n)) 0 0 (omega (arith, long)) ∙ sym (get_or_past body (at + k) 0 (omega arith))
    ]

-- what the window shows of a place
pub shown_at : (p : ℕ → Bool) (body : List ℕ) (at bits : ℕ) → Tells p body at bits → (k : ℕ) → at ≤ k → k < at + 64 → test bits (k - at) ≡ p (slice_index body k)
shown_at p body at bits tells k low high =
    let place : at + (k - at) ≡ k = omega arith in
    tells (k - at) (omega arith) ∙ ap (λ j. p (slice_index body j)) place

-- a byte of a token stands in the body
pub inside_body : (body : List ℕ) (k : ℕ) → is_token_byte (slice_index body k) ≡ true → k < length body
unfolding is_token_byte
inside_body body k of_token = elim (cases_lt k (length body)) [
  | inl inside ↦ inside
  | inr past ↦ absurd (both_ways (is_token_byte (slice_index body k)) (ap is_token_byte (get_or_past body k 0 past)) of_token)
]

-- the places whose bits are not set are delimiters
pub delimiters_shown : (body : List ℕ) (w tokens at clear : ℕ) → Tells is_token_byte body w tokens → w ≤ at → ((k : ℕ) → k < clear → test tokens (at - w + k) ≡ false)
    → (to : ℕ) → to ≤ at + clear → to ≤ w + 64 → OnlyDelimiters body at to
delimiters_shown body w tokens at clear tells later none to few shown k low high =
    let place : at - w + (k - at) ≡ k - w = omega arith in
    sym (shown_at is_token_byte body w tokens tells k (omega arith) (omega arith)) ∙ ap (test tokens) (sym place) ∙ none (k - at) (omega arith)

pub delimiters_join : (body : List ℕ) (from at to : ℕ) → OnlyDelimiters body from at → OnlyDelimiters body at to → OnlyDelimiters body from to
delimiters_join body from at to front back k low high = elim (cases_lt k at) [ inl before ↦ front k low before | inr after ↦ back k after high ]

-- the places whose bits are set are bytes of tokens
pub tokens_shown : (body : List ℕ) (w tokens start count : ℕ) → Tells is_token_byte body w tokens → w ≤ start → start - w + count ≤ 64 → ((k : ℕ) → k < count → test tokens (start - w + k) ≡ true)
    → (k : ℕ) → start ≤ k → k < start + count → is_token_byte (slice_index body k) ≡ true
tokens_shown body w tokens start count tells later shown set k low high =
    let place : start - w + (k - start) ≡ k - w = omega arith in
    sym (shown_at is_token_byte body w tokens tells k (omega arith) (omega arith)) ∙ ap (test tokens) (sym place) ∙ set (k - start) (omega arith)

-- so they stand in the body
pub run_inside : (body : List ℕ) (start count : ℕ) → start ≤ length body → ((k : ℕ) → start ≤ k → k < start + count → is_token_byte (slice_index body k) ≡ true) → start + count ≤ length body
run_inside body start zero inside unbroken = omega arith
run_inside body start (suc n) inside unbroken = omega (arith, inside_body body (start + n) (unbroken (start + n) (omega arith) (omega arith)))

-- one of some bits, and one of the bytes that they stand for
pub any_shown : (p : ℕ → Bool) (body : List ℕ) (w bits start count : ℕ) → Tells p body w bits → w ≤ start → start - w + count ≤ 64 → start + count ≤ length body → any_bit bits (start - w) count ≡ list_any p (slice_range body start (start + count))
unfolding any_bit
any_shown p body w bits start zero tells later shown inside =
    let same : start ≡ start + 0 = omega arith in
    sym (ap (list_any p) (none_there body start)) ∙ ap (λ e. list_any p (slice_range body start e)) same
any_shown p body w bits start (suc n) tells later shown inside =
    let place : start - w + n ≡ start + n - w = omega arith in
    let next : start + n + 1 ≡ start + suc n = omega arith in
    ap₂ (λ x y. x || y) (any_shown p body w bits start n tells later (omega arith) (omega arith)) (ap (test bits) place ∙ shown_at p body w bits tells (start + n) (omega arith) (omega arith))
    ∙ sym (any_more body start (start + n) (omega arith) (omega arith) p) ∙ ap (λ e. list_any p (slice_range body start e)) next

pub all_shown : (p : ℕ → Bool) (body : List ℕ) (w bits start count : ℕ) → Tells p body w bits → w ≤ start → start - w + count ≤ 64 → start + count ≤ length body → all_bits bits (start - w) count ≡ list_all p (slice_range body start (start + count))
unfolding all_bits
all_shown p body w bits start zero tells later shown inside =
    let same : start ≡ start + 0 = omega arith in
    sym (ap (list_all p) (none_there body start)) ∙ ap (λ e. list_all p (slice_range body start e)) same
all_shown p body w bits start (suc n) tells later shown inside =
    let place : start - w + n ≡ start + n - w = omega arith in
    let next : start + n + 1 ≡ start + suc n = omega arith in
    ap₂ (λ x y. x && y) (all_shown p body w bits start n tells later (omega arith) (omega arith)) (ap (test bits) place ∙ shown_at p body w bits tells (start + n) (omega arith) (omega arith))
    ∙ sym (all_more body start (start + n) (omega arith) (omega arith) p) ∙ ap (λ e. list_all p (slice_range body start e)) next
