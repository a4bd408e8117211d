-- Tokens of one text: they do not overlap, and each byte that is no delimiter lies in one.
use Rattle.std.proofs.Common.{◌≡◌, ℕ, ◌+◌, ◌-◌, ◌<◌, ◌≤◌, zero, suc, true, List, length, sym, subst, arith, inl, inr}
use Rattle.std.specs.Prelude.{slice_index}
use Rattle.std.proofs.lemmas.Bool.{cases_lt, cases_order, cases_Bool, both_ways}
use Rattle.token_rules.specs.Tokens.{IsDelimiter, IsOutside, IsToken, OnlyDelimiters, is_token_byte}
use Rattle.token_rules.specs.Laws.{TokensAreApart, TokensCover, OutsideIsOutside}

-- a byte of tokens is no delimiter
pub no_delimiter : (b : ℕ) → is_token_byte b ≡ true → ¬ IsDelimiter b
no_delimiter b of_token delimiter = both_ways (is_token_byte b) delimiter of_token

-- the byte before a token's start is no byte of another token
no_earlier : (body : List ℕ) (start end start' end' : ℕ) → IsToken body start end → IsToken body start' end' → start' < end → start < start' → ⊥
no_earlier body start end start' end' one other overlap earlier =
    one.unbroken (start' - 1) (omega arith) (omega arith) (other.left (omega arith))

-- the byte after a token's end is no byte of another token
no_later : (body : List ℕ) (start end start' end' : ℕ) → IsToken body start end → IsToken body start' end' → start' < end → end < end' → ⊥
no_later body start end start' end' one other overlap later =
    other.unbroken end (omega arith) later (one.right (omega (arith, other.in_range)))

pub tokens_are_apart : TokensAreApart
tokens_are_apart body start end start' end' one other low high =
    let starts : start ≡ start' = elim (cases_order start start') [
      | inl same ↦ same
      | inr (inl less) ↦ absurd (no_earlier body start end start' end' one other high less)
      | inr (inr more) ↦ absurd (no_earlier body start' end' start end other one low more)
    ] in
    let ends : end ≡ end' = elim (cases_order end end') [
      | inl same ↦ same
      | inr (inl less) ↦ absurd (no_later body start end start' end' one other high less)
      | inr (inr more) ↦ absurd (no_later body start' end' start end other one low more)
    ] in
    (starts, ends)

-- the bytes from `from` up to `to` are of a token
abbrev Unbroken : List ℕ → ℕ → ℕ → Type 0
Unbroken body from to = (k : ℕ) → from ≤ k → k < to → ¬ IsDelimiter (slice_index body k)

-- the end of the run that goes on from a place
record RunEnd (body : List ℕ) (at end : ℕ) : Type 0 where
  ordered : at ≤ end
  in_range : end ≤ length body
  unbroken : Unbroken body at end
  right : end < length body → IsDelimiter (slice_index body end)

-- the start of the run that comes up to a place
record RunStart (body : List ℕ) (start at : ℕ) : Type 0 where
  ordered : start ≤ at
  unbroken : Unbroken body start at
  left : 0 < start → IsDelimiter (slice_index body (start - 1))

nothing_between : (body : List ℕ) (at : ℕ) → Unbroken body at at
nothing_between body at k low high = absurd (omega arith)

run_end : (body : List ℕ) (n at : ℕ) → at + n ≡ length body → (end : ℕ) × RunEnd body at end
run_end body zero at whole = (at, record { ordered = omega arith; in_range = omega arith; unbroken = nothing_between body at; right = λ more. absurd (omega arith) })
run_end body (suc n) at whole = elim (cases_Bool (is_token_byte (slice_index body at))) [
  | inl of_token ↦
      let (end, rest) = run_end body n (at + 1) (omega arith) in (
        end,
        record {
          ordered = omega (arith, rest.ordered);
          in_range = rest.in_range;
          unbroken = λ k low high. elim (cases_order at k) [
            | inl here ↦ subst (λ j. ¬ IsDelimiter (slice_index body j)) here (no_delimiter (slice_index body at) of_token)
            | inr (inl after) ↦ rest.unbroken k (omega arith) high
            | inr (inr before) ↦ absurd (omega arith)
          ];
          right = rest.right;
        },
      )
  | inr delimiter ↦ (at, record { ordered = omega arith; in_range = omega arith; unbroken = nothing_between body at; right = λ _. delimiter })
]

run_start : (body : List ℕ) (at : ℕ) → (start : ℕ) × RunStart body start at
run_start body zero = (zero, record { ordered = omega arith; unbroken = nothing_between body zero; left = λ positive. absurd (omega arith) })
run_start body (suc at) = elim (cases_Bool (is_token_byte (slice_index body at))) [
  | inl of_token ↦
      let (start, rest) = run_start body at in (
        start,
        record {
          ordered = omega (arith, rest.ordered);
          unbroken = λ k low high. elim (cases_order at k) [
            | inl here ↦ subst (λ j. ¬ IsDelimiter (slice_index body j)) here (no_delimiter (slice_index body at) of_token)
            | inr (inl after) ↦ absurd (omega arith)
            | inr (inr before) ↦ rest.unbroken k low before
          ];
          left = rest.left;
        },
      )
  | inr delimiter ↦ (
    suc at,
    record {
      ordered = omega arith;
      unbroken = nothing_between body (suc at);
      left = λ _. subst (λ j. IsDelimiter (slice_index body j)) (let e : at ≡ suc at - 1 = omega arith in e) delimiter;
    },
  )
]

pub tokens_cover : TokensCover
tokens_cover body at inside of_token =
    let (start, front) = run_start body at in
    let (end, back) = run_end body (length body - at) at (omega arith) in
    let further : at < end = elim (cases_order at end) [
      | inl same ↦ absurd (of_token (subst (λ j. IsDelimiter (slice_index body j)) (sym same) (back.right (omega arith))))
      | inr (inl less) ↦ less
      | inr (inr more) ↦ absurd (omega (arith, back.ordered))
    ] in (
      start,
      (
        end,
        (
          record {
            not_empty = omega (arith, front.ordered, back.ordered);
            in_range = back.in_range;
            unbroken = λ k low high. elim (cases_lt k at) [ inl before ↦ front.unbroken k low before | inr after ↦ back.unbroken k after high ];
            left = front.left;
            right = back.right;
          },
          front.ordered,
          further,
        ),
      ),
    )

pub outside_is_outside : OutsideIsOutside
outside_is_outside body at = (
  λ outside start end token low high. token.unbroken at (omega arith) high (outside (omega arith) (omega (arith, token.in_range)) (token.unbroken (at - 1) (omega arith) (omega arith))),
  λ none positive inside before. elim (cases_Bool (is_token_byte (slice_index body at))) [
    | inl of_token ↦
        let (start, (end, held)) = tokens_cover body at inside (no_delimiter (slice_index body at) of_token) in
        elim (cases_order start at) [
          | inl same ↦ absurd (before (subst (λ j. IsDelimiter (slice_index body (j - 1))) same (held.0.left (omega (arith, same)))))
          | inr (inl less) ↦ absurd (none start end held.0 less held.2)
          | inr (inr more) ↦ absurd (omega (arith, held.1))
        ]
    | inr delimiter ↦ delimiter
  ],
)

-- the run behind delimiters is a token
pub run_is_token : (body : List ℕ) (from start end : ℕ) → IsOutside body from → from ≤ start → start < length body → OnlyDelimiters body from start → is_token_byte (slice_index body start) ≡ true
    → start ≤ end → end ≤ length body → ((k : ℕ) → start ≤ k → k < end → is_token_byte (slice_index body k) ≡ true) → (end < length body → IsDelimiter (slice_index body end)) → IsToken body start end
run_is_token body from start end outside later inside skipped here ordered in_range unbroken stop = record {
  not_empty = elim (cases_order start end) [
    | inl same ↦ absurd (both_ways (is_token_byte (slice_index body start)) (subst (λ j. IsDelimiter (slice_index body j)) (sym same) (stop (omega (arith, same, inside)))) here)
    | inr (inl less) ↦ less
    | inr (inr more) ↦ absurd (omega (arith, more, ordered))
  ];
  in_range = in_range;
  unbroken = λ k low high. no_delimiter (slice_index body k) (unbroken k low high);
  left = λ positive. elim (cases_lt from start) [
    | inl further ↦ skipped (start - 1) (omega arith) (omega arith)
    | inr reached ↦
        let same : from ≡ start = omega arith in
        elim (cases_Bool (is_token_byte (slice_index body (start - 1)))) [
          | inl of_token ↦ absurd (both_ways (is_token_byte (slice_index body start)) (subst (λ j. IsOutside body j) same outside positive inside (no_delimiter (slice_index body (start - 1)) of_token)) here)
          | inr delimiter ↦ delimiter
        ]
  ];
  right = stop;
}
