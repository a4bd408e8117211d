-- How many digits a whole number has.
use Rattle.std.proofs.Common.{◌≡◌, ℕ, ◌<◌, ◌≤◌, ◌/◌, ◌%◌, ◌^◌, false, true, List, [], ◌∷◌, length, refl, subst, arith, inl, inr}
use Rattle.std.specs.Prelude.{All, None}
use Rattle.std.specs.Fmt.{decimal, signed_decimal}
use Rattle.std.specs.Int.{cast_signed, w64}
use Rattle.std.proofs.Math.Nat.{pow-le-pow_right}
use Rattle.std.proofs.lemmas.Fmt.{length-decimal-le}
use Rattle.var_codec.proofs.Texts.{all_digits}
use Rattle.wild_match.specs.Matches.{Match}
use Rattle.wild_match.specs.declared.pattern.Item.TheVariants.{Many}
use Rattle.query_plan.specs.Needs.{around}
use Rattle.query_plan.specs.Pieces.{bytes}
use Rattle.subquery_filter.specs.declared.token.Token.{Token}
use Rattle.subquery_filter.specs.Filter.{IsBound, IsLeast}
use Rattle.subquery_filter.specs.NumberText.{is_digits, is_number_part, is_plain}
use Rattle.subquery_filter.specs.StepsFilter.{NoneBelow}
use Rattle.subquery_filter.proofs.DecimalLemmas.{small_signed, told_marks}
use Rattle.subquery_filter.proofs.NumberLemmas.{all_are, digits_in, stands_in}

-- ---- a bound of the digits

pub pow_most : (k : ℕ) → k ≤ 18 → 10 ^ k ≤ 10 ^ 18
pow_most k most = pow-le-pow_right (omega arith) most

pub few_digits : (k n : ℕ) → 0 < k → k ≤ 18 → n < 10 ^ k → (n < 10 ^ 18) × (length (decimal n) ≤ k)
few_digits k n some most small =
    let wide : n < 10 ^ 18 = omega (arith, small, pow_most k most) in
    (wide, length-decimal-le k n some small (omega (arith, wide)))

-- ---- a text is no longer than one that it stands in

front_long : (t s : List ℕ) → Match (bytes t (Many ∷ [])) s → length t ≤ length s
front_long [] s m = omega arith
front_long (b ∷ t) [] m = absurd m
front_long (b ∷ t) (c ∷ s) m = omega (arith, front_long t s m.1)

around_long : (t s : List ℕ) → Match (around t) s → length t ≤ length s
around_long t [] m = front_long t [] m
around_long t (c ∷ s) (inl m) = front_long t (c ∷ s) m
around_long t (c ∷ s) (inr m) = omega (arith, around_long t s m)

-- ---- a token in a whole number without a sign

own_text : (k : Token) (n : ℕ) → n < 10 ^ 18 → Match k.matcher.items (signed_decimal (cast_signed w64 n)) → Match (around k.text) (decimal n)
own_text k n small m = subst (Match (around k.text)) (small_signed n (omega (arith, small))) (stands_in k (signed_decimal (cast_signed w64 n)) m)

pub not_digits : (k : Token) → (k.closed ≡ None → is_digits false k.text ≡ false) → NoneBelow k (10 ^ 18)
not_digits k other n small free m =
    let digits : is_digits false k.text ≡ true = digits_in false k.text (decimal n) (own_text k n small m) (all_are false (decimal n) (all_digits n (omega (arith, small)))) in
    cc (digits, other free)

pub too_long : (k : Token) (least size : ℕ) → size ≡ length k.text → ((n : ℕ) → n < least → (n < 10 ^ 18) × (length (decimal n) < size)) → NoneBelow k least
too_long k least size is few n below free m =
    let short = few n below in
    omega (arith, is, short.1, around_long k.text (decimal n) (own_text k n short.0 m))

-- ---- a bound of the words of all numbers

pub bound_none : (tokens : List Token) → IsBound tokens 0
bound_none tokens = record { whole = λ n below. absurd (omega (arith, below)); decimal = λ word below. absurd (omega (arith, below)) }

pub bound_is : (tokens : List Token) (least : ℕ) → IsLeast tokens least → All (λ k. k.closed ≡ None → is_number_part true k.text ≡ true → is_plain k.text ≡ true) tokens → IsBound tokens least
bound_is tokens least below_least plain = record {
  whole = below_least;
  decimal = λ word below text is.
      let number : ℕ = word / 2 ^ 8 % 2 ^ 54 in
      let small : number ≤ word = omega arith in
      told_marks tokens word number 0 refl (below_least number (omega (arith, small, below))) plain text is;
}
