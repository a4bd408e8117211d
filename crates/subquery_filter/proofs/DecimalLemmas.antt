-- Digits stand in the text of a decimal only where they stand in its digits read as one number.
use Rattle.std.proofs.Common.{◌≡◌, ℕ, zero, suc, ◌-◌, ◌<◌, ◌/◌, ◌%◌, ◌^◌, Bool, true, false, cond, List, [], ◌∷◌, ◌++◌, length, drop, replicate, refl, sym, ◌∙◌, ap, subst, arith, inl, inr}
use Rattle.std.specs.Prelude.{◌⊎◌, ◌&&◌, All, None, slice_index_or}
use Rattle.std.specs.Fmt.{decimal, sign_text, signed_decimal}
use Rattle.std.specs.Int.{cast_signed, is_in_range, w64}
use Rattle.std.proofs.lemmas.Bool.Decides.{nat_tests}
use Rattle.std.proofs.lemmas.Int.{to_z_pos}
use Rattle.var_codec.specs.Codes.{Codes, IsDecimalText, digits_of}
use Rattle.var_codec.specs.Fields.{padded}
use Rattle.var_codec.specs.declared.Coded.TheVariants.{Decimal as DecimalWord}
use Rattle.var_codec.proofs.Printed.{digits_in, has_digits_in}
use Rattle.var_codec.proofs.Words.{digits-append, has_fields, same_digits, value_small}
use Rattle.wild_match.specs.Matches.{Match}
use Rattle.wild_match.specs.declared.pattern.Item.TheVariants.{Many}
use Rattle.query_plan.specs.Needs.{around}
use Rattle.query_plan.specs.Pieces.{bytes}
use Rattle.subquery_filter.specs.declared.token.Token.{Token}
use Rattle.subquery_filter.specs.Filter.{MarksOpen}
use Rattle.subquery_filter.specs.NumberText.{is_digits, is_number_part, is_plain}
use Rattle.subquery_filter.proofs.NumberLemmas.{decimal_part, stands_in}

-- ---- digits

and_both : (a b : Bool) → (a && b) ≡ true → (a ≡ true) × (b ≡ true)
and_both true b is = (refl, is)
and_both false b is = absurd (cc is)

digit_first : (b : ℕ) (t : List ℕ) → is_digits false (b ∷ t) ≡ true → (is_in_range 48 57 b ≡ true) × (is_digits false t ≡ true)
digit_first b t is = by (is_in_range 48 57 b) refl
  where
    by : (e : Bool) → is_in_range 48 57 b ≡ e → (is_in_range 48 57 b ≡ true) × (is_digits false t ≡ true)
    by true digit = (digit, ap (λ x. cond x (is_digits false t) ((false && false) && is_digits false t)) (sym digit) ∙ is)
    by false digit = absurd (let e : false ≡ true = ap (λ x. cond x (is_digits false t) ((false && false) && is_digits false t)) (sym digit) ∙ is in cc)

-- ---- a text within another

many : (s : List ℕ) → Match (Many ∷ []) s
many [] = refl
many (c ∷ s) = inr (many s)

here : (t s : List ℕ) → Match (bytes t (Many ∷ [])) s → Match (around t) s
here t [] m = m
here t (c ∷ s) m = inl m

front_more : (t u v : List ℕ) → Match (bytes t (Many ∷ [])) u → Match (bytes t (Many ∷ [])) (u ++ v)
front_more [] u v m = many (u ++ v)
front_more (b ∷ t) [] v m = absurd m
front_more (b ∷ t) (c ∷ u) v m = (m.0, front_more t u v m.1)

around_left : (t u v : List ℕ) → Match (around t) u → Match (around t) (u ++ v)
around_left t [] v m = here t v (front_more t [] v m)
around_left t (c ∷ u) v (inl m) = inl (front_more t (c ∷ u) v m)
around_left t (c ∷ u) v (inr m) = inr (around_left t u v m)

around_right : (t u v : List ℕ) → Match (around t) v → Match (around t) (u ++ v)
around_right t [] v m = m
around_right t (c ∷ u) v m = inr (around_right t u v m)

around_drop : (t : List ℕ) (n : ℕ) (s : List ℕ) → Match (around t) (drop n s) → Match (around t) s
around_drop t zero s m = m
around_drop t (suc n) [] m = m
around_drop t (suc n) (c ∷ s) m = inr (around_drop t n s m)

-- ---- digits do not lie over the point

front_before : (t u v : List ℕ) → is_digits false t ≡ true → Match (bytes t (Many ∷ [])) (u ++ 46 ∷ v) → Match (bytes t (Many ∷ [])) u
front_before [] u v is m = many u
front_before (b ∷ t) [] v is m = absurd (let d = (digit_first b t is).0 in let e : is_in_range 48 57 46 ≡ true = ap (is_in_range 48 57) m.0 ∙ d in cc e)
front_before (b ∷ t) (c ∷ u) v is m = (m.0, front_before t u v (digit_first b t is).1 m.1)

plain_digits : (b : ℕ) (t : List ℕ) → is_plain (b ∷ t) ≡ true → is_digits false (b ∷ t) ≡ true
plain_digits b t is =
    let both = and_both (is_in_range 49 57 b) (is_digits false t) is in
    let digit : is_in_range 48 57 b ≡ true = wider b both.0 in
    ap (λ x. cond x (is_digits false t) ((false && false) && is_digits false t)) digit ∙ both.1
  where
    wider : (b : ℕ) → is_in_range 49 57 b ≡ true → is_in_range 48 57 b ≡ true
    wider b is = grind (arith, nat_tests)

beside_point : (t u v : List ℕ) → is_plain t ≡ true → Match (around t) (u ++ 46 ∷ v) → Match (around t) u ⊎ Match (around t) v
beside_point [] u v is m = absurd (cc is)
beside_point (b ∷ t) [] v is (inl m) = absurd (let d = (digit_first b t (plain_digits b t is)).0 in let e : is_in_range 48 57 46 ≡ true = ap (is_in_range 48 57) m.0 ∙ d in cc e)
beside_point (b ∷ t) [] v is (inr m) = inr m
beside_point (b ∷ t) (c ∷ u) v is (inl m) = inl (inl (front_before (b ∷ t) (c ∷ u) v (plain_digits b t is) m))
beside_point (b ∷ t) (c ∷ u) v is (inr m) = elim (beside_point (b ∷ t) u v is m) [
  | inl left ↦ inl (inr left)
  | inr right ↦ inr right
]

-- a sign is no digit
behind_sign : (t : List ℕ) (negative : Bool) (s : List ℕ) → is_plain t ≡ true → Match (around t) (sign_text negative ++ s) → Match (around t) s
behind_sign t false s is m = m
behind_sign [] true s is m = absurd (cc is)
behind_sign (b ∷ t) true s is (inl m) = absurd (let d = (digit_first b t (plain_digits b t is)).0 in let e : is_in_range 48 57 45 ≡ true = ap (is_in_range 48 57) m.0 ∙ d in cc e)
behind_sign (b ∷ t) true s is (inr m) = m

-- nor is a zero in front the first of these
behind_zeros : (t : List ℕ) (n : ℕ) (s : List ℕ) → is_plain t ≡ true → Match (around t) (replicate n 48 ++ s) → Match (around t) s
behind_zeros t zero s is m = m
behind_zeros [] (suc n) s is m = absurd (cc is)
behind_zeros (b ∷ t) (suc n) s is (inl m) =
    absurd (let d = (and_both (is_in_range 49 57 b) (is_digits false t) is).0 in let e : is_in_range 49 57 48 ≡ true = ap (is_in_range 49 57) m.0 ∙ d in cc e)
behind_zeros (b ∷ t) (suc n) s is (inr m) = behind_zeros (b ∷ t) n s is m

-- ---- in a decimal

pub plain_decimal : (t text : List ℕ) (word : ℕ) → is_plain t ≡ true → IsDecimalText text word → Match (around t) text → Match (around t) (decimal (word / 2 ^ 8 % 2 ^ 54))
plain_decimal t text word is d m =
    let p = d.parts in
    let number : ℕ = word / 2 ^ 8 % 2 ^ 54 in
    let f = has_fields p word d.decimal d.packs in
    let whole = digits_of p in
    let own : Match (around t) whole = elim (beside_point t p.before p.after is (behind_sign t p.negative (p.before ++ 46 ∷ p.after) is (subst (Match (around t)) d.prints m))) [
      | inl left ↦ around_left t p.before p.after left
      | inr right ↦ around_right t p.before p.after right
    ] in
    let small : number < 10 ^ length whole = subst (λ (n : ℕ). n < 10 ^ length whole) (sym f.value) (value_small p d.decimal) in
    let h = has_digits_in (length whole) number (omega (arith, f.count)) d.decimal.most small in
    let same : whole ≡ digits_in (length whole) number =
    same_digits whole (digits_in (length whole) number) (digits-append p.before p.after d.decimal.before d.decimal.after.1) h.digits (sym h.long) (sym f.value ∙ sym h.value) in
    behind_zeros t (16 - length (decimal number)) (decimal number) is (around_drop t (16 - length whole) (padded number) (subst (Match (around t)) same own))

-- ---- by what is told of its digits read as one number

pub not_pointed : (k : Token) → k.plain ≡ true → is_plain k.text ≡ true
not_pointed k plain = sym k.plain_is ∙ plain

pub not_number : (k : Token) → k.numeric ≡ false → k.closed ≡ None → is_number_part true k.text ≡ true → is_plain k.text ≡ true
not_number k never closed part = absurd (let e : true ≡ false = sym part ∙ k.numeric_is never closed in cc)

pub small_signed : (n : ℕ) → n < 2 ^ 63 → signed_decimal (cast_signed w64 n) ≡ decimal n
small_signed n small = ap signed_decimal (to_z_pos w64 n small)

pub told_marks : (tokens : List Token) (word number bits : ℕ) → number ≡ word / 2 ^ 8 % 2 ^ 54 → MarksOpen tokens (signed_decimal (cast_signed w64 number)) bits
    → All (λ k. k.closed ≡ None → is_number_part true k.text ≡ true → is_plain k.text ≡ true) tokens → (text : List ℕ) → Codes text (DecimalWord word) → MarksOpen tokens text bits
told_marks tokens word number bits number_is marks plain text is j d lt free m =
    let k : Token = slice_index_or tokens j d in
    let stands : Match (around k.text) text = stands_in k text m in
    let own : Match (around k.text) (decimal (word / 2 ^ 8 % 2 ^ 54)) = plain_decimal k.text text word (plain j d lt free (decimal_part k.text text word is stands)) is stands in
    let whole : Match (around k.text) (decimal number) = subst (λ (n : ℕ). Match (around k.text) (decimal n)) (sym number_is) own in
    marks j d lt free
    (subst (λ x. Match x (signed_decimal (cast_signed w64 number))) (sym (k.same ∙ k.stands)) (subst (Match (around k.text)) (sym (small_signed number (omega (arith, number_is)))) whole))
