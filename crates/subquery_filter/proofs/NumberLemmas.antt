-- Which texts may stand in the texts of numbers.
use Rattle.std.proofs.Common.{◌≡◌, ℕ, suc, ◌<◌, Bool, true, false, cond, List, [], ◌∷◌, ◌++◌, refl, sym, ◌∙◌, ap, subst, arith, inl, inr, nat_le}
use Rattle.std.specs.Prelude.{◌==◌, ◌&&◌, ℤ, pos, negsuc, All, None, slice_index_or}
use Rattle.std.specs.Char.{digit_value}
use Rattle.std.specs.Fmt.{decimal, signed_decimal, sign_text}
use Rattle.std.specs.Int.{cast_signed, cast_unsigned, is_in_range, w64}
use Rattle.std.specs.Str.Parse.{AllDigits}
use Rattle.std.proofs.lemmas.Bool.Decides.{nat_tests}
use Rattle.std.proofs.lemmas.Str.Parse.{digit_from_value}
use Rattle.std.proofs.lemmas.Int.{to_z-of_z}
use Rattle.var_codec.specs.Codes.{Codes}
use Rattle.var_codec.specs.declared.Coded.TheVariants.{Whole as WholeWord, Decimal as DecimalWord}
use Rattle.var_codec.proofs.Texts.{all_digits}
use Rattle.var_codec.specs.declared.Coded.{Coded}
use Rattle.var_codec.specs.Laws.{OneWord}
use Rattle.row_codec.specs.Means.{HasWord}
use Rattle.logtype_text.specs.declared.symbols.Kind.{Kind}
use Rattle.logtype_text.specs.declared.symbols.Kind.TheVariants.{Whole, Word, Decimal}
use Rattle.wild_match.specs.Matches.{Match}
use Rattle.wild_match.specs.declared.pattern.Item.TheVariants.{Many}
use Rattle.query_plan.specs.Needs.{around}
use Rattle.query_plan.specs.Pieces.{bytes}
use Rattle.subquery_filter.specs.declared.token.Token.{Token}
use Rattle.subquery_filter.specs.Filter.{MarksOpen}
use Rattle.subquery_filter.specs.NumberText.{is_digits, is_number_part}

-- ---- fronts and rests of digits

-- with a point allowed, all is allowed that is so without
more_by : (digit point_here same other : Bool) → cond digit same ((false && point_here) && other) ≡ true → (digit ≡ true) × (same ≡ true)
more_by true h same other is = (refl, is)
more_by false h same other is = absurd (cc is)

with_point : (t : List ℕ) → is_digits false t ≡ true → is_digits true t ≡ true
with_point [] is = refl
with_point (b ∷ t) is =
    let both = more_by (is_in_range 48 57 b) (b == 46) (is_digits false t) (is_digits false t) is in
    ap (λ d. cond d (is_digits true t) ((true && (b == 46)) && is_digits false t)) both.0 ∙ with_point t both.1

any_point : (point : Bool) (t : List ℕ) → is_digits false t ≡ true → is_digits point t ≡ true
any_point true t is = with_point t is
any_point false t is = is

-- the rest of digits behind one byte
rest_by : (digit here same other want : Bool) → cond digit same (here && other) ≡ true → (same ≡ true → want ≡ true) → (other ≡ true → want ≡ true) → want ≡ true
rest_by true here same other want is one two = one is
rest_by false true same other want is one two = two is
rest_by false false same other want is one two = absurd (cc is)

digits_rest : (point : Bool) (b : ℕ) (t : List ℕ) → is_digits point (b ∷ t) ≡ true → is_digits point t ≡ true
digits_rest point b t is =
    rest_by (is_in_range 48 57 b) (point && (b == 46)) (is_digits point t) (is_digits false t) (is_digits point t) is (λ e. e) (λ e. any_point point t e)

-- the front of digits
front_by : (digit here same other same_front other_front : Bool) → cond digit same (here && other) ≡ true → (same ≡ true → same_front ≡ true) → (other ≡ true → other_front ≡ true)
    → cond digit same_front (here && other_front) ≡ true
front_by true here same other same_front other_front is one two = one is
front_by false true same other same_front other_front is one two = two is
front_by false false same other same_front other_front is one two = is

digits_front : (point : Bool) (t s : List ℕ) → Match (bytes t (Many ∷ [])) s → is_digits point s ≡ true → is_digits point t ≡ true
digits_front point [] s m is = refl
digits_front point (b ∷ t) [] m is = absurd m
digits_front point (b ∷ t) (c ∷ s) m is =
    front_by (is_in_range 48 57 b) (point && (b == 46)) (is_digits point s) (is_digits false s) (is_digits point t) (is_digits false t)
    (subst (λ x. is_digits point (x ∷ s) ≡ true) m.0 is) (λ e. digits_front point t s m.1 e) (λ e. digits_front false t s m.1 e)

pub digits_in : (point : Bool) (t s : List ℕ) → Match (around t) s → is_digits point s ≡ true → is_digits point t ≡ true
digits_in point t [] m is = digits_front point t [] m is
digits_in point t (c ∷ s) (inl m) is = digits_front point t (c ∷ s) m is
digits_in point t (c ∷ s) (inr m) is = digits_in point t s m (digits_rest point c s is)

sign_is : (b : ℕ) → (b == 45) ≡ true → b ≡ 45
sign_is b is = grind (arith, nat_tests)

-- digits have no sign
no_sign : (point : Bool) (b : ℕ) (t : List ℕ) → is_digits point (b ∷ t) ≡ true → (b == 45) ≡ true → false ≡ true
no_sign true b t is sign = subst (λ x. is_digits true (x ∷ t) ≡ true) (sign_is b sign) is
no_sign false b t is sign = subst (λ x. is_digits false (x ∷ t) ≡ true) (sign_is b sign) is

part_by : (point e : Bool) (b : ℕ) (t : List ℕ) → (b == 45) ≡ e → is_digits point (b ∷ t) ≡ true → is_digits point (cond e t (b ∷ t)) ≡ true
part_by point true b t sign is = absurd (cc (no_sign point b t is sign))
part_by point false b t sign is = is

-- digits are unsigned
digits_part : (point : Bool) (t : List ℕ) → is_digits point t ≡ true → is_number_part point t ≡ true
digits_part point [] is = refl
digits_part point (b ∷ t) is = part_by point (b == 45) b t refl is

signed_by : (point e : Bool) (b : ℕ) (t s : List ℕ) → (b == 45) ≡ e → b ≡ 45 → Match (bytes t (Many ∷ [])) s → is_digits point s ≡ true → is_digits point (cond e t (b ∷ t)) ≡ true
signed_by point true b t s sign is m digits = digits_front point t s m digits
signed_by point false b t s sign is m digits = absurd (cc (sign, ap (λ x. x == 45) is))

-- behind a sign
signed_part : (point : Bool) (t s : List ℕ) → Match (around t) (45 ∷ s) → is_digits point s ≡ true → is_number_part point t ≡ true
signed_part point [] s m is = refl
signed_part point (b ∷ t) s (inl m) is = signed_by point (b == 45) b t s refl (sym m.0) m.1 is
signed_part point (b ∷ t) s (inr m) is = digits_part point (b ∷ t) (digits_in point (b ∷ t) s m is)

pub number_part : (point negative : Bool) (t s : List ℕ) → Match (around t) (sign_text negative ++ s) → is_digits point s ≡ true → is_number_part point t ≡ true
number_part point true t s m is = signed_part point t s m is
number_part point false t s m is = digits_part point t (digits_in point t s m is)

-- ---- the texts of numbers

in_range : (c : ℕ) → digit_value c < 10 → is_in_range 48 57 c ≡ true
in_range c lt =
    let within = digit_from_value c lt in
    let digit : (nat_le 48 c && nat_le c 57) ≡ true = grind (arith, nat_tests, within) in digit

pub all_are : (point : Bool) (s : List ℕ) → AllDigits 10 s → is_digits point s ≡ true
all_are point [] d = refl
all_are point (c ∷ s) d = ap (λ x. cond x (is_digits point s) ((point && (c == 46)) && is_digits false s)) (in_range c d.0) ∙ all_are point s d.1

pub pointed : (before after : List ℕ) → AllDigits 10 before → AllDigits 10 after → is_digits true (before ++ (46 ∷ after)) ≡ true
pointed [] after none d = all_are false after d
pointed (c ∷ before) after b d =
    ap (λ x. cond x (is_digits true (before ++ (46 ∷ after))) ((true && (c == 46)) && is_digits false (before ++ (46 ∷ after)))) (in_range c b.0) ∙ pointed before after b.1 d

whole_signed : (t : List ℕ) (n : ℤ) → Codes (signed_decimal n) (WholeWord n) → Match (around t) (signed_decimal n) → is_number_part false t ≡ true
whole_signed t (pos n) is m = number_part false false t (decimal n) m (all_are false (decimal n) (all_digits n (omega (arith, is.fits.sfits))))
whole_signed t (negsuc n) is m = number_part false true t (decimal (suc n)) m (all_are false (decimal (suc n)) (all_digits (suc n) (omega (arith, is.fits.sfits))))

pub whole_part : (t text : List ℕ) (n : ℤ) → Codes text (WholeWord n) → Match (around t) text → is_number_part false t ≡ true
whole_part t text n is m = whole_signed t n (subst (λ x. Codes x (WholeWord n)) is.prints is) (subst (Match (around t)) is.prints m)

pub decimal_part : (t text : List ℕ) (word : ℕ) → Codes text (DecimalWord word) → Match (around t) text → is_number_part true t ≡ true
decimal_part t text word is m =
    number_part true is.parts.negative t (is.parts.before ++ (46 ∷ is.parts.after)) (subst (Match (around t)) is.prints m)
    (pointed is.parts.before is.parts.after is.decimal.before is.decimal.after.1)

-- ---- the bits of kinds

pub whole_stands : (words : List (List ℕ)) (kind : Kind) (t text : List ℕ) (word : ℕ) → kind ≡ Whole → HasWord words kind text word → Match (around t) text → is_number_part false t ≡ true
whole_stands words kind t text word is has m =
    let (n, coded, packs) = subst (λ (k : Kind). HasWord words k text word) is has in whole_part t text n coded m

pub decimal_stands : (words : List (List ℕ)) (kind : Kind) (t text : List ℕ) (word : ℕ) → kind ≡ Decimal → HasWord words kind text word → Match (around t) text → is_number_part true t ≡ true
decimal_stands words kind t text word is has m = decimal_part t text word (subst (λ (k : Kind). HasWord words k text word) is has) m

-- the kind of a variable is that of what its text is stored as
whole_kind : OneWord → (words : List (List ℕ)) (kind : Kind) (text : List ℕ) (word : ℕ) (n : ℤ) → HasWord words kind text word → Codes text (WholeWord n) → kind ≡ Whole
whole_kind one words Whole text word n has coded = refl
whole_kind one words Decimal text word n has coded = absurd (let e : DecimalWord word ≡ WholeWord n = one text (DecimalWord word) (WholeWord n) has coded in cc)
whole_kind one words Word text word n has coded = absurd (has.0.0 n coded)

pub is_whole_kind : OneWord → (words : List (List ℕ)) (kind : Kind) (text : List ℕ) (word : ℕ) (code : Coded) (n : ℤ) → code ≡ WholeWord n → HasWord words kind text word → Codes text code → kind ≡ Whole
is_whole_kind one words kind text word code n is has coded = whole_kind one words kind text word n has (subst (Codes text) is coded)

decimal_kind : OneWord → (words : List (List ℕ)) (kind : Kind) (text : List ℕ) (word w : ℕ) → HasWord words kind text word → Codes text (DecimalWord w) → kind ≡ Decimal
decimal_kind one words Decimal text word w has coded = refl
decimal_kind one words Whole text word w (n, is, packs) coded = absurd (let e : WholeWord n ≡ DecimalWord w = one text (WholeWord n) (DecimalWord w) is coded in cc)
decimal_kind one words Word text word w has coded = absurd (has.0.1 w coded)

pub is_decimal_kind : OneWord → (words : List (List ℕ)) (kind : Kind) (text : List ℕ) (word : ℕ) (code : Coded) (w : ℕ) → code ≡ DecimalWord w → HasWord words kind text word → Codes text code → kind ≡ Decimal
is_decimal_kind one words kind text word code w is has coded = decimal_kind one words kind text word w has (subst (Codes text) is coded)

pub stands_in : (k : Token) (text : List ℕ) → Match k.matcher.items text → Match (around k.text) text
stands_in k text m = subst (λ x. Match x text) (k.same ∙ k.stands) m

-- without a point no less than with one
pub any_part : (t : List ℕ) → is_number_part false t ≡ true → is_number_part true t ≡ true
any_part [] is = refl
any_part (b ∷ t) is = part_more (b == 45) b t refl is
  where
    part_more : (e : Bool) (b : ℕ) (t : List ℕ) → (b == 45) ≡ e → is_digits false (cond e t (b ∷ t)) ≡ true → is_digits true (cond e t (b ∷ t)) ≡ true
    part_more true b t sign digits = with_point t digits
    part_more false b t sign digits = with_point (b ∷ t) digits

-- ---- the texts of words

pub whole_is : (text : List ℕ) (n : ℤ) (word : ℕ) → Codes text (WholeWord n) → word ≡ cast_unsigned w64 n → text ≡ signed_decimal (cast_signed w64 word)
whole_is text n word is packs = is.prints ∙ ap signed_decimal (sym (to_z-of_z w64 n is.fits)) ∙ ap (λ w. signed_decimal (cast_signed w64 w)) (sym packs)

-- a whole number is stored as the word that is read as signed
pub whole_coded : (text : List ℕ) (n : ℤ) (word : ℕ) → Codes text (WholeWord n) → word ≡ cast_unsigned w64 n → Codes text (WholeWord (cast_signed w64 word))
whole_coded text n word is packs = subst (λ (m : ℤ). Codes text (WholeWord m)) (sym (ap (cast_signed w64) packs ∙ to_z-of_z w64 n is.fits)) is

-- where no open token may stand in a number, none has to be looked for in one
pub open_none : (tokens : List Token) (text : List ℕ) (bits : ℕ) → All (λ k. k.closed ≡ None → is_number_part true k.text ≡ false) tokens → ((t : List ℕ) → Match (around t) text → is_number_part true t ≡ true)
    → MarksOpen tokens text bits
open_none tokens text bits none part j d lt free m =
    let k : Token = slice_index_or tokens j d in
    absurd (let e : true ≡ false = sym (part k.text (stands_in k text m)) ∙ none j d lt free in cc)
