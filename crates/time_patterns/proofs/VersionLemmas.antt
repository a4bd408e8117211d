-- The laws of the stamps that messages have in a version.
use Rattle.std.proofs.Common.{◌≡◌, ℕ, zero, suc, ◌-◌, ◌<◌, ◌≤◌, ◌⊎◌, true, false, inl, inr, List, [], ◌∷◌, ◌++◌, length, take, drop, ℤ, refl, sym, ap, ◌∙◌, subst, arith, append_assoc, take-append-drop}
use Rattle.std.specs.Prelude.{◌↔◌, if◌then◌else◌, nat_le}
use Rattle.std.proofs.lemmas.Bool.{cases_lt}
use Rattle.std.proofs.lemmas.Bool.Decides.{nat_tests}
use Rattle.std.proofs.lemmas.List.{length-append}
use Rattle.std.specs.List.{AllByRecursion}
use Rattle.std.proofs.lemmas.List.Elements.{recursion_from_All}
use Rattle.token_rules.specs.Tokens.{is_token_byte, IsDelimiter}
use Rattle.time_patterns.specs.Laws.{OneStampOf, ReadsBack, FrontTells, FirstLineTells, AlikeVersions}
use Rattle.time_patterns.specs.Stamps.{EndsStamp, Fits, HasStamp, IsPatternOf, IsStampOf, Prints}
use Rattle.time_patterns.proofs.DigitLemmas.{append_split}
use Rattle.time_patterns.proofs.LawLemmas.{IsByte, one_moment, same_length, short_texts}

one_of : (version : ℕ) (line : List ℕ) (k j : ℕ) (m l : ℤ) (n o : ℕ) → IsStampOf version line k m n → IsStampOf version line j l o → (k ≡ j) × (m ≡ l) × (n ≡ o)
one_of version line k j m l n o a b =
    let same : k ≡ j = elim (cases_lt k j) [
      | inl lt ↦ absurd (b.least k m n a.pattern lt a.fits)
      | inr ge ↦ elim (cases_lt j k) [ inl gt ↦ absurd (a.least j l o b.pattern gt b.fits) | inr le ↦ omega arith ]
    ] in
    let mine = a.fits in
    let theirs : Fits line k l o = rw same b.fits in
    let long = same_length k m l mine.0 theirs.0 mine.1 theirs.1 in
    let split = append_split mine.0 theirs.0 mine.2.0 theirs.2.0 (sym mine.2.1 ∙ theirs.2.1) long in
    let text : Prints k l mine.0 = rw split.0 theirs.1 in
    (same, one_moment k m l mine.0 mine.1 text, sym mine.2.3 ∙ long ∙ theirs.2.3)

pub one_stamp_of : OneStampOf
one_stamp_of version line zero zero m l n o a b = (refl, a.1 ∙ sym b.1, a.2 ∙ sym b.2)
one_stamp_of version line zero (suc j) m l n o a b = absurd (a.0 (suc j) l o b.pattern b.fits)
one_stamp_of version line (suc k) zero m l n o a b = absurd (b.0 (suc k) m n a.pattern a.fits)
one_stamp_of version line (suc k) (suc j) m l n o a b = one_of version line (suc k) (suc j) m l n o a b

pub reads_back : ReadsBack
reads_back version k m text rest is printed ends least = record {
  pattern = is;
  fits = (text, printed, (rest, refl, ends, refl));
  least = least;
}

-- where the same patterns of two versions fit two messages in the same way, they have the same stamps
has_stamp_alike : (version other : ℕ) (line copy : List ℕ)
    → ((k : ℕ) → IsPatternOf version k → IsPatternOf other k) → ((k : ℕ) → IsPatternOf other k → IsPatternOf version k)
    → ((k : ℕ) (m : ℤ) (n : ℕ) → Fits line k m n → Fits copy k m n) → ((k : ℕ) (m : ℤ) (n : ℕ) → Fits copy k m n → Fits line k m n)
    → (k : ℕ) (m : ℤ) (n : ℕ) → HasStamp version line k m n → HasStamp other copy k m n
has_stamp_alike version other line copy on back to from zero m n has = (λ j l o is fits. has.0 j l o (back j is) (from j l o fits), has.1, has.2)
has_stamp_alike version other line copy on back to from (suc k) m n has = record {
  pattern = on (suc k) has.pattern;
  fits = to (suc k) m n has.fits;
  least = λ j l o is lt fits. has.least j l o (back j is) lt (from j l o fits);
}

three : (n : ℕ) → ((n < 3) × (nat_le 3 n ≡ false)) ⊎ ((3 ≤ n) × (nat_le 3 n ≡ true))
three n = elim (cases_lt n 3) [ inl lt ↦ inl (lt, grind (arith, nat_tests)) | inr ge ↦ inr (ge, grind (arith, nat_tests)) ]

same_side : (version other : ℕ) → (version < 3 ↔ other < 3) → nat_le 3 version ≡ nat_le 3 other
same_side version other same =
    elim (three version) [
      | inl low ↦ elim (three other) [ inl lower ↦ low.1 ∙ sym lower.1 | inr high ↦ let under = same.0 low.0 in absurd (omega (arith, high.0)) ]
      | inr high ↦ elim (three other) [ inl low ↦ let under = same.1 low.0 in absurd (omega (arith, high.0)) | inr higher ↦ high.1 ∙ sym higher.1 ]
    ]

patterns_alike : (version other : ℕ) → nat_le 3 version ≡ nat_le 3 other → (k : ℕ) → IsPatternOf version k → IsPatternOf other k
patterns_alike version other same k is = subst (λ b. ((if b then 11 else 1) ≤ k) × (k ≤ (if b then 26 else 10))) same is

pub alike_versions : AlikeVersions
alike_versions version other line k m n same =
    let side = same_side version other same in
    has_stamp_alike version other line line (patterns_alike version other side) (patterns_alike other version (sym side)) (λ j l o h. h) (λ j l o h. h) k m n

-- what ends a stamp, with more behind it where something is there
ends_longer : (rest more : List ℕ) → (rest ≡ [] → more ≡ []) → EndsStamp rest → EndsStamp (rest ++ more)
ends_longer [] more none ends = rw (none refl) tt
ends_longer (b ∷ rest) more none ends = ends

ends_shorter : (n : ℕ) (rest : List ℕ) → 0 < n → EndsStamp rest → EndsStamp (take n rest)
ends_shorter zero rest h ends = absurd (omega arith)
ends_shorter (suc n) [] h ends = tt
ends_shorter (suc n) (b ∷ rest) h ends = ends

no_more : (line : List ℕ) (n m : ℕ) → length (take n line) ≤ m → m < n → drop n line ≡ []
no_more [] zero m short lt = absurd (omega arith)
no_more [] (suc n) m short lt = refl
no_more (b ∷ line) zero m short lt = absurd (omega arith)
no_more (b ∷ line) (suc n) zero short lt = absurd (omega arith)
no_more (b ∷ line) (suc n) (suc m) short lt = no_more line n m (omega arith) (omega arith)

take_past : (n : ℕ) (text rest : List ℕ) → length text ≤ n → take n (text ++ rest) ≡ text ++ take (n - length text) rest
take_past n [] rest h = let e : n ≡ n - 0 = omega arith in ap (λ j. take j rest) e
take_past zero (b ∷ text) rest h = absurd (omega arith)
take_past (suc n) (b ∷ text) rest h =
    let e : n - length text ≡ suc n - length (b ∷ text) = omega arith in
    ap (λ l. b ∷ l) (take_past n text rest (omega arith)) ∙ ap (λ j. b ∷ (text ++ take j rest)) e

front_fits : (line : List ℕ) (k : ℕ) (m : ℤ) (n : ℕ) → Fits (take 32 line) k m n → Fits line k m n
front_fits line k m n fits =
    let text = fits.0 in
    let rest = fits.2.0 in
    let more = drop 32 line in
    let short = short_texts k m text fits.1 in
    let whole : line ≡ text ++ (rest ++ more) = sym (take-append-drop 32 line) ∙ ap (λ l. l ++ more) fits.2.1 ∙ append_assoc text rest more in
    let none : rest ≡ [] → more ≡ [] = λ e.
    let long : length (take 32 line) ≤ 28 = omega (arith, ap length fits.2.1, length-append text rest, ap length e, short.1) in
    no_more line 32 28 long (omega arith) in
    (text, fits.1, (rest ++ more, whole, ends_longer rest more none fits.2.2, fits.2.3))

fits_front : (line : List ℕ) (k : ℕ) (m : ℤ) (n : ℕ) → Fits line k m n → Fits (take 32 line) k m n
fits_front line k m n fits =
    let text = fits.0 in
    let rest = fits.2.0 in
    let short = short_texts k m text fits.1 in
    let cut : take 32 line ≡ text ++ take (32 - length text) rest = ap (take 32) fits.2.1 ∙ take_past 32 text rest (omega (arith, short.1)) in
    (text, fits.1, (take (32 - length text) rest, cut, ends_shorter (32 - length text) rest (omega (arith, short.1)) fits.2.2, fits.2.3))

pub front_tells : FrontTells
front_tells version line k m n = (
  has_stamp_alike version version (take 32 line) line (λ j h. h) (λ j h. h) (front_fits line) (fits_front line) k m n,
  has_stamp_alike version version line (take 32 line) (λ j h. h) (λ j h. h) (fits_front line) (front_fits line) k m n,
)

-- a text without a newline that stands before one stands before the first
front_of_text : (text r line more : List ℕ) → AllByRecursion IsByte text → text ++ r ≡ line ++ 10 ∷ more → (rest : List ℕ) × (line ≡ text ++ rest) × (r ≡ rest ++ 10 ∷ more)
front_of_text [] r line more all e = (line, refl, e)
front_of_text (b ∷ text) r [] more all e =
    let newline : b ≡ 10 = cc in
    let bad : IsByte 10 = subst IsByte newline all.0 in
    absurd (cc bad)
front_of_text (b ∷ text) r (c ∷ line) more all e =
    let tails : text ++ r ≡ line ++ 10 ∷ more = cc in
    let first : b ≡ c = cc in
    let found = front_of_text text r line more all.1 tails in
    let whole : c ∷ line ≡ b ∷ (text ++ found.0) = cc (first, found.1) in
    (found.0, whole, found.2)

newline_delimits : IsDelimiter 10
unfolding is_token_byte
newline_delimits = refl

ends_line : (rest more : List ℕ) → EndsStamp rest → EndsStamp (rest ++ 10 ∷ more)
ends_line [] more ends = newline_delimits
ends_line (b ∷ rest) more ends = ends

ends_whole : (rest more : List ℕ) → EndsStamp (rest ++ 10 ∷ more) → EndsStamp rest
ends_whole [] more ends = tt
ends_whole (b ∷ rest) more ends = ends

line_fits : (line more : List ℕ) (k : ℕ) (m : ℤ) (n : ℕ) → Fits line k m n → Fits (line ++ 10 ∷ more) k m n
line_fits line more k m n fits =
    let text = fits.0 in
    let rest = fits.2.0 in
    let whole : line ++ 10 ∷ more ≡ text ++ (rest ++ 10 ∷ more) = ap (λ l. l ++ 10 ∷ more) fits.2.1 ∙ append_assoc text rest (10 ∷ more) in
    (text, fits.1, (rest ++ 10 ∷ more, whole, ends_line rest more fits.2.2, fits.2.3))

fits_line : (line more : List ℕ) (k : ℕ) (m : ℤ) (n : ℕ) → Fits (line ++ 10 ∷ more) k m n → Fits line k m n
fits_line line more k m n fits =
    let text = fits.0 in
    let bytes = recursion_from_All IsByte text (short_texts k m text fits.1).2 in
    let found = front_of_text text fits.2.0 line more bytes (sym fits.2.1) in
    (text, fits.1, (found.0, found.1, ends_whole found.0 more (subst EndsStamp found.2 fits.2.2), fits.2.3))

pub first_line_tells : FirstLineTells
first_line_tells version line more k m n = (
  has_stamp_alike version version line (line ++ 10 ∷ more) (λ j h. h) (λ j h. h) (line_fits line more) (fits_line line more) k m n,
  has_stamp_alike version version (line ++ 10 ∷ more) line (λ j h. h) (λ j h. h) (fits_line line more) (line_fits line more) k m n,
)
