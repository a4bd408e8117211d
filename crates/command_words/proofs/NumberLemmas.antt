-- The number that a text is the print of.
use Rattle.std.proofs.Common.{◌≡◌, ℕ, ℤ, FitsSigned, w64, ◌<◌, ◌^◌, List, pos, sym, ap, ◌∙◌, rules}
use Rattle.std.specs.Prelude.{Some, Result, Ok, Err}
use Rattle.std.specs.Result.{OkIff, result_ok}
use Rattle.std.specs.Int.{FitsUnsignedBits}
use Rattle.std.specs.Fmt.{decimal, signed_decimal}
use Rattle.std.proofs.lemmas.Fmt.{signed_decimal_injective}
use Rattle.var_codec.specs.declared.Coded.{Coded}
use Rattle.var_codec.specs.declared.Coded.TheVariants.{Whole, Decimal, Word}
use Rattle.var_codec.specs.Codes.{Codes, IsWholeText}
use Rattle.var_codec.proofs.Texts.{whole_not_decimal}

pub whole : (text : List ℕ) (n : ℕ) → n < 2 ^ 63 → text ≡ decimal n → IsWholeText text (pos n)
whole text n small prints = record { fits = search rules; prints = prints }

-- the print of a number is coded as that number
pub coded_is : (text : List ℕ) (coded : Coded) (n : ℕ) → Codes text coded → n < 2 ^ 63 → text ≡ decimal n → coded ≡ Whole (pos n)
coded_is text (Whole z) n codes small prints = ap Whole (signed_decimal_injective z (pos n) codes.fits.sfits small (sym codes.prints ∙ prints))
coded_is text (Decimal word) n codes small prints = absurd (whole_not_decimal text (pos n) word (whole text n small prints) codes)
coded_is text Word n codes small prints = absurd (codes.0 (pos n) (whole text n small prints))

-- a number that is not negative stays itself
pub unsigned_is : {E : Type 0} (r : Result ℕ E) (n : ℕ) → n < 2 ^ 64 → OkIff r (FitsUnsignedBits 64 (pos n)) n → result_ok r ≡ Some n
unsigned_is (Ok x) n small is = ap Some is.1
unsigned_is (Err e) n small is = absurd (is (search rules))

-- and so is the print of a signed number
pub signed_is : (text : List ℕ) (coded : Coded) (z : ℤ) → Codes text coded → FitsSigned w64 z → text ≡ signed_decimal z → coded ≡ Whole z
signed_is text (Whole y) z codes fits prints = ap Whole (signed_decimal_injective y z codes.fits.sfits fits.sfits (sym codes.prints ∙ prints))
signed_is text (Decimal word) z codes fits prints = absurd (whole_not_decimal text z word (record { fits = fits; prints = prints }) codes)
signed_is text Word z codes fits prints = absurd (codes.0 z (record { fits = fits; prints = prints }))
