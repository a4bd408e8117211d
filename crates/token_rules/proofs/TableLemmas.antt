-- The table of classes is held against the definitions at each of the 256 bytes, by computing.
use Rattle.std.proofs.Common.{◌≡◌, ℕ, ◌+◌, ◌*◌, ◌/◌, ◌%◌, ◌<◌, Bool, true, not, ◌&&◌, ◌||◌, nat_lt, bit_and, bit_or, get_or, refl, sym, ◌∙◌, ap₂, arith}
use Rattle.std.proofs.lemmas.Bool.{agree_below, agree_below_at, ltb-true}
use Rattle.token_rules.specs.declared.classes.TheConstants.{CLASSES}
use Rattle.token_rules.specs.Classes.{meets}
use Rattle.token_rules.specs.Tokens.{is_token_byte, is_digit, is_letter, is_hexadecimal}

-- the byte's class
abbrev pub class_of : ℕ → ℕ
class_of b = get_or CLASSES b 0

pub class_of-small : (b : ℕ) → b < 256 → class_of b < 16
class_of-small b h = ltb-true _ _ (agree_below_at (λ b. nat_lt (class_of b) 16) (λ _. true) 256 b refl h)

pub class_of-delimiter : (b : ℕ) → b < 256 → meets (class_of b) 1 ≡ not (is_token_byte b)
unfolding is_token_byte meets
class_of-delimiter b h = agree_below_at (λ b. meets (class_of b) 1) (λ b. not (is_token_byte b)) 256 b refl h

pub class_of-digit : (b : ℕ) → b < 256 → meets (class_of b) 2 ≡ is_digit b
unfolding meets
class_of-digit b h = agree_below_at (λ b. meets (class_of b) 2) is_digit 256 b refl h

pub class_of-letter : (b : ℕ) → b < 256 → meets (class_of b) 4 ≡ is_letter b
unfolding meets
class_of-letter b h = agree_below_at (λ b. meets (class_of b) 4) is_letter 256 b refl h

pub class_of-hexadecimal : (b : ℕ) → b < 256 → meets (class_of b) 8 ≡ is_hexadecimal b
unfolding meets
class_of-hexadecimal b h = agree_below_at (λ b. meets (class_of b) 8) is_hexadecimal 256 b refl h

-- two tests on two numbers below 16 agree, where they do so at each of the 256 pairs
pairs : (f g : ℕ → ℕ → Bool) → agree_below (λ k. f (k / 16) (k % 16)) (λ k. g (k / 16) (k % 16)) 256 ≡ true → (a b : ℕ) → a < 16 → b < 16 → f a b ≡ g a b
pairs f g agree a b small_a small_b =
    let high : (a * 16 + b) / 16 ≡ a = omega arith in
    let low : (a * 16 + b) % 16 ≡ b = omega arith in
    let here = agree_below_at (λ k. f (k / 16) (k % 16)) (λ k. g (k / 16) (k % 16)) 256 (a * 16 + b) agree (omega arith) in
    sym (ap₂ f high low) ∙ here ∙ ap₂ g high low

pub meets-or_digit : (a b : ℕ) → a < 16 → b < 16 → meets (bit_or a b) 2 ≡ (meets a 2 || meets b 2)
unfolding meets
meets-or_digit = pairs (λ a b. meets (bit_or a b) 2) (λ a b. meets a 2 || meets b 2) refl

pub meets-or_letter : (a b : ℕ) → a < 16 → b < 16 → meets (bit_or a b) 4 ≡ (meets a 4 || meets b 4)
unfolding meets
meets-or_letter = pairs (λ a b. meets (bit_or a b) 4) (λ a b. meets a 4 || meets b 4) refl

pub meets-and_hexadecimal : (a b : ℕ) → a < 16 → b < 16 → meets (bit_and a b) 8 ≡ (meets a 8 && meets b 8)
unfolding meets
meets-and_hexadecimal = pairs (λ a b. meets (bit_and a b) 8) (λ a b. meets a 8 && meets b 8) refl
