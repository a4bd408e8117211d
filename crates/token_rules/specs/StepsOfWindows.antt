-- What 64 bytes of a text are, a bit for each.
use Rattle.std.specs.Prelude.{◌≡◌, ℕ, zero, suc, ◌+◌, ◌<◌, ◌≤◌, Bool, true, false, ◌||◌}
use Rattle.std.specs.Prelude.{◌&&◌, List, length, slice_index, slice_range, IsTrue, ◌==◌}
use Rattle.std.specs.Int.{bit_at}
use Rattle.std.specs.List.{list_all, list_any}
use Rattle.token_rules.specs.Tokens.{IsDelimiter, is_digit, is_hexadecimal, is_letter, is_token_byte}
use Rattle.token_rules.specs.declared.window.Window.{Window}

-- the bit at this place is set
unfoldable pub test : ℕ → ℕ → Bool
test bits place = bit_at bits place == 1

-- one of so many bits from a place on is set
unfoldable pub any_bit : ℕ → ℕ → ℕ → Bool
any_bit bits from zero = false
any_bit bits from (suc count) = any_bit bits from count || test bits (from + count)

-- each of so many bits from a place on is set
unfoldable pub all_bits : ℕ → ℕ → ℕ → Bool
all_bits bits from zero = true
all_bits bits from (suc count) = all_bits bits from count && test bits (from + count)

-- a bit for each of the 64 bytes from a place on: whether the byte passes. No byte past the end does.
abbrev pub Tells : (ℕ → Bool) → List ℕ → ℕ → ℕ → Type 0
Tells passes body at bits = (k : ℕ) → k < 64 → test bits k ≡ passes (slice_index body (at + k))

-- the window shows these bytes of the body
abbrev pub Shows : List ℕ → Window → Type 0
Shows body window =
    Tells is_token_byte body window.at window.tokens × Tells is_digit body window.at window.digits
    × Tells is_letter body window.at window.letters × Tells is_hexadecimal body window.at window.hexadecimals

-- The bytes from `start` up to `end` are no delimiters, a delimiter or the end of the body follows, and
-- this is what they are.
pub record IsRun (body : List ℕ) (start end : ℕ) (has_digit has_letter is_all_hexadecimal : Bool) : Type 0 where
  pub ordered : start ≤ end
  pub in_range : end ≤ length body
  pub unbroken : (k : ℕ) → start ≤ k → k < end → IsTrue (is_token_byte (slice_index body k))
  pub stop : end < length body → IsDelimiter (slice_index body end)
  pub digit : has_digit ≡ list_any is_digit (slice_range body start end)
  pub letter : has_letter ≡ list_any is_letter (slice_range body start end)
  pub hexadecimal : is_all_hexadecimal ≡ list_all is_hexadecimal (slice_range body start end)
