-- Which bytes are delimiters, what a token of a text is, and which tokens are variables.
-- A text is the list of its bytes. The rules are those of a log's variables by their spelling:
-- numbers, names with a digit in them, values after `=`, and hexadecimal names.
use Rattle.std.specs.Prelude.{ℕ, ◌-◌, ◌<◌, ◌≤◌, zero, suc, Bool, false, ◌||◌, ◌&&◌, List, length, Option, Some}
use Rattle.std.specs.Prelude.{None, IsTrue, IsFalse, slice_get, slice_index, slice_range, ◌==◌, nat_le}
use Rattle.std.specs.List.{list_any, list_all}
use Rattle.std.specs.Int.{is_in_range}

-- `0` to `9`
abbrev pub is_digit : ℕ → Bool
is_digit b = is_in_range 0x30 0x39 b

-- `A` to `Z`, `a` to `z`
abbrev pub is_letter : ℕ → Bool
is_letter b = is_in_range 0x41 0x5A b || is_in_range 0x61 0x7A b

-- `0` to `9`, `A` to `F`, `a` to `f`
abbrev pub is_hexadecimal : ℕ → Bool
is_hexadecimal b = is_in_range 0x30 0x39 b || is_in_range 0x41 0x46 b || is_in_range 0x61 0x66 b

-- The bytes that tokens are made of: digits, letters, `+`, `-`, `.`, `\` and `_`.
-- It stays folded in goals; `unfolding is_token_byte` opens it.
unfoldable pub is_token_byte : ℕ → Bool
is_token_byte b =
    is_digit b || is_letter b || (b == 0x2B) || (b == 0x2D) || (b == 0x2E) || (b == 0x5C) || (b == 0x5F)

-- every other byte, each from 0x80 on among them
abbrev pub IsDelimiter : ℕ → Type 0
IsDelimiter b = IsFalse (is_token_byte b)

-- each byte from the one place up to the other is a delimiter
abbrev pub OnlyDelimiters : List ℕ → ℕ → ℕ → Type 0
OnlyDelimiters body from to = (k : ℕ) → from ≤ k → k < to → IsDelimiter (slice_index body k)

-- The bytes from `start` up to `end` are a token of the body: at least one byte, none of them a
-- delimiter, and on each side a delimiter or an end of the body.
pub record IsToken (body : List ℕ) (start end : ℕ) : Type 0 where
  pub not_empty : start < end
  pub in_range : end ≤ length body
  pub unbroken : (k : ℕ) → start ≤ k → k < end → ¬ IsDelimiter (slice_index body k)
  pub left : 0 < start → IsDelimiter (slice_index body (start - 1))
  pub right : end < length body → IsDelimiter (slice_index body end)

-- The place is not inside a token: where a byte of a token stands before it, none stands at it.
abbrev pub IsOutside : List ℕ → ℕ → Type 0
IsOutside body at =
    0 < at → at < length body → ¬ IsDelimiter (slice_index body (at - 1)) → IsDelimiter (slice_index body at)

-- the byte directly before a place, or none where the text begins there
abbrev pub byte_before : List ℕ → ℕ → Option ℕ
byte_before body zero = None
byte_before body (suc k) = slice_get body k

-- the byte is there and is `=`
abbrev pub is_equals_sign : Option ℕ → Bool
is_equals_sign None = false
is_equals_sign (Some b) = b == 0x3D

-- A token is a variable where it holds a digit, where it holds a letter and `=` stands directly
-- before it, or where it has two or more bytes and all are hexadecimal digits.
-- It stays folded in goals; `unfolding is_variable` opens it.
unfoldable pub is_variable : Option ℕ → List ℕ → Bool
is_variable prev token =
    list_any is_digit token
    || (is_equals_sign prev && list_any is_letter token)
    || (nat_le 2 (length token) && list_all is_hexadecimal token)

-- a token that stands directly after `prev` is a variable
abbrev pub IsVariable : Option ℕ → List ℕ → Type 0
IsVariable prev token = IsTrue (is_variable prev token)

-- the token of the body from `start` up to `end` is a variable
abbrev pub IsVariableAt : List ℕ → ℕ → ℕ → Type 0
IsVariableAt body start end = IsVariable (byte_before body start) (slice_range body start end)
