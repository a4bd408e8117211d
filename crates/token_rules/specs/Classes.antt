-- The bits of a byte's class, and what the bits of a token say.
use Rattle.std.specs.Prelude.{◌≡◌, ℕ, ◌<◌, Bool, not, List, bit_and, ◌==◌}
use Rattle.std.specs.List.{list_any, list_all}
use Rattle.token_rules.specs.Tokens.{is_digit, is_letter, is_hexadecimal}

-- the bits meet the flag
unfoldable pub meets : ℕ → ℕ → Bool
meets bits flag = not (bit_and bits flag == 0)

-- `any` has the bits of some byte of the token, and `all` has the hexadecimal bit where each byte has it
pub record HasClasses (token : List ℕ) (any all : ℕ) : Type 0 where
  pub small_any : any < 16
  pub small_all : all < 16
  pub digit : meets any 2 ≡ list_any is_digit token
  pub letter : meets any 4 ≡ list_any is_letter token
  pub hexadecimal : meets all 8 ≡ list_all is_hexadecimal token
