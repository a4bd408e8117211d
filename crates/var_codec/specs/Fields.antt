-- What a decimal's word holds.
use Rattle.std.specs.Prelude.{◌≡◌, ℕ, ◌+◌, ◌-◌, ◌/◌, ◌%◌, ◌^◌, List, ◌++◌, length, replicate, nat_eq}
use Rattle.std.specs.Fmt.{decimal}
use Rattle.var_codec.specs.declared.printing.Fields.{Fields}

-- the word's bits in numbers
pub record AreFields (word : ℕ) (fields : Fields) : Type 0 where
  pub negative : fields.negative ≡ nat_eq (word / 2 ^ 63) 1
  pub number : fields.number ≡ word / 2 ^ 8 % 2 ^ 54
  pub count : fields.count ≡ word / 2 ^ 4 % 2 ^ 4 + 1
  pub places : fields.places ≡ word % 2 ^ 4 + 1

-- the digits of the number, after as many zeros as make 16 digits
abbrev pub padded : ℕ → List ℕ
padded number = replicate (16 - length (decimal number)) 48 ++ decimal number
