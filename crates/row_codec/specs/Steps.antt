-- What steps on the way to a row make.
use Rattle.std.specs.Prelude.{ℕ, pos, Option, None, Some, List, [], ◌∷◌}
use Rattle.std.specs.Int.{cast_unsigned, w64}
use Rattle.var_codec.specs.declared.Coded.{Coded}
use Rattle.var_codec.specs.declared.Coded.TheVariants.{Whole, Decimal, Word}
use Rattle.time_patterns.specs.declared.stamps.Stamp.{Stamp}
use Rattle.row_codec.specs.declared.encoder.Front.{Front}

-- the words of variables that are coded so, where the dictionary's words have these numbers, in order
abbrev pub words_of : List Coded → List ℕ → List ℕ
words_of [] numbers = []
words_of (Whole n ∷ codes) numbers = cast_unsigned w64 n ∷ words_of codes numbers
words_of (Decimal word ∷ codes) numbers = word ∷ words_of codes numbers
words_of (Word ∷ codes) [] = 0 ∷ words_of codes []
words_of (Word ∷ codes) (number ∷ numbers) = number ∷ words_of codes numbers

-- the front of a message with this stamp
abbrev pub front_of : Option Stamp → Front
front_of None = record { pattern = 0; moment = pos 0; len = 0 }
front_of (Some s) = record { pattern = s.pattern; moment = s.moment; len = s.len }
