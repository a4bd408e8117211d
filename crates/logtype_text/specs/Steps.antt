-- What a step on the way through a body adds.
use Rattle.std.specs.Prelude.{List, [], ◌∷◌}
use Rattle.var_codec.specs.declared.Coded.{Coded}
use Rattle.var_codec.specs.declared.Coded.TheVariants.{Whole, Decimal, Word}
use Rattle.logtype_text.specs.declared.spans.Span.{Span}

-- the place of a variable, where it goes to a dictionary
abbrev pub word_place : Coded → Span → List Span
word_place (Whole n) span = []
word_place (Decimal word) span = []
word_place Word span = span ∷ []
