-- A body as the calls take it, and its parts.
use Rattle.std.specs.Prelude.{List, map}
use Rattle.logtype_text.specs.Parts.{Part, Constant, Variable}
use Rattle.query_plan.specs.declared.symbols.VarSymbol.{VarSymbol}
use Rattle.query_plan.specs.declared.symbols.VarSymbol.TheVariants.{Byte, Var}

-- a symbol as a part of a body
abbrev pub part_of : VarSymbol → Part
part_of (Byte b) = Constant b
part_of (Var kind text) = Variable kind text

abbrev pub parts : List VarSymbol → List Part
parts symbols = map part_of symbols
