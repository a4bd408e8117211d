use Rattle.std.proofs.Common.{◌≡◌, ◌++◌, map, take}
use Rattle.logtype_text.specs.declared.symbols.Symbol.TheVariants.{Byte}
use Rattle.logtype_text.specs.TypeText.{type_text}
use Rattle.logtype_text.proofs.encoding.push_escaped.Given as goal

abbrev pub invariant-loop-byte : goal.invariant-loop-byte
invariant-loop-byte l = l.text.items ≡ l.initial.text.items ++ type_text (map Byte (take l.byte-index l.bytes))
