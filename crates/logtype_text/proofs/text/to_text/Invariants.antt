use Rattle.std.proofs.Common.{◌≡◌, take}
use Rattle.logtype_text.specs.TypeText.{type_text}
use Rattle.logtype_text.proofs.text.to_text.Given as goal

abbrev pub invariant-loop-symbol : goal.invariant-loop-symbol
invariant-loop-symbol l = l.text.items ≡ type_text (take l.symbol-index l.symbols)
