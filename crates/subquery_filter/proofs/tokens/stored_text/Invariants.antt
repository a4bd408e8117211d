use Rattle.std.proofs.Common.{◌≡◌, ◌++◌, drop, map}
use Rattle.logtype_text.specs.declared.symbols.Symbol.TheVariants.{Byte}
use Rattle.subquery_filter.proofs.tokens.stored_text.Given as goal

abbrev pub invariant-loop-byte : goal.invariant-loop-byte
invariant-loop-byte l = l.symbols.items ++ map Byte (drop l.byte-index l.run) ≡ map Byte l.run
