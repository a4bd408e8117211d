use Rattle.std.proofs.Common.{◌≡◌, ◌+◌, ◌++◌, map, take, vec_len, vec_capacity}
use Rattle.logtype_text.specs.declared.symbols.Symbol.TheVariants.{Byte}
use Rattle.logtype_text.proofs.splitting.push_bytes.Given as goal

abbrev pub invariant-loop-byte : goal.invariant-loop-byte
invariant-loop-byte l = record {
  items : l.symbols.items ≡ l.initial.symbols.items ++ map Byte (take l.byte-index l.bytes);
  len : vec_len l.symbols ≡ vec_len l.initial.symbols + l.byte-index;
  capacity : vec_capacity l.symbols ≡ vec_capacity l.initial.symbols;
}
