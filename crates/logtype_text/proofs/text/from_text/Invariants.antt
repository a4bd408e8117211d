use Rattle.std.proofs.Common.{◌≡◌, ◌+◌, ◌≤◌, ◌++◌, length, vec_len, vec_capacity}
use Rattle.logtype_text.specs.TypeText.{IsTypeText, type_text}
use Rattle.logtype_text.proofs.text.from_text.Given as goal

abbrev pub invariant-loop-symbol : goal.invariant-loop-symbol
invariant-loop-symbol l = record {
  spelled : IsTypeText l.rest;
  read : type_text l.symbols.items ++ l.rest ≡ l.text;
  room : vec_len l.symbols + length l.rest ≤ vec_capacity l.symbols;
}

abbrev pub decreases-loop-symbol : goal.decreases-loop-symbol
decreases-loop-symbol l = length l.rest
