use Rattle.std.proofs.Common.{◌≡◌, ◌^◌, ◌<◌, take}
use Rattle.time_patterns.specs.Digits.{digits}
use Rattle.time_patterns.proofs.field.read_digits.Given as goal

-- the bytes so far are the digits of the number
abbrev pub invariant-loop-byte : goal.invariant-loop-byte
invariant-loop-byte l = record {
  read : take l.byte-index l.text ≡ digits l.byte-index l.number;
  small : l.number < 10 ^ l.byte-index;
}
