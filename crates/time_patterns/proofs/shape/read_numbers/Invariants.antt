use Rattle.std.proofs.Common.{◌≡◌, ◌++◌, length, take}
use Rattle.time_patterns.specs.Digits.{AreWithin, fields_text}
use Rattle.time_patterns.specs.Steps.{counts_of}
use Rattle.time_patterns.proofs.shape.read_numbers.Given as goal

-- the numbers so far stand in front of what is left
abbrev pub invariant-loop-place : goal.invariant-loop-place
invariant-loop-place l = record {
  read : l.text ≡ fields_text (take l.place l.fields) l.numbers ++ l.rest;
  within : AreWithin (counts_of (take l.place l.fields)) l.numbers;
  six : length l.numbers ≡ 6;
}
