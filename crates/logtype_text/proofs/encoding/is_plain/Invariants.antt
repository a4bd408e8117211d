use Rattle.std.proofs.Common.{◌≡◌, false, true, take}
use Rattle.std.specs.Prelude.{All}
use Rattle.logtype_text.specs.TypeText.{is_escaped}
use Rattle.logtype_text.proofs.encoding.is_plain.Given as goal

abbrev pub invariant-loop-byte : goal.invariant-loop-byte
invariant-loop-byte l = l.plain ≡ true → All (λ b. is_escaped b ≡ false) (take l.byte-index l.bytes)
