use Rattle.std.proofs.Common.{◌≡◌, ℕ, false, subst, arith}
use Rattle.std.proofs.lemmas.List.{take_all}
use Rattle.std.specs.Prelude.{All}
use Rattle.logtype_text.specs.TypeText.{is_escaped}
use Rattle.logtype_text.proofs.EncodedLemmas.{plain_more}
use Rattle.logtype_text.proofs.encoding.is_plain.Goals as goal

pub loop-byte-preserved : goal.loop-byte-preserved
loop-byte-preserved c = plain_more c.args.bytes.now c.loop-byte.byte-index c.loop-byte.plain c.needs_escape.result (omega arith) c.loop-byte.invariant c.needs_escape.ensures

pub returns : goal.returns
returns c plain = subst (λ xs. All (λ (b : ℕ). is_escaped b ≡ false) xs) (take_all c.loop-byte.byte-index c.args.bytes.now (omega arith)) (c.loop-byte.invariant plain)
