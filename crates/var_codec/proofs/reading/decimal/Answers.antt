-- The digits around the point are the parts of the text, and their number has 54 bits.
use Rattle.std.proofs.Common.{inl, inr}
use Rattle.var_codec.proofs.Choices.{not_decimal, is_decimal, packed_word}
use Rattle.var_codec.proofs.reading.decimal.Goals as goal
use Rattle.var_codec.proofs.reading.decimal.Goals.{then-places-eq0-via-then-places-eq0, then-places-eq0-via-else-places-eq0+then-count-gt-MAX_DECIMAL_DIGITS}

pub returns-then-places-eq0 : goal.returns-then-places-eq0
returns-then-places-eq0 c = elim c.then-places-eq0.branch [
  | then-places-eq0-via-then-places-eq0 w ↦ not_decimal c.args.negative c.args.digits.now _ _ c.requires (inl w.if-places-eq0.true)
  | then-places-eq0-via-else-places-eq0+then-count-gt-MAX_DECIMAL_DIGITS w ↦ not_decimal c.args.negative c.args.digits.now _ _ c.requires (inr w.if-count-gt-MAX_DECIMAL_DIGITS.true)
]

pub returns : goal.returns
returns c = is_decimal c.args.negative c.args.digits.now _ _ _ c.requires c.if-places-eq0.false c.if-count-gt-MAX_DECIMAL_DIGITS.false (packed_word c.args.negative c.args.digits.now _ _ c.from.result c.requires c.if-places-eq0.false c.if-count-gt-MAX_DECIMAL_DIGITS.false c.from.ensures)
