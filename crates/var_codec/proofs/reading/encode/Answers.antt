-- The text is its sign and the rest, which reads as digits with at most one point or has no word of its own.
use Rattle.std.proofs.Common.{subst, sym}
use Rattle.var_codec.specs.declared.Coded.TheVariants.{Word}
use Rattle.var_codec.specs.Codes.{Codes}
use Rattle.var_codec.proofs.Choices.{unread, too_long}
use Rattle.var_codec.proofs.reading.encode.Goals as goal

pub returns-then-digits-gt-MAX_DIGITS : goal.returns-then-digits-gt-MAX_DIGITS
returns-then-digits-gt-MAX_DIGITS c = subst (λ t. Codes t Word) (sym c.split_sign-negative.ensures.joined) (too_long _ _ c.split_sign-negative.ensures.unsigned c.if-digits-gt-MAX_DIGITS.true)

pub returns-in-None : goal.returns-in-None
returns-in-None c = subst (λ t. Codes t c.whole.result) (sym c.split_sign-negative.ensures.joined) c.whole.ensures

pub returns-in-Some-point : goal.returns-in-Some-point
returns-in-Some-point c = subst (λ t. Codes t c.decimal.result) (sym c.split_sign-negative.ensures.joined) c.decimal.ensures

pub returns-in_default : goal.returns-in_default
returns-in_default c = subst (λ t. Codes t Word) (sym c.split_sign-negative.ensures.joined) (unread _ _ c.split_sign-negative.ensures.unsigned c.in_default.ensures)
