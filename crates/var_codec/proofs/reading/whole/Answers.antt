-- Plain digits of a number that fits are its print, and no others are.
use Rattle.std.proofs.Common.{◌++◌, FitsSigned, subst, sym, to_z-of_z, ◌∙◌, true≢false, refl}
use Rattle.std.specs.Int.{w64}
use Rattle.std.specs.Fmt.{sign_text}
use Rattle.var_codec.specs.Codes.{IsWholeText}
use Rattle.var_codec.proofs.Choices.{not_plain, too_large, is_whole}
use Rattle.var_codec.proofs.reading.whole.Goals as goal

pub returns-then-not-is_plain : goal.returns-then-not-is_plain
returns-then-not-is_plain c = not_plain c.args.negative c.args.digits.now c.args.number c.requires.digits (λ p. true≢false (sym (c.if-not-is_plain.ensures.1 p)))

pub returns-in-Some : goal.returns-in-Some
returns-in-Some c =
    let is = c.in-Some.ensures in
    let kept = to_z-of_z {w = w64} {z = c.in-Some.value} (subst (FitsSigned w64) (sym is.1) is.0) in
    subst (IsWholeText (sign_text c.args.negative ++ c.args.digits.now)) (sym (kept ∙ is.1)) (is_whole c.args.negative c.args.digits.now c.args.number c.requires.digits (c.if-not-is_plain.ensures.0 refl) c.requires.short is.0)

pub returns-in-None : goal.returns-in-None
returns-in-None c = too_large c.args.negative c.args.digits.now c.args.number c.requires.digits c.in-None.ensures
