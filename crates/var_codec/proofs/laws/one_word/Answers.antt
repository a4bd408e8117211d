-- Two words of one text are of one kind, and then they are the same.
use Rattle.std.proofs.Common.{refl, sym, ap, ◌∙◌}
use Rattle.std.proofs.lemmas.Fmt.{signed_decimal_injective}
use Rattle.var_codec.specs.declared.Coded.TheVariants.{Whole, Decimal, Word}
use Rattle.var_codec.specs.Codes.{word_of}
use Rattle.var_codec.specs.Laws.{OneWord}
use Rattle.var_codec.proofs.Texts.{whole_not_decimal, same_parts}
use Rattle.var_codec.proofs.laws.one_word.Goals as goal

one : OneWord
one text (Whole m) (Whole n) a b = ap Whole (signed_decimal_injective m n a.fits.sfits b.fits.sfits (sym a.prints ∙ b.prints))
one text (Whole m) (Decimal w) a b = absurd (whole_not_decimal text m w a b)
one text (Whole m) Word a b = absurd (b.0 m a)
one text (Decimal v) (Whole n) a b = absurd (whole_not_decimal text n v b a)
one text (Decimal v) (Decimal w) a b = ap Decimal (a.packs ∙ ap word_of (same_parts a.parts b.parts a.decimal b.decimal (sym a.prints ∙ b.prints)) ∙ sym b.packs)
one text (Decimal v) Word a b = absurd (b.1 v a)
one text Word (Whole n) a b = absurd (a.0 n b)
one text Word (Decimal w) a b = absurd (a.1 w b)
one text Word Word a b = refl

pub returns : goal.returns
returns c = one
