-- What is printed is the text of the fields, piece by piece.
use Rattle.std.proofs.Common.{◌≡◌, ℕ, ◌-◌, ◌<◌, ◌^◌, ◌++◌, ◌∷◌, take, drop, arith, sym, ap, ◌∙◌, subst}
use Rattle.std.specs.Fmt.{sign_text}
use Rattle.var_codec.specs.Codes.{IsDecimalText}
use Rattle.var_codec.proofs.Words.{same_text}
use Rattle.var_codec.proofs.Printed.{word_of_text, fields_print, text_of_fields, number_small, pieces, digits_in, digits_cut}
use Rattle.var_codec.proofs.printing.decimal_text.Goals as goal

pub padded_digits-padded-requires : goal.padded_digits-padded-requires
padded_digits-padded-requires c = omega (arith, c.take_apart-fields.ensures.number, number_small c.args.word (word_of_text c.args.word c.requires))

pub returns-clause-text : goal.returns-clause-text
returns-clause-text c =
    let f = c.take_apart-fields.result in
    let k : ℕ = f.count - f.places in
    let small : f.number < 10 ^ 16 = omega (arith, c.take_apart-fields.ensures.number, number_small c.args.word (word_of_text c.args.word c.requires)) in
    let whole = digits_cut f.count f.number c.padded_digits-padded.result c.padded_digits-padded.ensures small in
    let before : c.split_at.result.0.now ≡ take k (digits_in f.count f.number) = c.split_at.ensures.front ∙ ap (take k) whole in
    let after : c.split_at.result.1.now ≡ drop k (digits_in f.count f.number) = c.split_at.ensures.back ∙ ap (drop k) whole in
    let prints : take c.put.result c.put.new.out ≡ text_of_fields f =
    pieces (sign_text f.negative) c.split_at.result.0.now c.split_at.result.1.now _ _ _ _
    (c.put-at.ensures.written ∙ c.sign.ensures) c.put-at-2.ensures.written c.put-at-3.ensures.written c.put.ensures.written
    ∙ (λ i. sign_text f.negative ++ (before i ++ (46 ∷ after i))) in
    subst (λ t. IsDecimalText t c.args.word) (sym prints) (fields_print c.args.word c.ranges.word.fits (word_of_text c.args.word c.requires) f c.take_apart-fields.ensures)

pub returns-clause-only : goal.returns-clause-only
returns-clause-only c = λ text h. same_text text _ c.args.word h (returns-clause-text c)
