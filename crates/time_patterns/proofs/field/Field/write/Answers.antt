use Rattle.std.proofs.Common.{◌++◌, ◌∙◌, ◌+◌, length, take, sym, ap}
use Rattle.time_patterns.proofs.FieldLemmas.{empty_field, no_digits}
use Rattle.time_patterns.proofs.field.Field.write.Goals as goal

pub returns-clause-text : goal.returns-clause-text
returns-clause-text c =
    let none = no_digits c.args.self.now.digits c.requires.digits c.if-digits-eq3.false c.if-digits-eq6.false in
    c.write_byte-at.ensures.text ∙ ap (λ t. take c.args.at c.args.out.now ++ t) (sym (empty_field c.args.self.now c.args.number none))

pub returns-clause-end : goal.returns-clause-end
returns-clause-end c =
    let none = no_digits c.args.self.now.digits c.requires.digits c.if-digits-eq3.false c.if-digits-eq6.false in
    c.write_byte-at.ensures.end ∙ ap (λ t. c.args.at + length t) (sym (empty_field c.args.self.now c.args.number none))
