-- The test is the arithmetic of the word, which says that it has a text.
use Rattle.std.proofs.Common.{rules, ◌↔◌, IsTrue, nat_le}
use Rattle.var_codec.specs.Codes.{IsDecimalWord}
use Rattle.var_codec.proofs.Printed.{word_of_text, has_text}
use Rattle.var_codec.proofs.printing.decimal_ok.Goals as goal

pub returns-then-fields-ten_to-clause-text : goal.returns-then-fields-ten_to-clause-text
returns-then-fields-ten_to-clause-text c =
    let bits : IsTrue (nat_le c.take_apart-fields.result.places c.take_apart-fields.result.count) ↔ IsDecimalWord c.args.word = search rules in
    (λ t. has_text c.args.word c.ranges.word.fits (bits.0 t), λ h. bits.1 (word_of_text c.args.word h))

pub returns-else-fields-ten_to-clause-text : goal.returns-else-fields-ten_to-clause-text
returns-else-fields-ten_to-clause-text c =
    let bits : IsTrue c.if-word-eq0.value ↔ IsDecimalWord c.args.word = search rules in
    (λ t. has_text c.args.word c.ranges.word.fits (bits.0 t), λ h. bits.1 (word_of_text c.args.word h))
