use Rattle.std.proofs.Common.{◌++◌, sym, ◌∙◌, ap}
use Rattle.logtype_text.proofs.EncodedLemmas.{plain_text}
use Rattle.logtype_text.proofs.encoding.push_constants.Goals as goal

pub returns-then-plain : goal.returns-then-plain
returns-then-plain c =
    c.in_ok-extend_from_slice.ensures.items ∙ ap (λ l. c.args.text.now.items ++ l) (sym (plain_text c.args.bytes.now (c.requires c.if-plain.true)))
