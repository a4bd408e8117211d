use Rattle.std.proofs.Common.{◌∙◌, sym, ap, length}
use Rattle.dict_core.proofs.BufferLemmas.{length-texts_from}
use Rattle.dict_core.proofs.texts.Texts.len.Goals as goal

pub returns-clause-count : goal.returns-clause-count
returns-clause-count c =
    c.len.ensures ∙ c.self.inside.ends.ok.0 ∙ sym (length-texts_from c.self.inside.bytes.items 0 c.self.inside.ends.items) ∙ ap length c.self.view_is
