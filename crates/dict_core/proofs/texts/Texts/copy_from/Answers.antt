use Rattle.std.proofs.Common.{◌≡◌, ◌∙◌, sym, ap, Some, slice_get}
use Rattle.dict_core.proofs.BufferLemmas.{copied}
use Rattle.dict_core.proofs.texts.Texts.copy_from.Goals as goal

pub loop-next-preserved : goal.loop-next-preserved
loop-next-preserved c =
    let bytes : c.new.result ≡ c.at.result.now = c.new.ensures ∙ c.in_ok-text.ensures.items in
    let got : slice_get c.args.self.now c.loop-next.next ≡ Some c.new.result = c.at.ensures ∙ ap (λ t. Some t) (sym bytes) in
    c.in_ok-push.ensures.items ∙ copied c.args.self.now c.loop-next.texts.items c.args.number c.loop-next.next c.new.result c.loop-next.auto.next got c.loop-next.invariant
