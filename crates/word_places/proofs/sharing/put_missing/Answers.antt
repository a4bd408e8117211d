use Rattle.std.proofs.Common.{◌≡◌, ap, sym, ◌∙◌}
use Rattle.std.specs.Prelude.{Some, is_some, not, slice_get, true}
use Rattle.std.proofs.lemmas.Option.{same_Some, slice_get-get_or}
use Rattle.word_places.specs.declared.held.HeldRecord.{HeldRecord}
use Rattle.word_places.proofs.SharedLemmas.{set_kept}
use Rattle.word_places.proofs.sharing.put_missing.Goals as goal

pub returns-else-is_none : goal.returns-else-is_none
returns-else-is_none c = λ r is.
    let here : slice_get c.args.records.now.items c.args.at ≡ Some c.index.result.now = slice_get-get_or c.args.records.now.items c.args.at c.index.result.now c.requires ∙ ap (λ (x : HeldRecord). Some x) (sym c.index.ensures) in
    let one : c.index.result.now ≡ r = same_Some c.index.result.now r (sym here ∙ is) in
    let some : is_some c.index.result.now.words ≡ true = c.is_none.ensures ∙ ap not c.if-is_none.false in
    set_kept c.args.records.now.items c.args.at r c.args.words is (ap (λ (x : HeldRecord). is_some x.words) (sym one) ∙ some)
