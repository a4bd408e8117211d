use Rattle.std.proofs.Common.{◌≡◌, ℕ, List, length, get_or, take, ap, ◌∙◌, arith}
use Rattle.std.specs.List.{flat_map}
use Rattle.std.proofs.lemmas.List.{take_all}
use Rattle.record_format.specs.Lists.{text_bytes}
use Rattle.record_format.proofs.ListLemmas.{length-list_bytes, length-texts_more}
use Rattle.record_format.proofs.list.room_for.Goals as goal

pub loop-text-preserved : goal.loop-text-preserved
loop-text-preserved c =
    let text : length c.as_slice.result.now ≡ length (get_or c.args.texts.now c.loop-text.text-index c.text-item.result) =
    ap (λ (l : List ℕ). length l) c.as_slice.ensures ∙ ap (λ (l : List ℕ). length l) c.text-item.is in
    let more = length-texts_more c.args.texts.now c.loop-text.text-index c.text-item.result c.loop-text-test.true in
    omega (arith, more, text, c.loop-text.invariant, c.saturating_add.ensures, c.saturating_add-room.ensures)

pub returns : goal.returns
returns c =
    let all = take_all c.loop-text.text-index c.args.texts.now (omega arith) in
    let len : length (flat_map text_bytes (take c.loop-text.text-index c.args.texts.now)) ≡ length (flat_map text_bytes c.args.texts.now) = ap (λ (l : List (List ℕ)). length (flat_map text_bytes l)) all in
    omega (arith, len, length-list_bytes c.args.texts.now, c.loop-text.invariant)
