use Rattle.std.proofs.Common.{[], ℕ, List, ◌∙◌, ap, sym, rules}
use Rattle.std.specs.Prelude.{false}
use Rattle.std.proofs.lemmas.Option.{get_or_from_slice_get}
use Rattle.row_codec.specs.Numbers.{kinds_from}
use Rattle.word_places.proofs.SlotLemmas.{have_next}
use Rattle.word_places.proofs.type_slots.slots_of.Goals as goal

pub loop-number-preserved : goal.loop-number-preserved
loop-number-preserved c =
    have_next c.args.types.now.texts c.loop-number.all c.push.new.self c.loop-number.number c.in-Some.text.now c.as_slice.result.now c.loop-number.invariant
    (sym (get_or_from_slice_get c.args.types.now.texts c.loop-number.number c.in-Some.text.now [] c.in-Some.ensures))
    (ap (λ (l : List ℕ). kinds_from false l) c.as_slice.ensures.value ∙ c.in_ok-push_slots.ensures) (search rules)
