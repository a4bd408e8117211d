use Rattle.std.proofs.Common.{ℕ, get_or, subst}
use Rattle.subquery_filter.specs.Filter.{Has}
use Rattle.subquery_filter.proofs.MarkLemmas.{keeps_same, keeps_through, set_added, set_keeps}
use Rattle.subquery_filter.proofs.marks.add_number.Goals as goal

pub returns-clause-added : goal.returns-clause-added
returns-clause-added c =
    let roomy = c.make_room.new.table.items in
    let new = c.set_bit.new.table.items in
    let place = c.place_of-place.result in
    subst (λ (n : ℕ). Has (get_or new n 0) c.args.bit) c.place_of-place.ensures.is (set_added roomy new place c.args.bit c.in_ok-make_room.ensures.room c.set_bit.ensures)

pub returns-clause-keeps : goal.returns-clause-keeps
returns-clause-keeps c =
    let old = c.args.table.now.items in
    let roomy = c.make_room.new.table.items in
    let new = c.set_bit.new.table.items in
    keeps_through old roomy new (keeps_same old roomy c.in_ok-make_room.ensures.same) (set_keeps roomy new c.place_of-place.result c.args.bit c.in_ok-make_room.ensures.room c.set_bit.ensures)
