use Rattle.std.proofs.Common.{rules, List, ℕ, ◌++◌, ◌∙◌, ap, drop, get_or, map, suc}
use Rattle.std.specs.Prelude.{None}
use Rattle.std.proofs.lemmas.Option.{slice_get-get_or}
use Rattle.logtype_text.specs.declared.symbols.Kind.{Kind}
use Rattle.logtype_text.specs.declared.symbols.Kind.TheVariants.{Whole}
use Rattle.row_codec.specs.Numbers.{word_numbers}
use Rattle.archive_core.specs.Slots.{slot_with}
use Rattle.archive_core.proofs.NumbersLemmas.{kinds_slot, wide_behind}
use Rattle.archive_core.proofs.RowsLemmas.{at_none}
use Rattle.archive_core.proofs.SlotsLemmas.{kind_in}
use Rattle.archive_core.proofs.numbers.push_slots.Goals as goal

pub returns-in_default-clause-none : goal.returns-in_default-clause-none
returns-in_default-clause-none c = λ is all.
    let now = c.loop-slot in
    let slots = c.args.slots.now in
    let place = now.slot-index in
    let first = slot_with Whole None in
    let at = slice_get-get_or slots place first (search rules) in
    let wide = at_none c.in_ok-behind.field-0 _ c.in_ok-behind.ensures.wide c.in_default.is (map kind_in (drop (suc place) slots)) in
    wide_behind _ now.invariant.0 wide.1 wide.0
    (now.invariant.2 ∙ ap (λ (kinds : List Kind). now.invariant.0 ++ word_numbers kinds now.left.now) (kinds_slot slots place (get_or slots place first) at) ∙ ap (λ (l : List ℕ). now.invariant.0 ++ l) wide.2) wide.3 all
