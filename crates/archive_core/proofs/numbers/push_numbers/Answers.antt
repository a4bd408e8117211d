use Rattle.std.proofs.Common.{rules, ℕ, List, ◌++◌, ◌∙◌, ap, ◌+◌, drop, get_or}
use Rattle.row_codec.specs.Numbers.{kinds_from, word_numbers}
use Rattle.archive_core.proofs.NumbersLemmas.{kinds_here, wide_behind}
use Rattle.archive_core.proofs.RowsLemmas.{at_none}
use Rattle.archive_core.proofs.numbers.push_numbers.Goals as goal

pub returns-in_default-2-clause-none : goal.returns-in_default-2-clause-none
returns-in_default-2-clause-none c = λ is all.
    let now = c.loop-byte in
    let text = c.args.text.now in
    let next = c.read_kind-next.result.0 in
    let wide = at_none c.in_ok-behind.field-0 _ c.in_ok-behind.ensures.wide c.in_default-2.is (kinds_from next (drop (now.byte-index + 1) text)) in
    let kinds = kinds_here now.escaped next text now.byte-index (get_or text now.byte-index 0) c.read_kind-next.result.1 c.in-Some.kind (search rules) (search rules) c.read_kind-next.ensures c.in-Some.is in
    wide_behind _ now.invariant.0 wide.1 wide.0
    (now.invariant.2 ∙ ap (λ k. now.invariant.0 ++ word_numbers k now.left.now) kinds ∙ ap (λ (l : List ℕ). now.invariant.0 ++ l) wide.2) wide.3 all
