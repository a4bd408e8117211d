use Rattle.std.proofs.Common.{ℕ, List, ◌++◌, ◌∙◌, ap, sym, false}
use Rattle.std.proofs.lemmas.List.{append-nil}
use Rattle.logtype_text.proofs.TextLemmas.{nothing_left, rest_spelled}
use Rattle.row_codec.specs.Numbers.{kinds_from}
use Rattle.row_rename.proofs.log_types.kinds_of.Goals as goal

pub loop-symbol-preserved : goal.loop-symbol-preserved
loop-symbol-preserved c =
    let now = c.loop-symbol in
    let after = c.in-Some.after.now in
    record {
      good = rest_spelled c.in-Some.symbol now.rest.now after c.in-Some.ensures.some now.invariant.good;
      cut = now.invariant.cut ∙ ap (λ (t : List ℕ). now.kinds.items ++ kinds_from false t) c.in-Some.ensures.some ∙ c.in_ok-push_kind.ensures after;
    }

pub returns : goal.returns
returns c =
    let now = c.loop-symbol in
    let none = nothing_left now.rest.now c.in_default.ensures.none now.invariant.good in
    sym (now.invariant.cut ∙ ap (λ (t : List ℕ). now.kinds.items ++ kinds_from false t) none ∙ append-nil now.kinds.items)
