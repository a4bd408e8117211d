use Rattle.std.proofs.Common.{List, ℕ, length, sym, ◌∙◌, ap}
use Rattle.std.specs.Prelude.{◌==◌}
use Rattle.row_codec.proofs.BodyLemmas.{none_left}
use Rattle.row_codec.proofs.CutTextLemmas.{cut_end}
use Rattle.row_codec.proofs.cutting.body_is_cut.Goals as goal

pub returns : goal.returns
returns g c =
    let at = c.loop-at.at in
    let end = cut_end (g.N.Names.words c.args.names.now) at.prev at.rest.now at.words.now c.loop-at.invariant (none_left at.rest.now (sym c.is_empty.ensures ∙ c.loop-at-test.false)) in
    (λ yes. end.1 (none_left at.words.now (sym c.is_empty-2.ensures ∙ yes)), λ has. c.is_empty-2.ensures ∙ ap (λ (l : List ℕ). length l == 0) (end.0 has))
