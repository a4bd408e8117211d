use Rattle.std.proofs.Common.{◌≡◌, List, ℕ, length, rules, subst, sym}
use Rattle.std.specs.Prelude.{Some, slice_get}
use mathlib.Core.List.{IsPrefix}
use Rattle.row_codec.proofs.LayoutLemmas.{prefix_more}
use Rattle.row_codec.proofs.layouts.Layouts.extend.Goals as goal

pub loop-preserved : goal.loop-preserved
loop-preserved g c =
    let types = g.N.Names.types c.args.names.now in
    let at : slice_get types (length c.loop.self) ≡ Some c.in-Some.text.now = search rules in
    subst (λ (l : List (List ℕ)). IsPrefix l types) (sym c.in_ok-push.ensures.added) (prefix_more c.loop.self types c.in-Some.text.now c.loop.invariant at)
