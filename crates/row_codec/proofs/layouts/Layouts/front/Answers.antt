use Rattle.std.proofs.Common.{◌≡◌, ◌++◌, ◌+◌, ◌∙◌, List, ℕ, length, ap, subst, sym}
use Rattle.std.specs.Prelude.{Some, slice_get}
use mathlib.Core.List.{IsPrefix}
use Rattle.std.proofs.lemmas.List.{length-append}
use Rattle.row_codec.proofs.LayoutLemmas.{front_cut, prefix_more}
use Rattle.row_codec.proofs.layouts.Layouts.front.Goals as goal

pub loop-number-init : goal.loop-number-init
loop-number-init g c =
    let types = g.N.Names.types c.args.names.now in
    record {
      front = (types, ap (λ (l : List (List ℕ)). l ++ types) c.new-layouts.ensures);
      count = ap length c.new-layouts.ensures;
    }

pub loop-number-preserved : goal.loop-number-preserved
loop-number-preserved g c =
    let types = g.N.Names.types c.args.names.now in
    let so_far = c.loop-number.invariant in
    let at : slice_get types (length c.loop-number.layouts) ≡ Some c.in-Some.text.now = ap (λ n. slice_get types n) so_far.count ∙ c.in-Some.ensures in
    record {
      front = subst (λ (l : List (List ℕ)). IsPrefix l types) (sym c.in_ok-push.ensures.added) (prefix_more c.loop-number.layouts types c.in-Some.text.now so_far.front at);
      count = ap length c.in_ok-push.ensures.added ∙ length-append c.loop-number.layouts _ ∙ ap (λ n. n + 1) so_far.count;
    }

pub returns : goal.returns
returns g c = front_cut c.loop-number.layouts (g.N.Names.types c.args.names.now) c.loop-number.invariant.front
