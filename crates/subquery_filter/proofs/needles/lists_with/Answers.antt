use Rattle.std.proofs.Common.{◌∙◌, rules, subst}
use Rattle.subquery_filter.specs.Found.{HaveNumbers}
use Rattle.subquery_filter.proofs.FilterLemmas.{grown}
use Rattle.subquery_filter.proofs.MarkLemmas.{have_end, have_step, text_here}
use Rattle.subquery_filter.proofs.needles.lists_with.Goals as goal

pub loop-needle-preserved : goal.loop-needle-preserved
loop-needle-preserved g c =
    let l = c.loop-needle in
    let needles = c.args.needles.now in
    let words = g.N.Names.words c.args.names.now in (
      grown l.lists.items c.push.new.self.items c.new.result l.needle-index l.invariant.0 c.in_ok-push.ensures.items,
      have_step needles words l.needle-index l.lists.items c.push.new.self.items c.as_slice.result.now c.new.result l.invariant.0 c.in_ok-push.ensures.items
          (text_here needles l.needle-index c.as_slice.result.now _ (search rules) (c.as_slice.ensures ∙ c.needle-item.is))
          (subst (λ v. HaveNumbers c.as_slice.result.now words v) (search rules) c.in_ok-numbers.ensures) l.invariant.1,
    )

pub returns : goal.returns
returns g c = have_end c.args.needles.now (g.N.Names.words c.args.names.now) c.loop-needle.needle-index c.loop-needle.lists.items (search rules) c.loop-needle.invariant.1
