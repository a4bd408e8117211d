use Rattle.std.proofs.Common.{◌≡◌, ◌+◌, ◌∷◌, [], ◌++◌, rules, sym, subst}
use Rattle.stamp_templates.proofs.SearchLemmas.{ListsBefore, lists_all, lists_push, lists_skip}
use Rattle.stamp_templates.proofs.places.places_of.Goals.{then-fits_at+in_ok-push, else-fits_at}
use Rattle.stamp_templates.proofs.places.places_of.Goals as goal

pub loop-at-preserved : goal.loop-at-preserved
loop-at-preserved c =
    let template = c.template-template.result.now in
    let text = c.args.text.now in
    let l = c.loop-at in
    elim c.if-fits_at.branch [
      | then-fits_at+in_ok-push w ↦
          let items : c.if-fits_at.places.items ≡ l.places.items ++ l.at ∷ [] = search rules in
          subst (ListsBefore template text (l.at + 1)) (sym items)
          (lists_push template text l.at c.from.result c.fits_at.result l.places.items c.from.ensures l.invariant c.fits_at.ensures w.if-fits_at.true)
      | else-fits_at w ↦
          let items : c.if-fits_at.places.items ≡ l.places.items = search rules in
          subst (ListsBefore template text (l.at + 1)) (sym items)
          (lists_skip template text l.at c.from.result c.fits_at.result l.places.items c.from.ensures l.invariant c.fits_at.ensures w.if-fits_at.false)
    ]

pub returns : goal.returns
returns c =
    lists_all c.args.pattern c.template-template.result.now c.args.text.now c.loop-at.places.items c.loop-at.at c.template-template.ensures.text c.loop-at-test.false c.loop-at.invariant
