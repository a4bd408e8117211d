use Rattle.std.proofs.Common.{◌∙◌, sym, ap, subst, arith, map, rules}
use Rattle.std.proofs.lemmas.List.{take_all}
use Rattle.word_places.specs.Held.{AreNumbered, unread}
use Rattle.word_places.proofs.OrderLemmas.{unread_numbered}
use Rattle.word_places.proofs.held.HeldWords.new.Goals as goal

pub invariant_of-result : goal.invariant_of-result
invariant_of-result c = (
  subst (AreNumbered 0) (sym (c.loop-place.invariant.read ∙ ap (map unread) (take_all c.loop-place.place-index c.args.places.now (omega arith))))
      (unread_numbered 0 c.args.places.now c.requires),
  λ at r lt is. absurd (omega (arith, lt)),
  search rules,
)
