use Rattle.std.proofs.Common.{rules, ◌≡◌, ◌≤◌, length, take, ◌∙◌, ap, sym, subst}
use Rattle.std.proofs.lemmas.List.{take_all}
use Rattle.wild_match.specs.Matches.{Match}
use Rattle.wild_match.specs.Widened.{widened}
use Rattle.wild_match.proofs.WidenLemmas.{wider}
use Rattle.wild_match.proofs.widening.widen.Goals as goal

-- src/widening.rt:21:1
pub returns-clause-wider : goal.returns-clause-wider
returns-clause-wider c message m =
    let all : length c.args.pattern.now ≤ c.loop-item.item-index = search rules in
    let so_far : c.loop-item.items.items ≡ widened (take c.loop-item.item-index c.args.pattern.now) = c.loop-item.invariant in
    let made = c.new.ensures ∙ so_far ∙ ap widened (take_all c.loop-item.item-index c.args.pattern.now all) in
    subst (λ p. Match p message) (sym made) (wider c.args.pattern.now message m)
