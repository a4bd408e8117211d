use Rattle.std.proofs.Common.{◌≡◌, List, sym, ap, subst}
use Rattle.wild_match.specs.declared.pattern.Item.{Item}
use Rattle.wild_match.specs.Whole.{items_of_matcher}
use Rattle.wild_match.specs.Matches.{Match}
use Rattle.wild_match.specs.Runs.{Occurs}
use Rattle.wild_match.proofs.Occurring.{Match-run, stands}
use Rattle.wild_match.proofs.matcher.Matcher.needle.Goals as goal

pub returns-clause-needed : goal.returns-clause-needed
returns-clause-needed c message m =
    let items : List Item = items_of_matcher c.self.inside in
    let finder = c.self.inside.finder in
    let e : items ≡ c.args.self.now.items = ap (λ v. v.items) c.self.view_is in
    let run = c.self.invariant.2 in
    let t = Match-run items finder run.0 message run.1 (subst (λ p. Match p message) (sym e) m) in
    subst (Occurs message) (sym c.needle.ensures) (t.at, stands message finder t.at t.within t.reads)
