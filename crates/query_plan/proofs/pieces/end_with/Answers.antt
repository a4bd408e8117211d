use Rattle.std.proofs.Common.{rules, ◌≡◌, ◌++◌, [], ◌∷◌, ap, ◌∙◌}
use Rattle.query_plan.specs.Cutting.{ended, fronted}
use Rattle.query_plan.proofs.PlanLemmas.{ends_with}
use Rattle.query_plan.proofs.pieces.end_with.Goals as goal

pub returns : goal.returns
returns c rest =
    let empty : c.in_ok-next.next.items ≡ [] = search rules in
    let out : c.push.new.self.items ≡ ended c.args.out.now.items c.args.token.items ++ c.args.piece ∷ [] = search rules in
    ap (λ o. o ++ fronted c.in_ok-next.next.items rest) out
    ∙ ap (λ t. (ended c.args.out.now.items c.args.token.items ++ c.args.piece ∷ []) ++ fronted t rest) empty
    ∙ ends_with c.args.piece c.args.out.now.items c.args.token.items rest c.requires
