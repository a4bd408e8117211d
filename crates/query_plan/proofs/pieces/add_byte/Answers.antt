use Rattle.std.proofs.Common.{rules, ◌≡◌, ◌++◌, [], ◌∷◌, ap, ◌∙◌}
use Rattle.std.specs.Prelude.{true}
use Rattle.token_rules.specs.Tokens.{is_token_byte}
use Rattle.query_plan.specs.Cutting.{fronted}
use Rattle.query_plan.proofs.PlanLemmas.{goes_on, no_delimiter}
use Rattle.query_plan.proofs.pieces.add_byte.Goals as goal

pub returns : goal.returns
returns c rest =
    let token : c.push.new.self.items ≡ c.args.token.items ++ c.args.byte ∷ [] = search rules in
    let goes : is_token_byte c.args.byte ≡ true = search (rules, no_delimiter) in
    ap (λ t. c.args.out.now.items ++ fronted t rest) token
    ∙ goes_on (is_token_byte c.args.byte) c.args.byte c.args.out.now.items c.args.token.items rest goes
