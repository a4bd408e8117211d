use Rattle.std.proofs.Common.{subst}
use Rattle.row_codec.specs.StepsCut.{TellsBreaks}
use Rattle.row_codec.proofs.CutTextLemmas.{TokenFacts, constants_break, constants_vary, cut_constants, token_facts, token_some}
use Rattle.row_codec.proofs.cutting.past_constants.Goals as goal

-- the token that stands first
facts : (c : goal.After-past_token_bytes-after) → TokenFacts c.args.at.prev c.args.at.rest.now c.past_token_bytes-after.result.now c.past_token_bytes-after.ensures.bytes.bytes
facts c =
    let are = c.past_token_bytes-after.ensures.bytes in
    token_facts c.args.at.prev c.args.at.rest.now c.past_token_bytes-after.result.now are.bytes
    (token_some c.args.at.rest.now c.requires.0 c.past_token_bytes-after.result.now c.requires.1 are c.past_token_bytes-after.ensures.stops) are.cut are.unbroken

pub is_var-requires-clause-not_empty : goal.is_var-requires-clause-not_empty
is_var-requires-clause-not_empty c = (facts c).some

pub is_var-requires-clause-no_delimiter : goal.is_var-requires-clause-no_delimiter
is_var-requires-clause-no_delimiter c = (facts c).unbroken

pub returns-then-is_var-clause-none : goal.returns-then-is_var-clause-none
returns-then-is_var-clause-none c = λ words.
    let at = c.args.at in
    let after = c.past_token_bytes-after.result.now in
    let are = c.past_token_bytes-after.ensures.bytes in
    let stops = c.past_token_bytes-after.ensures.stops in
    let some = token_some at.rest.now c.requires.0 after c.requires.1 are stops in
    let tells = token_facts at.prev at.rest.now after are.bytes some are.cut are.unbroken in
    constants_vary words at.prev at.rest.now at.words.now are.bytes after some are.cut are.unbroken stops (tells.variable.0 (c.is_var.ensures.0 c.if-is_var.true))

pub returns-then-not-breaks-clause-none : goal.returns-then-not-breaks-clause-none
returns-then-not-breaks-clause-none c = λ words.
    let at = c.args.at in
    let after = c.past_token_bytes-after.result.now in
    let are = c.past_token_bytes-after.ensures.bytes in
    let stops = c.past_token_bytes-after.ensures.stops in
    let some = token_some at.rest.now c.requires.0 after c.requires.1 are stops in
    constants_break words at.prev at.rest.now at.words.now are.bytes after some are.cut are.unbroken stops (subst (λ b. TellsBreaks after b) c.if-not-breaks.true c.breaks.ensures)

pub returns-clause-some : goal.returns-clause-some
returns-clause-some c = λ words.
    let at = c.args.at in
    let after = c.past_token_bytes-after.result.now in
    let are = c.past_token_bytes-after.ensures.bytes in
    let stops = c.past_token_bytes-after.ensures.stops in
    let some = token_some at.rest.now c.requires.0 after c.requires.1 are stops in
    let tells = token_facts at.prev at.rest.now after are.bytes some are.cut are.unbroken in
    cut_constants words at.prev at.rest.now at.words.now are.bytes after some are.cut are.unbroken stops (subst (λ b. TellsBreaks after b) c.if-not-breaks.false c.breaks.ensures)
    (λ variable. absurd (cc (c.is_var.ensures.1 (tells.variable.1 variable), c.if-is_var.false)))

pub returns-clause-shorter : goal.returns-clause-shorter
returns-clause-shorter c =
    let are = c.past_token_bytes-after.ensures.bytes in
    let some = token_some c.args.at.rest.now c.requires.0 c.past_token_bytes-after.result.now c.requires.1 are c.past_token_bytes-after.ensures.stops in
    (token_facts c.args.at.prev c.args.at.rest.now c.past_token_bytes-after.result.now are.bytes some are.cut are.unbroken).shorter
