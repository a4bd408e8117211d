use Rattle.std.proofs.Common.{length, refl, ◌∙◌, subst, arith}
use Rattle.std.proofs.lemmas.Bool.{iff_false}
use Rattle.token_rules.specs.Reading.{body_of}
use Rattle.token_rules.specs.Tokens.{IsToken, IsVariableAt, OnlyDelimiters}
use Rattle.logtype_text.proofs.PartsLemmas.{delimiters_free, constant_token_free, free_join}
use Rattle.logtype_text.proofs.splitting.next_variable.Goals as goal

-- a token that is no variable
pub loop-token-preserved : goal.loop-token-preserved
loop-token-preserved c =
    let so_far = c.loop-token.invariant in
    let found = c.in-Some.ensures in
    let body = body_of c.args.tokens.now in
    let at = c.loop-token.at in
    let start = c.in-Some.token.start in
    let end = c.in-Some.token.end in
    let token : IsToken body start end = subst (λ b. IsToken b start end) so_far.same found.token in
    let skipped : OnlyDelimiters body at start = subst (λ b. OnlyDelimiters b at start) so_far.same found.first.1 in
    let no_variable : ¬ IsVariableAt body start end = subst (λ b. ¬ IsVariableAt b start end) so_far.same (iff_false found.variable c.if-token.false) in
    let in_range = token.in_range in
    let not_empty = token.not_empty in
    let free = free_join body at start end (delimiters_free body at start skipped) (constant_token_free body start end token no_variable) in
    record {
      same = found.body ∙ so_far.same;
      ordered = omega (arith, so_far.ordered, found.first.0, not_empty);
      in_range = in_range;
      outside = λ _ inside _. token.right inside;
      free = free_join body c.args.from at end so_far.free free;
    }

pub returns-then-token-clause-first : goal.returns-then-token-clause-first
returns-then-token-clause-first c =
    let so_far = c.loop-token.invariant in
    let found = c.in-Some.ensures in
    let body = body_of c.args.tokens.now in
    let at = c.loop-token.at in
    let start = c.in-Some.token.start in
    let skipped : OnlyDelimiters body at start = subst (λ b. OnlyDelimiters b at start) so_far.same found.first.1 in
    (omega (arith, so_far.ordered, found.first.0), free_join body c.args.from at start so_far.free (delimiters_free body at start skipped))

pub returns-then-token-clause-token : goal.returns-then-token-clause-token
returns-then-token-clause-token c =
    let so_far = c.loop-token.invariant in
    let found = c.in-Some.ensures in
    let body = body_of c.args.tokens.now in
    let start = c.in-Some.token.start in
    let end = c.in-Some.token.end in
    record { token = subst (λ b. IsToken b start end) so_far.same found.token; variable = subst (λ b. IsVariableAt b start end) so_far.same (found.variable.0 c.if-token.true) }

pub returns-clause-none : goal.returns-clause-none
returns-clause-none c =
    let so_far = c.loop-token.invariant in
    let body = body_of c.args.tokens.now in
    let at = c.loop-token.at in
    let only : OnlyDelimiters body at (length body) = subst (λ b. OnlyDelimiters b at (length b)) so_far.same (c.in_default.ensures.none.0 refl) in
    λ _. free_join body c.args.from at (length body) so_far.free (delimiters_free body at (length body) only)
