use Rattle.std.proofs.Common.{◌≡◌, ◌∙◌, ℕ, List, ap, false, true, refl, rules, subst}
use Rattle.std.specs.Prelude.{None}
use Rattle.query_plan.specs.Needs.{around}
use Rattle.subquery_filter.specs.NumberText.{is_number_part}
use Rattle.subquery_filter.specs.Tokens.{is_inner, stored}
use Rattle.subquery_filter.proofs.ClosedLemmas.{asked_at, closed_in}
use Rattle.subquery_filter.proofs.FilterLemmas.{tokens_push}
use Rattle.subquery_filter.proofs.StoredLemmas.{word_inner}
use Rattle.subquery_filter.proofs.tokens.push_token.Goals as goal

pub returns : goal.returns
returns c = λ are.
    let w = c.in_ok-chunk.chunk in
    tokens_push c.args.pieces.now c.args.tokens.now.items c.push.new.self.items _ c.in_ok-push.ensures.items
    (asked_at c.args.pieces.now c.args.place c.in-Some.bytes.now w _ c.in-Some.ensures (search rules) refl (λ none. c.in_ok-chunk.ensures.runs (c.code_of-closed.ensures.none none))
    (closed_in c.args.pieces.now c.in-Some.bytes.now w c.closed_variable-variable.result c.code_of-closed.result c.closed_variable-variable.ensures c.in_ok-chunk.ensures.closed c.code_of-closed.ensures.some)) are

pub invariant_of-push-clause-numeric_is : goal.invariant_of-push-clause-numeric_is
invariant_of-push-clause-numeric_is c =
    let same : c.in-Some.bytes.now ≡ c.new-text.result = search rules in
    subst (λ (t : List ℕ). c.is_open-numeric.result ≡ false → c.code_of-closed.result ≡ None → is_number_part true t ≡ false) same c.is_open-numeric.ensures

pub invariant_of-push-clause-inner : goal.invariant_of-push-clause-inner
invariant_of-push-clause-inner c =
    let same : c.in-Some.bytes.now ≡ c.new-text.result = search rules in
    subst (λ (t : List ℕ). is_inner t ≡ true) same (word_inner c.args.pieces.now c.args.place c.in-Some.bytes.now c.requires.cut c.in-Some.ensures)

pub invariant_of-push-clause-storing_is : goal.invariant_of-push-clause-storing_is
invariant_of-push-clause-storing_is c =
    let same : c.in-Some.bytes.now ≡ c.new-text.result = search rules in
    c.in_ok-storing.ensures ∙ ap (λ (t : List ℕ). around (stored t)) same
