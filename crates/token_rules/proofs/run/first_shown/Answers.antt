use Rattle.std.proofs.Common.{◌≡◌, ◌+◌, ◌-◌, ◌<◌, ◌∙◌, sym, ap, arith}
use Rattle.token_rules.specs.StepsOfWindows.{test}
use Rattle.token_rules.specs.Tokens.{is_token_byte}
use Rattle.token_rules.proofs.WindowLemmas.{shown_at, inside_body, delimiters_shown}
use Rattle.token_rules.proofs.run.first_shown.Goals as goal

pub returns-then-clear-lt-SIZE-clause-stop : goal.returns-then-clear-lt-SIZE-clause-stop
returns-then-clear-lt-SIZE-clause-stop c =
    let w = c.args.window.now.at in
    let at = c.args.at in
    let clear = c.clear_from-clear.result in
    let low = c.if-clear-lt-SIZE.true in
    let place : at - w + clear ≡ at + clear - w = omega (arith, c.requires.has) in
    let inside : at + clear < w + 64 = omega (arith, c.requires.has, c.clear_from-clear.ensures.inside low) in
    sym (shown_at is_token_byte c.args.body.now w c.args.window.now.tokens c.requires.shows.0 (at + clear) (omega (arith, c.requires.has)) inside) ∙ ap (test c.args.window.now.tokens) (sym place) ∙ c.clear_from-clear.ensures.set low

pub returns-then-clear-lt-SIZE-clause-range : goal.returns-then-clear-lt-SIZE-clause-range
returns-then-clear-lt-SIZE-clause-range c = (omega arith, inside_body c.args.body.now _ (returns-then-clear-lt-SIZE-clause-stop c))

pub returns-then-clear-lt-SIZE-clause-skipped : goal.returns-then-clear-lt-SIZE-clause-skipped
returns-then-clear-lt-SIZE-clause-skipped c =
    let low = c.if-clear-lt-SIZE.true in
    delimiters_shown c.args.body.now c.args.window.now.at c.args.window.now.tokens c.args.at c.clear_from-clear.result c.requires.shows.0 c.requires.has.0 c.clear_from-clear.ensures.clear _ (omega arith) (omega (arith, c.requires.has, c.clear_from-clear.ensures.inside low))

pub returns-clause-none : goal.returns-clause-none
returns-clause-none c =
    let high = c.if-clear-lt-SIZE.false in
    λ _. delimiters_shown c.args.body.now c.args.window.now.at c.args.window.now.tokens c.args.at c.clear_from-clear.result c.requires.shows.0 c.requires.has.0 c.clear_from-clear.ensures.clear _ (omega (arith, high, c.requires.has)) (omega arith)
