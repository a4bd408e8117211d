use Rattle.std.proofs.Common.{◌≡◌, ◌+◌, ◌-◌, ◌∙◌, sym, ap, arith}
use Rattle.token_rules.specs.StepsOfWindows.{test}
use Rattle.token_rules.specs.Tokens.{is_token_byte, is_digit, is_letter, is_hexadecimal}
use Rattle.token_rules.proofs.WindowLemmas.{shown_at, tokens_shown, run_inside, any_shown, all_shown}
use Rattle.token_rules.proofs.run.shown_run.Goals as goal

pub returns-then-from-count-lt-SIZE : goal.returns-then-from-count-lt-SIZE
returns-then-from-count-lt-SIZE c =
    let body = c.args.body.now in
    let w = c.args.window.now.at in
    let start = c.args.start in
    let count = c.set_from-count.result in
    let tokens = c.args.window.now.tokens in
    let later = c.requires.has.0 in
    let low = c.if-from-count-lt-SIZE.true in
    let unbroken = tokens_shown body w tokens start count c.requires.shows.0 later (omega arith) c.set_from-count.ensures.set in
    let inside = run_inside body start count c.requires.inside unbroken in
    let place : start - w + count ≡ start + count - w = omega (arith, c.requires.has) in
    record {
      ordered = omega arith;
      in_range = inside;
      unbroken = unbroken;
      stop = λ _. sym (shown_at is_token_byte body w tokens c.requires.shows.0 (start + count) (omega (arith, c.requires.has)) (omega (arith, c.requires.has, low))) ∙ ap (test tokens) (sym place) ∙ c.set_from-count.ensures.clear low;
      digit = c.any_bit.ensures ∙ any_shown is_digit body w _ start count c.requires.shows.1 later (omega arith) inside;
      letter = c.any_bit-then-from-count-lt-SIZE.ensures ∙ any_shown is_letter body w _ start count c.requires.shows.2 later (omega arith) inside;
      hexadecimal = c.all_bits.ensures ∙ all_shown is_hexadecimal body w _ start count c.requires.shows.3 later (omega arith) inside;
    }
