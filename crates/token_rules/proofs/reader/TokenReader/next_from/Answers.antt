use Rattle.std.proofs.Common.{◌≡◌, ◌<◌, ◌∙◌, length, sym, arith}
use Rattle.token_rules.specs.Tokens.{byte_before, is_equals_sign}
use Rattle.token_rules.proofs.ClassLemmas.{rule_by_tests, length-slice_range, equals_sign_before, equals_sign_at_front, tells}
use Rattle.token_rules.proofs.TokenLemmas.{run_is_token}
use Rattle.token_rules.proofs.reader.TokenReader.next_from.Goals as goal
use Rattle.token_rules.proofs.reader.TokenReader.next_from.Goals.{then-start-gt0, else-start-gt0}

pub returns-clause-token : goal.returns-clause-token
returns-clause-token c =
    let run = c.read_run-run.ensures.run in
    let skip = c.skip-start.ensures in
    let inside : c.skip-start.result < length c.args.self.now.body.now = omega (arith, skip.range.1) in
    run_is_token _ c.args.from _ _ c.requires.outside skip.range.0 inside skip.skipped (skip.stop inside) run.ordered run.in_range run.unbroken run.stop

pub returns-clause-variable : goal.returns-clause-variable
returns-clause-variable c =
    let run = c.read_run-run.ensures.run in
    let body = c.args.self.now.body.now in
    let start = c.skip-start.result in
    let before : c.if-start-gt0.after_equals ≡ is_equals_sign (byte_before body start) = elim c.if-start-gt0.branch [
      | then-start-gt0 w ↦ w.after_equals-is ∙ equals_sign_before body start w.if-start-gt0.true (omega (arith, c.skip-start.ensures.range.1))
      | else-start-gt0 w ↦ w.after_equals-is ∙ equals_sign_at_front body start w.if-start-gt0.false
    ] in
    tells _ _ (c.is_variable.ensures ∙ rule_by_tests _ _ _ _ _ _ _ run.digit run.letter run.hexadecimal (sym (length-slice_range body start _ run.in_range)) before)
