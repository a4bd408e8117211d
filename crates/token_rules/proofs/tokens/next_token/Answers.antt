use Rattle.std.proofs.Common.{◌≡◌, ◌∙◌, sym, arith}
use Rattle.token_rules.specs.Tokens.{byte_before, is_equals_sign}
use Rattle.token_rules.proofs.ClassLemmas.{rule_by_classes, length-slice_range, equals_sign_before, equals_sign_at_front, tells}
use Rattle.token_rules.proofs.tokens.next_token.Goals as goal
use Rattle.token_rules.proofs.tokens.next_token.Goals.{then-start-gt0, else-start-gt0}

pub returns-clause-variable : goal.returns-clause-variable
returns-clause-variable c =
    let run = c.run_from-run.ensures in
    let body = c.args.body.now in
    let start = c.skip_delimiters-start.result in
    let before : c.if-start-gt0.after_equals ≡ is_equals_sign (byte_before body start) = elim c.if-start-gt0.branch [
      | then-start-gt0 w ↦ w.after_equals-is ∙ equals_sign_before body start w.if-start-gt0.true (omega arith)
      | else-start-gt0 w ↦ w.after_equals-is ∙ equals_sign_at_front body start w.if-start-gt0.false
    ] in
    tells _ _ (c.tells_variable-variable.ensures ∙ rule_by_classes _ _ _ _ _ _ run.classes (sym (length-slice_range body start _ run.range.1)) before)
