use Rattle.std.proofs.Common.{◌∙◌, sym}
use Rattle.std.proofs.lemmas.List.{append_cancel_left}
use Rattle.time_patterns.specs.Digits.{byte_text}
use Rattle.time_patterns.proofs.TailLemmas.{behind_fraction}
use Rattle.time_patterns.proofs.form.Form.read_tail.Goals as goal

pub returns-in_err-rest-clause-none : goal.returns-in_err-rest-clause-none
returns-in_err-rest-clause-none c =
    rw c.from_residual-in_err-rest.ensures (λ x rest e ends.
    let after = behind_fraction c.args.self.now c.in_ok-number.number x c.args.text.now c.in_ok-number.rest.now rest c.in_ok-number.ensures.some.0 e in
    c.in_err-rest.ensures.none rest after)

pub returns-then-not-ends_stamp-clause-none : goal.returns-then-not-ends_stamp-clause-none
returns-then-not-ends_stamp-clause-none c = λ x rest e ends.
    let after = behind_fraction c.args.self.now c.in_ok-number.number x c.args.text.now c.in_ok-number.rest.now rest c.in_ok-number.ensures.some.0 e in
    let same = append_cancel_left (byte_text c.args.self.now.close) c.in_ok-rest.rest.now rest (sym c.in_ok-rest.ensures.some ∙ after) in
    let told = c.ends_stamp.ensures.1 (rw same ends) in cc
