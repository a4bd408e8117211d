use Rattle.std.proofs.Common.{◌≡◌, ◌++◌, ◌∙◌, length, take, sym, ap, arith, append_assoc}
use Rattle.std.proofs.lemmas.List.{append_cancel_left, length-append, take_at}
use Rattle.time_patterns.specs.Digits.{digits, byte_text}
use Rattle.time_patterns.proofs.DigitLemmas.{length-digits}
use Rattle.time_patterns.proofs.field.Field.read.Goals as goal

pub returns-in_err-front-clause-none : goal.returns-in_err-front-clause-none
returns-in_err-front-clause-none c =
    rw c.from_residual-in_err-front.ensures (λ x rest e.
    let before = byte_text c.args.self.now.before in
    let d = c.args.self.now.digits in
    let left = append_cancel_left before c.in_ok-text.text.now (digits d x ++ rest) (sym c.in_ok-text.ensures.some ∙ e ∙ append_assoc before (digits d x) rest) in
    omega (arith, c.in_err-front.ensures.cases, ap length left, length-append (digits d x) rest, length-digits d x))

pub returns-in_err-read_digits-clause-none : goal.returns-in_err-read_digits-clause-none
returns-in_err-read_digits-clause-none c =
    rw c.from_residual-in_err-read_digits.ensures (λ x rest e.
    let before = byte_text c.args.self.now.before in
    let d = c.args.self.now.digits in
    let left = append_cancel_left before c.in_ok-text.text.now (digits d x ++ rest) (sym c.in_ok-text.ensures.some ∙ e ∙ append_assoc before (digits d x) rest) in
    let split = c.in_ok-front.ensures.cases in
    let mid : c.from.result ≡ d = c.from.ensures in
    let front : c.in_ok-front.front.now ≡ digits d x =
    split.1 ∙ ap (λ n. take n c.in_ok-text.text.now) mid ∙ ap (take d) left ∙ take_at (digits d x) rest d (length-digits d x) in
    c.in_err-read_digits.ensures.none x (front ∙ ap (λ n. digits n x) (sym (split.3 ∙ mid))))
