use Rattle.std.proofs.Common.{ℕ, List, ◌++◌, ap, append-nil}
use Rattle.std.specs.Fmt.{decimal}
use Rattle.command_refusals.proofs.RefusalLemmas.{Says-joined, Says-same}
use Rattle.command_refusals.proofs.refusal.say_number.Goals as goal

pub returns-then-goes_out-clause-said : goal.returns-then-goes_out-clause-said
returns-then-goes_out-clause-said g c =
    let told = decimal c.args.number ++ c.args.behind.now in
    Says-joined _ _ _ _ _ _ _ told c.goes_out.ensures.later c.say.ensures.later c.goes_out.ensures.said
    (Says-same _ _ _ _ _ told (rw (c.as_bytes-number.ensures.value, c.format.ensures.text) (ap (λ (t : List ℕ). decimal c.args.number ++ t) (append-nil c.args.behind.now))) c.say.ensures.said)
