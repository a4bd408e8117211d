use Rattle.std.proofs.Common.{rules, length, refl}
use Rattle.std.proofs.lemmas.Option.{slice_get_read}
use Rattle.archive_core.proofs.LogTypeLemmas.{slots_known, slots_past}
use Rattle.archive_core.proofs.numbers.slots_at.Goals as goal

pub returns-in-Some : goal.returns-in-Some
returns-in-Some c = λ texts are.
    let known = c.args.known.now in
    let at = slice_get_read known (length known) c.args.number c.in-Some.log_type.now refl (search rules) (search rules) in
    slots_known texts known c.args.number c.in-Some.log_type.now c.as_slice.result.now are at c.as_slice.ensures.value

pub returns-in-None : goal.returns-in-None
returns-in-None c = λ texts known. slots_past texts c.args.known.now c.args.number known (search rules)
