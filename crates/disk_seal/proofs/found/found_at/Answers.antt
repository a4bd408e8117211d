use Rattle.std.proofs.Common.{List, ℕ, Option, subst}
use Rattle.std.specs.Prelude.{IsNone}
use Rattle.disk_seal.proofs.found.found_at.Goals as goal

pub returns-in-Err-Damaged-load-clause-damaged : goal.returns-in-Err-Damaged-load-clause-damaged
returns-in-Err-Damaged-load-clause-damaged g c = λ place is.
    let untold = (c.load.ensures.damaged c.in-Err-Damaged-load.field-0-0 cc).untold in
    record { here = cc (is); untold = subst (λ (t : Option (List ℕ)). IsNone t) c.place_at.ensures.reads.rests.seen untold }
