use Rattle.std.proofs.Common.{◌≡◌, refl, subst, sym}
use Rattle.std.specs.Int.{w64}
use Rattle.std.proofs.lemmas.Int.{to_z-of_z}
use Rattle.group_count.specs.Tables.{AreMinutes, MinuteState}
use Rattle.group_count.proofs.MinuteLemmas.{run_put}
use Rattle.group_count.proofs.minutes.MinuteTable.turn_to.Goals as goal

pub returns-in_ok-put_run-clause-same : goal.returns-in_ok-put_run-clause-same
returns-in_ok-put_run-clause-same c = λ keys held.
    let own = c.self.inside in
    let old : MinuteState = record { micro = own.micro; minutes = own.minutes.entries; first = own.first; run = own.run; without = own.without } in
    let is : old ≡ c.args.self.now = c.self.view_is in
    let put = rw (to_z-of_z w64 own.first c.self.invariant) at c.in_ok-put_run.ensures in
    run_put old _ keys put refl refl (subst (λ (t : MinuteState). AreMinutes t keys) (sym is) held)
