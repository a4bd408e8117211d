use Rattle.std.proofs.Common.{◌≡◌, refl, rules, subst, sym}
use Rattle.std.specs.Int.{w64}
use Rattle.std.proofs.lemmas.Int.{to_z-of_z}
use Rattle.group_count.specs.Tables.{AreMinutes, MinuteState}
use Rattle.group_count.proofs.JoinLemmas.{minutes_joined}
use Rattle.group_count.proofs.minutes.MinuteTable.take_in.Goals as goal

pub returns-clause-counted : goal.returns-clause-counted
returns-clause-counted c = λ before keys one two.
    let own = c.self.inside in
    let old : MinuteState = record { micro = own.micro; minutes = own.minutes.entries; first = own.first; run = own.run; without = own.without } in
    let is : old ≡ c.args.self.now = c.self.view_is in
    let theirs = c.other.inside in
    let other : MinuteState = record { micro = theirs.micro; minutes = theirs.minutes.entries; first = theirs.first; run = theirs.run; without = theirs.without } in
    let other_is : other ≡ c.args.other.now = c.other.view_is in
    let put = rw (to_z-of_z w64 own.first c.self.invariant) at c.in_ok-put_run.ensures in
    let behind = rw (to_z-of_z w64 theirs.first c.other.invariant) at c.in_ok-put_run-2.ensures in
    minutes_joined old other _ c.put_run.new.minutes.entries c.add_all.new.minutes.entries before keys put c.in_ok-add_all.ensures behind refl (search rules)
    (subst (λ (t : MinuteState). AreMinutes t before) (sym is) one) (subst (λ (t : MinuteState). AreMinutes t keys) (sym other_is) two)
