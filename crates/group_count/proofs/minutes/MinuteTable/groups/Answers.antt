use Rattle.std.proofs.Common.{◌≡◌, subst, sym}
use Rattle.std.specs.Int.{w64}
use Rattle.std.proofs.lemmas.Int.{to_z-of_z}
use Rattle.std.proofs.lemmas.Result.{IfOk-weaker}
use Rattle.group_count.specs.Tables.{AreMinutes, MinuteState}
use Rattle.group_count.proofs.MinuteLemmas.{minute_groups}
use Rattle.group_count.proofs.minutes.MinuteTable.groups.Goals as goal

pub returns-clause-groups : goal.returns-clause-groups
returns-clause-groups c =
    let own = c.self.inside in
    let old : MinuteState = record { micro = own.micro; minutes = own.minutes.entries; first = own.first; run = own.run; without = own.without } in
    let is : old ≡ c.args.self = c.self.view_is in
    let put = rw (to_z-of_z w64 own.first c.self.invariant) at c.in_ok-put_run.ensures in
    IfOk-weaker c.groups_of.result _ _
    (λ groups are keys held few. minute_groups old c.put_run.new.minutes keys groups (subst (λ (t : MinuteState). AreMinutes t keys) (sym is) held) few put c.groups_of.ensures.ordered are)
    c.groups_of.ensures.groups
