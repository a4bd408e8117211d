use Rattle.std.proofs.Common.{◌≡◌, Some, arith, rules, ap, ◌∙◌}
use Rattle.std.specs.Int.{w64}
use Rattle.std.specs.Int.RustNames.{FitsSigned}
use Rattle.std.proofs.lemmas.Int.{to_z-of_z}
use Rattle.group_count.specs.Tables.{MinuteState, minute_at, start_of}
use Rattle.group_count.proofs.MinuteLemmas.{minute_some, one_more}
use Rattle.group_count.proofs.minutes.MinuteTable.count.Goals as goal

pub returns-clause-counted : goal.returns-clause-counted
returns-clause-counted c = λ keys held.
    let mid = c.turn_to-2.new.self in
    let fits : FitsSigned w64 c.start_of.result = search rules in
    let turned = rw (to_z-of_z w64 c.start_of.result fits) at c.in_ok-turn_to.ensures.first in
    let started = rw (to_z-of_z w64 c.args.moment c.ranges.moment) at c.start_of.ensures in
    let micro : c.turn_to.inside.micro ≡ c.args.self.now.micro = ap (λ (t : MinuteState). t.micro) c.turn_to.view_is in
    let first : start_of c.args.self.now.micro c.args.moment ≡ mid.first = cc (turned, started, micro) in
    let key : minute_at c.args.self.now.micro c.args.pattern c.args.moment ≡ Some mid.first =
    minute_some c.args.self.now.micro c.args.pattern c.args.moment c.if-pattern-eq0.false ∙ ap Some first in
    let run : c.self-2.inside.run ≡ mid.run = ap (λ (t : MinuteState). t.run) c.self-2.view_is in
    one_more mid _ keys _ key (ap (λ (t : MinuteState). t.minutes) c.self-2.view_is) (ap (λ (t : MinuteState). t.first) c.self-2.view_is) (ap (λ (t : MinuteState). t.without) c.self-2.view_is)
    (λ small. omega arith) (c.in_ok-turn_to.ensures.same keys held)
