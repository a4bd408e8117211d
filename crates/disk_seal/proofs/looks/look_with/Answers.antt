use Rattle.std.proofs.Common.{◌∙◌}
use Rattle.disk_seal.proofs.LookedLemmas.{may_look, marks_by, marks_added, has_turned, records_told, counted_by, counted_told, has_next, has_none, has_halted}
use Rattle.disk_seal.proofs.looks.look_with.Goals as goal

pub next_after-answer-requires : goal.next_after-answer-requires
next_after-answer-requires g c =
    let take = c.take-turn.ensures in
    record { gate = may_look g.D.Disk.state c.args.pass.now c.take-turn.new.self c.take-turn.result.value c.facts.ensures take.still take.seen take.entries take.fixed c.args.at c.requires.gate }

pub put-requires-clause-adds : goal.put-requires-clause-adds
put-requires-clause-adds g c =
    let take = c.take-turn.ensures in
    let look = c.next_after-answer.ensures in
    let marks = marks_by g.D.Disk.state c.args.pass.now c.take-turn.new.self c.take-turn.result.value c.facts.ensures take.still take.seen take.entries take.fixed c.next_after-answer.new.self look.stays
    c.args.at c.next_after-answer.result look.runs look.fault look.damaged look.memory in
    marks_added g.D.Disk.state c.args.pass.now c.take-turn.new.self c.take-turn.result.value c.facts.ensures take.still take.seen take.entries take.fixed c.next_after-answer.new.self look.stays marks

pub returns-in-Ok-clause-records : goal.returns-in-Ok-clause-records
returns-in-Ok-clause-records g c =
    let take = c.take-turn.ensures in
    c.records-records.ensures
    ∙ records_told g.D.Disk.state c.args.pass.now c.take-turn.new.self c.take-turn.result.value c.facts.ensures take.still take.seen take.entries take.fixed c.next_after-answer.new.self c.next_after-answer.ensures.stays
    c.put.new.pass c.put.ensures.still c.put.ensures.ready c.put.ensures.seen c.in-Ok.ensures.runs

pub returns-in-Ok-clause-counted : goal.returns-in-Ok-clause-counted
returns-in-Ok-clause-counted g c =
    let take = c.take-turn.ensures in
    counted_by g.D.Disk.state c.put.new.pass _ _ c.records-records.ensures
    (counted_told g.D.Disk.state c.args.pass.now c.take-turn.new.self c.take-turn.result.value c.facts.ensures take.still take.seen take.entries take.fixed c.next_after-answer.new.self c.next_after-answer.ensures.stays
    c.put.new.pass c.put.ensures.still c.put.ensures.ready c.put.ensures.seen c.in-Ok.ensures.runs)

pub returns-in-Ok-clause-next : goal.returns-in-Ok-clause-next
returns-in-Ok-clause-next g c =
    let take = c.take-turn.ensures in
    has_next g.D.Disk.state c.args.pass.now c.take-turn.new.self c.take-turn.result.value c.facts.ensures take.still take.seen take.entries take.fixed c.next_after-answer.new.self c.next_after-answer.ensures.stays
    c.put.new.pass c.put.ensures.still c.put.ensures.ready c.put.ensures.seen c.args.at c.in-Ok.next c.in-Ok.ensures.runs c.in-Ok.ensures.found

pub returns-in-Ok-clause-none : goal.returns-in-Ok-clause-none
returns-in-Ok-clause-none g c =
    let take = c.take-turn.ensures in
    has_none g.D.Disk.state c.args.pass.now c.take-turn.new.self c.take-turn.result.value c.facts.ensures take.still take.seen take.entries take.fixed c.next_after-answer.new.self c.next_after-answer.ensures.stays
    c.put.new.pass c.put.ensures.still c.put.ensures.ready c.put.ensures.seen c.args.at c.in-Ok.next c.in-Ok.ensures.runs c.in-Ok.ensures.last

pub returns-clause-turned : goal.returns-clause-turned
returns-clause-turned g c =
    let take = c.take-turn.ensures in
    let look = c.next_after-answer.ensures in
    let marks = marks_by g.D.Disk.state c.args.pass.now c.take-turn.new.self c.take-turn.result.value c.facts.ensures take.still take.seen take.entries take.fixed c.next_after-answer.new.self look.stays
    c.args.at c.next_after-answer.result look.runs look.fault look.damaged look.memory in
    has_turned g.D.Disk.state c.args.pass.now c.take-turn.new.self c.take-turn.result.value c.facts.ensures take.still take.seen take.entries take.fixed c.next_after-answer.new.self look.stays
    c.put.new.pass c.put.ensures.still c.put.ensures.ready c.put.ensures.seen take.own c.put.ensures.own marks

pub returns-clause-fault : goal.returns-clause-fault
returns-clause-fault g c = λ opened now is.
    let take = c.take-turn.ensures in
    has_halted g.D.Disk.state c.args.pass.now c.take-turn.new.self c.take-turn.result.value c.facts.ensures take.still take.seen take.entries take.fixed c.next_after-answer.new.self c.next_after-answer.ensures.stays
    c.put.new.pass c.put.ensures.still c.put.ensures.ready c.put.ensures.seen (record { opened = opened; now = now }) (c.next_after-answer.ensures.fault opened now (cc (c.in-Err.is, is)))
