use Rattle.std.proofs.Common.{◌+◌, arith}
use Rattle.live_search.proofs.FollowLemmas.{longer}
use Rattle.live_search.proofs.LookingLemmas.{count_differs, marked_of, may_look, no_sink, nothing_of, too_many}
use Rattle.live_search.proofs.looking.find_next.Goals as goal

pub look-requires-clause-gate : goal.look-requires-clause-gate
look-requires-clause-gate g c = may_look g.D.Disk.state (g.P.Looks.pass c.args.pass.now) c.args.at (c.args.first + c.args.handled) c.requires.gate

pub returns-in-Err-clause-fault : goal.returns-in-Err-clause-fault
returns-in-Err-clause-fault g c = λ is.
    marked_of g.D.Disk.state (g.P.Looks.pass c.look.new.self) c.look.result c.in-Err.refusal c.of_found.result c.in-Err.is c.of_found.ensures (cc (is)) c.look.ensures.fault

pub returns-in-Err-clause-damaged : goal.returns-in-Err-clause-damaged
returns-in-Err-clause-damaged g c = λ place is.
    nothing_of g.D.Disk.state (g.P.Looks.pass c.look.new.self) c.args.at c.look.result c.in-Err.refusal c.of_found.result place c.in-Err.is c.of_found.ensures (cc (is)) c.look.ensures.damaged

pub returns-in-Err-clause-sink : goal.returns-in-Err-clause-sink
returns-in-Err-clause-sink g c = λ is. no_sink c.in-Err.refusal c.of_found.result c.of_found.ensures (cc (is))

pub overflow_add-count : goal.overflow_add-count
overflow_add-count g c =
    let more = longer g.D.Disk.state (g.P.Looks.pass c.args.pass.now) (g.P.Looks.pass c.look.new.self) c.look.ensures.turned in
    let fits = rw c.in-Ok.is at c.look.type_inv in
    omega (arith, c.requires.within, more, c.in-Ok.ensures.records)

pub returns-then-count-records-clause-damaged : goal.returns-then-count-records-clause-damaged
returns-then-count-records-clause-damaged g c = λ place is.
    count_differs g.D.Disk.state (g.P.Looks.pass c.args.pass.now) (g.P.Looks.pass c.look.new.self) c.look.ensures.turned c.args.at (c.args.first + c.args.handled) c.requires.gate
    c.in-Ok.look.records c.in-Ok.ensures.counted c.if-count-records.true (rw c.in_default.is at c.in-Ok.ensures.none)

pub returns-then-count-records-2-clause-damaged : goal.returns-then-count-records-2-clause-damaged
returns-then-count-records-2-clause-damaged g c = λ place is.
    let has = rw c.in-Some.is at c.in-Ok.ensures.next in
    too_many g.D.Disk.state (g.P.Looks.pass c.args.pass.now) (g.P.Looks.pass c.look.new.self) c.look.ensures.turned c.args.at (c.args.first + c.args.handled) c.requires.gate
    c.in-Ok.look.records c.in-Ok.ensures.counted c.in-Some.found c.if-count-records-2.true has.next
