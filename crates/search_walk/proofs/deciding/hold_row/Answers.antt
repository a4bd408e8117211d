use Rattle.std.proofs.Common.{rules}
use Rattle.word_places.proofs.HeldLemmas.{grow_same}
use Rattle.search_walk.proofs.ReadyLemmas.{row_ready, serves_grown}
use Rattle.search_walk.proofs.deciding.hold_row.Goals as goal

pub returns-then-has_row-clause-grow : goal.returns-then-has_row-clause-grow
returns-then-has_row-clause-grow g c = grow_same c.args.held.now.records

pub returns-then-has_row-clause-ready : goal.returns-then-has_row-clause-ready
returns-then-has_row-clause-ready g c = row_ready c.args.context.now.names c.args.context.now.query c.args.held.now _ c.args.verdict c.requires.serves.kept c.requires.decided (c.has_row.ensures (search rules))

pub returns-in_err-answer-clause-serves : goal.returns-in_err-answer-clause-serves
returns-in_err-answer-clause-serves g c =
    serves_grown c.args.context.now.names (g.D.Disk.state c.args.disk.now).seen c.args.held.now c.hold_row-answer.new.self c.requires.told c.requires.serves c.hold_row-answer.ensures.same
    c.hold_row-answer.ensures.grow c.record_count.ensures.numbered c.hold_row-answer.ensures.right

pub returns-clause-serves : goal.returns-clause-serves
returns-clause-serves g c =
    serves_grown c.args.context.now.names (g.D.Disk.state c.args.disk.now).seen c.args.held.now c.hold_row-answer.new.self c.requires.told c.requires.serves c.hold_row-answer.ensures.same
    c.hold_row-answer.ensures.grow c.record_count.ensures.numbered c.hold_row-answer.ensures.right
