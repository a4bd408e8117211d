use Rattle.disk_seal.specs.Pieces.{size_of, added_by}
use Rattle.std.proofs.lemmas.Result.{IfErr-weaker}
use Rattle.disk_seal.proofs.DurableLemmas.{durable_by, fault_by}
use Rattle.disk_seal.proofs.SealLemmas.{put_adds, grown_all, grown_some, put_back, fault_of}
use Rattle.disk_seal.proofs.pieces.put_pieces.Goals as goal

pub put-requires-clause-adds : goal.put-requires-clause-adds
put-requires-clause-adds g c =
    put_adds g.D.Disk.state c.args.turn.value c.append_pieces-answer.new.self c.args.pass.now c.args.pieces.now c.append_pieces-answer.result (size_of c.args.pieces.now) c.requires c.append_pieces-answer.ensures.added
    c.append_pieces-answer.ensures.halted

pub returns-clause-halted : goal.returns-clause-halted
returns-clause-halted g c =
    grown_some g.D.Disk.state c.args.turn.value c.append_pieces-answer.new.self c.args.pass.now c.put.new.pass c.args.pieces.now c.append_pieces-answer.result (size_of c.args.pieces.now) c.requires c.put.ensures.still
    c.put.ensures.ready c.put.ensures.seen c.put.ensures.own c.append_pieces-answer.ensures.rests c.append_pieces-answer.ensures.halted c.append_pieces-answer.ensures.fault

pub returns-clause-moments : goal.returns-clause-moments
returns-clause-moments g c =
    put_back g.D.Disk.state c.args.turn.value c.append_pieces-answer.new.self c.args.pass.now c.put.new.pass c.args.pieces.now c.append_pieces-answer.result (size_of c.args.pieces.now) c.requires c.put.ensures.still
    c.put.ensures.ready c.put.ensures.seen c.put.ensures.own c.facts-2.ensures c.append_pieces-answer.ensures.stays c.append_pieces-answer.ensures.moments c.append_pieces-answer.ensures.rests

pub returns-clause-durable : goal.returns-clause-durable
returns-clause-durable g c =
    durable_by g.D.Disk.state c.args.turn.value c.args.pass.now c.put.new.pass c.requires.hand (added_by c.args.pieces.now) c.append_pieces-answer.result c.facts.ensures c.append_pieces-answer.ensures.runs
    (grown_all g.D.Disk.state c.args.turn.value c.append_pieces-answer.new.self c.args.pass.now c.put.new.pass c.args.pieces.now c.append_pieces-answer.result (size_of c.args.pieces.now) c.requires c.put.ensures.still
    c.put.ensures.ready c.put.ensures.seen c.put.ensures.own c.append_pieces-answer.ensures.added)

pub returns-clause-counted : goal.returns-clause-counted
returns-clause-counted g c =
    fault_by g.D.Disk.state c.args.turn.value c.args.pass.now c.put.new.pass c.requires.hand (added_by c.args.pieces.now) c.append_pieces-answer.result
    (grown_some g.D.Disk.state c.args.turn.value c.append_pieces-answer.new.self c.args.pass.now c.put.new.pass c.args.pieces.now c.append_pieces-answer.result (size_of c.args.pieces.now) c.requires c.put.ensures.still
    c.put.ensures.ready c.put.ensures.seen c.put.ensures.own c.append_pieces-answer.ensures.rests c.append_pieces-answer.ensures.halted c.append_pieces-answer.ensures.fault)

pub returns-clause-fault : goal.returns-clause-fault
returns-clause-fault g c =
    IfErr-weaker c.append_pieces-answer.result _ _ (λ f has. fault_of g.D.Disk.state c.args.turn.value c.append_pieces-answer.new.self c.args.pass.now c.requires.hand c.append_pieces-answer.ensures.stays f has)
    c.append_pieces-answer.ensures.fault
