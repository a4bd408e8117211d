use Rattle.std.proofs.Common.{◌+◌, ◌≤◌, sym, subst}
use Rattle.turn_lock.specs.Words.{seen}
use Rattle.disk_seal.specs.Looked.{WhereTold, journal_length}
use Rattle.live_search.specs.Looking.{IsGateOfCount}
use Rattle.live_search.specs.Reader.{LiveView}
use Rattle.live_search.proofs.FollowLemmas.{gate_of}
use Rattle.live_search.proofs.reader.LiveReader.find.Goals as goal

pub find_next-requires-clause-gate : goal.find_next-requires-clause-gate
find_next-requires-clause-gate g c =
    subst (λ (v : LiveView _). WhereTold g.D.Disk.state (g.P.Looks.pass c.args.pass.now) (IsGateOfCount v.reached.at (v.reached.first + v.reached.handled))) (sym c.self.view_is)
    (gate_of g.K.Sink.written g.D.Disk.state (g.P.Looks.pass c.args.pass.now) c.args.self.now c.requires.runs c.requires.may.keeps)

pub find_next-requires-clause-within : goal.find_next-requires-clause-within
find_next-requires-clause-within g c =
    subst (λ (v : LiveView _). v.reached.first + v.reached.handled ≤ journal_length (seen (g.P.Looks.pass c.args.pass.now))) (sym c.self.view_is) c.requires.may.keeps.within
