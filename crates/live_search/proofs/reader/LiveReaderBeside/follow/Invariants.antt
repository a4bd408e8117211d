use Rattle.disk_seal.specs.Beside.{HasFollowed}
use Rattle.live_search.specs.Reader.{live_follower}
use Rattle.live_search.proofs.reader.LiveReaderBeside.follow.Given as goal

abbrev pub invariant-loop : goal.invariant-loop
invariant-loop g l =
    (goal.iterator-loop g).can_next l.iterator' × (goal.iterator-loop g).is_finite l.iterator'
    × HasFollowed g.D.Disk.state (live_follower g.K.Sink.written l.initial.self) (live_follower g.K.Sink.written l.self) (g.P.Looks.pass l.initial.pass) (g.P.Looks.pass l.pass)
