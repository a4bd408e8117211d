use Rattle.std.proofs.Common.{rules}
use Rattle.disk_seal.proofs.LookedLemmas.{follows_none}
use Rattle.live_search.specs.Reader.{live_follower}
use Rattle.live_search.proofs.FollowLemmas.{follows_on, may_on}
use Rattle.live_search.proofs.reader.LiveReaderBeside.follow.Goals as goal

pub loop-init : goal.loop-init
loop-init g c = (search rules, search rules, follows_none g.D.Disk.state (live_follower g.K.Sink.written c.args.self.now) (g.P.Looks.pass c.args.pass.now) c.requires.may)

pub step-requires-clause-may : goal.step-requires-clause-may
step-requires-clause-may g c =
    may_on g.D.Disk.state (live_follower g.K.Sink.written c.args.self.now) (live_follower g.K.Sink.written c.loop.self) (g.P.Looks.pass c.args.pass.now) (g.P.Looks.pass c.loop.pass)
    c.loop.invariant.2 c.requires.may.opening

pub loop-preserved : goal.loop-preserved
loop-preserved g c = (
  search rules,
  search rules,
  follows_on g.D.Disk.state (live_follower g.K.Sink.written c.args.self.now) (live_follower g.K.Sink.written c.loop.self) (live_follower g.K.Sink.written c.step.new.self)
      (g.P.Looks.pass c.args.pass.now) (g.P.Looks.pass c.loop.pass) (g.P.Looks.pass c.step.new.pass) c.loop.invariant.2 c.step.ensures.followed,
)

pub loop-preserved-then-not-step : goal.loop-preserved-then-not-step
loop-preserved-then-not-step g c = (
  search rules,
  search rules,
  follows_on g.D.Disk.state (live_follower g.K.Sink.written c.args.self.now) (live_follower g.K.Sink.written c.loop.self) (live_follower g.K.Sink.written c.step.new.self)
      (g.P.Looks.pass c.args.pass.now) (g.P.Looks.pass c.loop.pass) (g.P.Looks.pass c.step.new.pass) c.loop.invariant.2 c.step.ensures.followed,
)
