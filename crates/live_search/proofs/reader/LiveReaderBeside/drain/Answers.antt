use Rattle.std.proofs.Common.{rules, sym, subst}
use Rattle.disk_seal.specs.Beside.{HasFollowed}
use Rattle.disk_seal.proofs.LookedLemmas.{follows_none}
use Rattle.live_search.specs.Reader.{live_follower}
use Rattle.live_search.proofs.FollowLemmas.{follows_on, may_on}
use Rattle.live_search.proofs.reader.LiveReaderBeside.drain.Goals as goal
use Rattle.live_search.proofs.reader.LiveReaderBeside.drain.Goals.{then-not-is_running-via-then-not-is_running, then-not-is_running-via-else-not-is_running+then-not-step}

pub loop-init : goal.loop-init
loop-init g c = (search rules, search rules, follows_none g.D.Disk.state (live_follower g.K.Sink.written c.args.self.now) (g.P.Looks.pass c.args.pass.now) c.requires.may)

pub step-requires-clause-may : goal.step-requires-clause-may
step-requires-clause-may g c =
    may_on g.D.Disk.state (live_follower g.K.Sink.written c.args.self.now) (live_follower g.K.Sink.written c.loop.self) (g.P.Looks.pass c.args.pass.now) (g.P.Looks.pass c.loop.pass)
    c.loop.invariant.2 c.requires.may.opening

pub loop-preserved : goal.loop-preserved
loop-preserved g c = (
  search rules,
  search rules,
  follows_on g.D.Disk.state (live_follower g.K.Sink.written c.args.self.now) (live_follower g.K.Sink.written c.loop.self) (live_follower g.K.Sink.written c.step.new.self)
      (g.P.Looks.pass c.args.pass.now) (g.P.Looks.pass c.loop.pass) (g.P.Looks.pass c.step.new.pass) c.loop.invariant.2 c.step.ensures.followed,
)

pub returns-then-not-is_running-clause-followed : goal.returns-then-not-is_running-clause-followed
returns-then-not-is_running-clause-followed g c = elim c.then-not-is_running.branch [
  | then-not-is_running-via-then-not-is_running w ↦ subst (λ v. HasFollowed g.D.Disk.state (live_follower g.K.Sink.written c.args.self.now) (live_follower g.K.Sink.written v) (g.P.Looks.pass c.args.pass.now) (g.P.Looks.pass c.then-not-is_running.pass)) (sym w.self-is)
      (subst (λ p. HasFollowed g.D.Disk.state (live_follower g.K.Sink.written c.args.self.now) (live_follower g.K.Sink.written c.loop.self) (g.P.Looks.pass c.args.pass.now) (g.P.Looks.pass p)) (sym w.pass-is)
      c.loop.invariant.2)
  | then-not-is_running-via-else-not-is_running+then-not-step w ↦ subst (λ v. HasFollowed g.D.Disk.state (live_follower g.K.Sink.written c.args.self.now) (live_follower g.K.Sink.written v) (g.P.Looks.pass c.args.pass.now) (g.P.Looks.pass c.then-not-is_running.pass)) (sym w.self-is)
      (subst (λ p. HasFollowed g.D.Disk.state (live_follower g.K.Sink.written c.args.self.now) (live_follower g.K.Sink.written w.step.new.self) (g.P.Looks.pass c.args.pass.now) (g.P.Looks.pass p)) (sym w.pass-is)
      (follows_on g.D.Disk.state (live_follower g.K.Sink.written c.args.self.now) (live_follower g.K.Sink.written c.loop.self) (live_follower g.K.Sink.written w.step.new.self)
      (g.P.Looks.pass c.args.pass.now) (g.P.Looks.pass c.loop.pass) (g.P.Looks.pass w.step.new.pass) c.loop.invariant.2 w.step.ensures.followed))
]
