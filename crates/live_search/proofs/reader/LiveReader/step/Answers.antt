use Rattle.std.proofs.Common.{sym, subst, ap, ◌∙◌, arith}
use Rattle.std.specs.Prelude.{Err}
use Rattle.disk_seal.specs.Beside.{HasFollowed}
use Rattle.live_search.specs.Reader.{live_follower}
use Rattle.live_search.proofs.FollowLemmas.{refuses, takes_on, through_refused, through_stopped, waits}
use Rattle.live_search.proofs.reader.LiveReader.step.Goals as goal

pub take-requires-clause-small : goal.take-requires-clause-small
take-requires-clause-small g c = let has = rw c.in-Ok-Some.field-0-is at c.in-Ok-Some.ensures.next in omega (arith, has.small)

pub take-requires-clause-fits : goal.take-requires-clause-fits
take-requires-clause-fits g c = let has = rw c.in-Ok-Some.field-0-is at c.in-Ok-Some.ensures.next in has.next.whole.fits

pub returns-in-Ok-Some-clause-followed : goal.returns-in-Ok-Some-clause-followed
returns-in-Ok-Some-clause-followed g c =
    let has = rw c.in-Ok-Some.field-0-is at c.in-Ok-Some.ensures.next in
    takes_on g.K.Sink.written g.D.Disk.state (g.P.Looks.pass c.args.pass.now) (g.P.Looks.pass c.find.new.pass) c.find.ensures.turned c.args.self.now c.requires.runs c.requires.may.keeps
    c.in-Ok-Some.found has c.take.new.self c.take.ensures.takes

pub returns-in-Ok-Some-clause-through : goal.returns-in-Ok-Some-clause-through
returns-in-Ok-Some-clause-through g c = λ no. through_refused g.K.Sink.written c.take.new.self (g.P.Looks.pass c.find.new.pass) (c.take.ensures.refuses no)

pub returns-in-Ok-None-clause-followed : goal.returns-in-Ok-None-clause-followed
returns-in-Ok-None-clause-followed g c =
    waits g.K.Sink.written g.D.Disk.state (g.P.Looks.pass c.args.pass.now) (g.P.Looks.pass c.find.new.pass) c.find.ensures.turned c.args.self.now c.requires.runs c.requires.may.keeps

pub returns-in-Ok-None-clause-through : goal.returns-in-Ok-None-clause-through
returns-in-Ok-None-clause-through g c = λ _ running. rw c.in-Ok-None.field-0-is at c.in-Ok-None.ensures.none

pub returns-in-Err-clause-followed : goal.returns-in-Err-clause-followed
returns-in-Err-clause-followed g c =
    subst (λ w. HasFollowed g.D.Disk.state (live_follower g.K.Sink.written c.args.self.now) (live_follower g.K.Sink.written w) (g.P.Looks.pass c.args.pass.now) (g.P.Looks.pass c.find.new.pass))
    (sym c.stop.ensures)
    (refuses g.K.Sink.written g.D.Disk.state (g.P.Looks.pass c.args.pass.now) (g.P.Looks.pass c.find.new.pass) c.find.ensures.turned c.args.self.now c.requires.runs c.requires.may.keeps c.in-Err.refusal
    (λ at is. c.find.ensures.damaged at (c.in-Err.is ∙ ap (λ e. Err e) is)) (λ is. c.find.ensures.fault (c.in-Err.is ∙ ap (λ e. Err e) is)))

pub returns-in-Err-clause-through : goal.returns-in-Err-clause-through
returns-in-Err-clause-through g c = λ _.
    through_stopped g.K.Sink.written c.args.self.now c.stop.new.self (g.P.Looks.pass c.find.new.pass) c.in-Err.refusal c.stop.ensures

pub stop-requires-clause-sink : goal.stop-requires-clause-sink
stop-requires-clause-sink g c = λ is. c.find.ensures.sink (c.in-Err.is ∙ ap (λ e. Err e) is)
