use Rattle.std.proofs.Common.{arith}
use Rattle.archive_places.proofs.HeadLemmas.{short_head}
use Rattle.archive_places.proofs.heads.fill.Goals as goal

pub returns-then-count-size-clause-damaged : goal.returns-then-count-size-clause-damaged
returns-then-count-size-clause-damaged g c = λ _.
    short_head (g.D.Disk.state c.args.disk.now).seen c.args.front.now c.in_ok-count.count c.args.buffer.now c.read.new.buf c.in_ok-count.ensures.gave (omega (arith, c.requires.exact, c.requires.within)) (omega (arith, c.requires.exact, c.if-count-size.true))
