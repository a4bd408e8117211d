use Rattle.log_seams.specs.Outside.{Rose}
use Rattle.line_cut.proofs.GivingLemmas.{gave, was_open}
use Rattle.line_cut.proofs.cutter.Cutter.next.Goals as goal

pub returns-in-Ok-clause-piece : goal.returns-in-Ok-clause-piece
returns-in-Ok-clause-piece g c =
    let old = c.args.self.now in let mid = c.look_ahead.new.self in let new = c.come_to.new.self in
    let opened = was_open old.progress c.look_ahead.result (λ e. (c.look_ahead.ensures.after_end e).0) (λ e h. (c.look_ahead.ensures.after_refusal e h).0) (λ n. cc (c.in-Line.is, n)) (λ e n. cc (c.in-Line.is, n)) in
    gave g.S.Source.left (Rose (g.S.Source.faults old.source) (g.S.Source.faults mid.source)) c.in-Ok.line c.in-Line.len c.in-Line.ended old mid new (c.in-Line.ensures.sees opened)
    (record {
      was_open = opened;
      left_same = c.look_ahead.ensures.left;
      given_same = c.look_ahead.ensures.given;
      is = c.in-Ok.ensures;
      at = c.come_to.ensures;
    })
