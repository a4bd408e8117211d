use Rattle.std.proofs.Common.{rules}
use Rattle.search_engine.proofs.TurnLemmas.{lane_run_err, lane_run_ok, well_not}
use Rattle.search_engine.proofs.lane.Lane.run.Goals as goal

pub returns-then-is_err : goal.returns-then-is_err
returns-then-is_err g c = λ well. absurd (well_not c.args.self.now.left.answer (search rules) well)

pub returns-in-Ok : goal.returns-in-Ok
returns-in-Ok g c = λ well.
    let t = c.search_into-searched in
    lane_run_ok g.P.Disk.state _ c.args.self.now t.new.part t.new.sink.text.items c.in-Ok.told c.self.view_is (search rules) c.in-Ok.ensures.ran well

pub returns-in-Err : goal.returns-in-Err
returns-in-Err g c = λ well.
    let t = c.search_into-searched in
    lane_run_err g.P.Disk.state _ c.args.self.now t.new.part t.new.sink.text.items c.in-Err.refusal c.in_text.result c.in_text.ensures c.self.view_is (search rules) c.in-Err.ensures.ran
