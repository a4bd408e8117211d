use Rattle.group_count.proofs.LaneLemmas.{lane_run_is}
use Rattle.group_count.proofs.lane.Lane.run.Goals as goal

pub returns : goal.returns
returns g c = lane_run_is g.P.Disk.state g.T.RowTable.counted _ c.args.self.now c.count_part.new.part c.count_part.result c.self.view_is c.count_part.ensures
