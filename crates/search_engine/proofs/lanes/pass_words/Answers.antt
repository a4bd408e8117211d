use Rattle.std.proofs.Common.{rules}
use Rattle.search_engine.proofs.LaneListLemmas.{passed_first, passed_names, passed_next, passed_well}
use Rattle.search_engine.proofs.lanes.pass_words.Goals as goal

pub loop-lane-init : goal.loop-lane-init
loop-lane-init g c = passed_first g.P.Disk.state c.args.lanes.now c.args.all.now

pub share_words-requires-clause-well : goal.share_words-requires-clause-well
share_words-requires-clause-well g c = passed_well g.P.Disk.state c.args.lanes.now c.loop-lane.lanes c.args.all.now c.loop-lane.all c.loop-lane.lane-index _ (search rules) c.requires.well c.loop-lane.invariant

pub share_words-requires-clause-serves : goal.share_words-requires-clause-serves
share_words-requires-clause-serves g c = passed_names g.P.Disk.state c.args.lanes.now c.loop-lane.lanes c.args.all.now c.loop-lane.all c.loop-lane.lane-index _ (search rules) c.requires.serves c.loop-lane.invariant

pub loop-lane-preserved : goal.loop-lane-preserved
loop-lane-preserved g c =
    passed_next g.P.Disk.state c.args.lanes.now c.loop-lane.lanes c.args.all.now c.loop-lane.all c.share_words.new.all c.loop-lane.lane-index c.share_words.new.self _ (search rules) c.share_words.ensures.kept c.share_words.ensures.serves
    c.loop-lane.invariant

pub returns-clause-kept : goal.returns-clause-kept
returns-clause-kept g c = c.loop-lane.invariant.lanes

pub returns-clause-serves : goal.returns-clause-serves
returns-clause-serves g c = c.loop-lane.invariant.serves
