use Rattle.std.proofs.Common.{inl, inr, refl}
use Rattle.log_seams.proofs.ReadsLemmas.{rests_same}
use Rattle.archive_merge.proofs.MergingLemmas.{not_read_again, was_read}
use Rattle.archive_merge.proofs.merging.move_named.Goals as goal

pub returns-in-Ok-clause-came : goal.returns-in-Ok-clause-came
returns-in-Ok-clause-came g c = inl (c.in-Ok.moved.stop, c.refusal_of.ensures, c.in-Ok.ensures.merged)

pub returns-in-Ok-clause-second : goal.returns-in-Ok-clause-second
returns-in-Ok-clause-second g c = was_read g.E.Disk.state c.in-Ok.moved.stop c.refusal_of.result c.args.second c.in-Ok.moved.second c.in-Ok.ensures.second c.refusal_of.ensures

pub returns-in-Err-clause-came : goal.returns-in-Err-clause-came
returns-in-Err-clause-came g c = inr (refl, c.in-Err.ensures.files, c.in-Err.ensures.refused.0)

pub returns-in-Err-clause-second : goal.returns-in-Err-clause-second
returns-in-Err-clause-second g c = not_read_again g.E.Disk.state c.args.second c.in-Err.refused.second (rests_same _) c.in-Err.ensures.refused.1
