use Rattle.std.proofs.Common.{rules}
use Rattle.log_seams.proofs.MomentLemmas.{rests_synced}
use Rattle.archive_open.proofs.OpenLemmas.{builds_none}
use Rattle.archive_open.proofs.open.open_for_append.Goals as goal

pub keep_all-requires-clause-none : goal.keep_all-requires-clause-none
keep_all-requires-clause-none g c = builds_none _ c.args.journal.now.header (search rules) (search rules) (search rules)

pub returns-clause-at_end : goal.returns-clause-at_end
returns-clause-at_end g c =
    c.in_ok-keep_all.ensures.ended.ends
    (rests_synced (g.D.Disk.state c.args.journal.now.disk.now) (g.D.Disk.state c.keep_all.new.journal.disk.now) c.keep_all.ensures.looks.rests c.requires.begins.synced)
