use Rattle.std.proofs.Common.{◌≡◌, ◌<◌, ◌+◌, ◌^◌, ◌∷◌, [], length, rules}
use Rattle.std.specs.Prelude.{option_map}
use Rattle.log_seams.specs.Disk.{laid, IsSynced}
use Rattle.disk_journal.specs.Journal.{state_of}
use Rattle.disk_journal.proofs.AppendLemmas.{one_write_leaves, two_writes_leave, record_added}
use Rattle.disk_journal.proofs.journal.Journal.append.Goals as goal

pub returns-in_err-write_synced-clause-moments : goal.returns-in_err-write_synced-clause-moments
returns-in_err-write_synced-clause-moments g c =
    one_write_leaves (state_of c.args.self.now) (g.D.Disk.state c.write_synced.new.disk) c.args.framed.now c.requires.at_end c.write_synced.ensures.moments

pub returns-in_err-write_synced-2-clause-moments : goal.returns-in_err-write_synced-2-clause-moments
returns-in_err-write_synced-2-clause-moments g c =
    two_writes_leave (state_of c.args.self.now) (g.D.Disk.state c.write_synced.new.disk) c.args.framed.now c.requires.at_end c.write_synced.ensures.moments
    (g.D.Disk.state c.write_synced-2.new.disk) (g.met.D.Disk.lawful c.write_synced-2.new.disk) c.requires.framed c.in_ok-write_synced.ensures.written c.write_synced-2.ensures.moments

pub returns-clause-moments : goal.returns-clause-moments
returns-clause-moments g c =
    two_writes_leave (state_of c.args.self.now) (g.D.Disk.state c.write_synced.new.disk) c.args.framed.now c.requires.at_end c.write_synced.ensures.moments
    (g.D.Disk.state c.write_synced-2.new.disk) (g.met.D.Disk.lawful c.write_synced-2.new.disk) c.requires.framed c.in_ok-write_synced.ensures.written c.write_synced-2.ensures.moments

pub returns-clause-added : goal.returns-clause-added
returns-clause-added g c =
    let j = c.args.self.now in
    let mid = g.D.Disk.state c.write_synced.new.disk in
    let last = g.D.Disk.state c.write_synced-2.new.disk in
    let short : length c.args.framed.now < 2 ^ 64 = search rules in
    let record_written : mid.seen ≡ option_map (laid (j.place + 1) c.args.framed.now) (g.D.Disk.state j.disk.now).seen = search rules in
    let gate_written : last.seen ≡ option_map (laid j.place (1 ∷ [])) mid.seen = search rules in
    let synced : IsSynced last = search rules in
    record_added (state_of j) _ last mid.seen c.args.framed.now short c.requires.at_end c.requires.framed record_written gate_written synced
