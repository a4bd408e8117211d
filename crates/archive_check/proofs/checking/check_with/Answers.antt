use Rattle.std.proofs.Common.{◌∙◌, ap}
use Rattle.archive_check.proofs.CheckLemmas.{first_told, stood_told}
use Rattle.archive_check.proofs.checking.check_with.Goals as goal

pub check_all-requires : goal.check_all-requires
check_all-requires g c =
    let begins = c.in-Ok.ensures.begins in
    let judge = c.new-judge.ensures in
    let made = c.begin-journal.ensures in
    first_told (g.D.Disk.state c.start.new.disk).seen (g.D.Disk.state c.begin-journal.result.disk.now).seen c.in-Ok.header c.begin-journal.result.header c.begin-journal.result.place
    c.begin-journal.result.count c.new-judge.result begins.legal begins.walked judge.header judge.types judge.words judge.files judge.end
    (ap (λ d. (g.D.Disk.state d).seen) made.disk) made.header made.first.place made.first.count

pub returns-clause-stood : goal.returns-clause-stood
returns-clause-stood g c =
    let now = c.check_all.new.journal in
    let done = c.in_ok-check_all.ensures in
    stood_told (g.D.Disk.state c.args.disk.now).seen (g.D.Disk.state now.disk.now).seen now.header now.place now.count c.check_all.new.judge _
    (done.rests.seen ∙ (ap (λ d. (g.D.Disk.state d).seen) c.begin-journal.ensures.disk ∙ c.in-Ok.ensures.keeps.seen)) done.checked done.ended c.count.ensures c.counts-files.ensures.files c.counts-files.ensures.messages
