use Rattle.std.proofs.Common.{◌≡◌, ◌+◌, ◌*◌, ◌∙◌, ℕ, IfSome, ap, drop, rules, subst, take}
use Rattle.std.proofs.lemmas.Result.{err_from_is_err_and}
use Rattle.segment_pages.specs.Reads.{OnlyReadsIn}
use Rattle.segment_pages.specs.StepsLoaded.{EndsBefore}
use Rattle.segment_pages.proofs.ColumnLemmas.{reading_of, moments_are, moments_reads, moments_short}
use Rattle.segment_pages.proofs.pages.SegmentPages.read_moments.Goals as goal

pub returns-in_err-read_part-clause-reads : goal.returns-in_err-read_part-clause-reads
returns-in_err-read_part-clause-reads g c =
    let r = reading_of c.self.inside.at c.self.inside.passed c.self.inside.pages c.in-Some.ask c.args.self.now c.args.skipped c.args.count c.self.view_is c.in-Some.ensures.stands c.in-Some.ensures.some c.in-Some.ensures.left c.requires.within in
    moments_reads c.self.inside.at c.in-Some.ask c.args.self.now c.args.skipped c.args.count r (g.D.Disk.state c.args.disk.now) (g.D.Disk.state c.read_part.new.disk)
    (subst (λ (j : ℕ). OnlyReadsIn (c.self.inside.at + c.in-Some.ask.moments + 8 * j) (8 * c.args.count) (g.D.Disk.state c.args.disk.now) (g.D.Disk.state c.read_part.new.disk)) c.from.ensures c.read_part.ensures.reads)

pub returns-in_err-fill_moments-clause-reads : goal.returns-in_err-fill_moments-clause-reads
returns-in_err-fill_moments-clause-reads g c =
    let r = reading_of c.self.inside.at c.self.inside.passed c.self.inside.pages c.in-Some.ask c.args.self.now c.args.skipped c.args.count c.self.view_is c.in-Some.ensures.stands c.in-Some.ensures.some c.in-Some.ensures.left c.requires.within in
    moments_reads c.self.inside.at c.in-Some.ask c.args.self.now c.args.skipped c.args.count r (g.D.Disk.state c.args.disk.now) (g.D.Disk.state c.read_part.new.disk)
    (subst (λ (j : ℕ). OnlyReadsIn (c.self.inside.at + c.in-Some.ask.moments + 8 * j) (8 * c.args.count) (g.D.Disk.state c.args.disk.now) (g.D.Disk.state c.read_part.new.disk)) c.from.ensures c.read_part.ensures.reads)

pub returns-clause-reads : goal.returns-clause-reads
returns-clause-reads g c =
    let r = reading_of c.self.inside.at c.self.inside.passed c.self.inside.pages c.in-Some.ask c.args.self.now c.args.skipped c.args.count c.self.view_is c.in-Some.ensures.stands c.in-Some.ensures.some c.in-Some.ensures.left c.requires.within in
    moments_reads c.self.inside.at c.in-Some.ask c.args.self.now c.args.skipped c.args.count r (g.D.Disk.state c.args.disk.now) (g.D.Disk.state c.read_part.new.disk)
    (subst (λ (j : ℕ). OnlyReadsIn (c.self.inside.at + c.in-Some.ask.moments + 8 * j) (8 * c.args.count) (g.D.Disk.state c.args.disk.now) (g.D.Disk.state c.read_part.new.disk)) c.from.ensures c.read_part.ensures.reads)

pub returns-in_err-read_part-clause-damaged : goal.returns-in_err-read_part-clause-damaged
returns-in_err-read_part-clause-damaged g c = λ is.
    let r = reading_of c.self.inside.at c.self.inside.passed c.self.inside.pages c.in-Some.ask c.args.self.now c.args.skipped c.args.count c.self.view_is c.in-Some.ensures.stands c.in-Some.ensures.some c.in-Some.ensures.left c.requires.within in
    let q = err_from_is_err_and c.from_residual.result c.from_residual.ensures.1 in
    moments_short c.self.inside.at c.in-Some.ask c.args.self.now c.args.skipped c.args.count r (g.D.Disk.state c.args.disk.now).seen
    (subst (λ (j : ℕ). EndsBefore (c.self.inside.at + c.in-Some.ask.moments + 8 * j + 8 * c.args.count) (g.D.Disk.state c.args.disk.now).seen) c.from.ensures (c.in_err-read_part.ensures.damaged (search (rules, is, q.1, q.2))))

pub returns-clause-moments : goal.returns-clause-moments
returns-clause-moments g c =
    let r = reading_of c.self.inside.at c.self.inside.passed c.self.inside.pages c.in-Some.ask c.args.self.now c.args.skipped c.args.count c.self.view_is c.in-Some.ensures.stands c.in-Some.ensures.some c.in-Some.ensures.left c.requires.within in
    let told = subst (λ (j : ℕ). IfSome (g.D.Disk.state c.args.disk.now).seen (λ bytes. take (8 * c.args.count) c.read_part.new.buffer.items ≡ take (8 * c.args.count) (drop (c.self.inside.at + c.in-Some.ask.moments + 8 * j) bytes))) c.from.ensures c.in_ok-read_part.ensures.filled in
    moments_are c.self.inside.at c.in-Some.ask c.args.self.now c.args.skipped c.args.count r _ c.read_part.new.buffer.items _ _ told
    (c.split_at.ensures.front ∙ ap (take (8 * c.args.count)) c.as_slice.ensures.value) c.in_ok-fill_moments.ensures.spelled c.in_ok-fill_moments.ensures.fit (search rules)
