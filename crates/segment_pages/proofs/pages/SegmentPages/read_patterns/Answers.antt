use Rattle.std.proofs.Common.{◌≡◌, ◌+◌, ℕ, IfSome, drop, refl, rules, subst, take}
use Rattle.std.proofs.lemmas.Result.{err_from_is_err_and}
use Rattle.segment_pages.specs.Reads.{OnlyReadsIn}
use Rattle.segment_pages.specs.StepsLoaded.{EndsBefore}
use Rattle.segment_pages.proofs.ColumnLemmas.{reading_of, patterns_are, patterns_cut, patterns_reads, patterns_short}
use Rattle.segment_pages.proofs.pages.SegmentPages.read_patterns.Goals as goal

pub returns-in_err-read_part-clause-reads : goal.returns-in_err-read_part-clause-reads
returns-in_err-read_part-clause-reads g c =
    let r = reading_of c.self.inside.at c.self.inside.passed c.self.inside.pages c.in-Some.ask c.args.self.now c.args.skipped c.args.count c.self.view_is c.in-Some.ensures.stands c.in-Some.ensures.some c.in-Some.ensures.left c.requires.within in
    patterns_reads c.self.inside.at c.in-Some.ask c.args.self.now c.args.skipped c.args.count r (g.D.Disk.state c.args.disk.now) (g.D.Disk.state c.read_part.new.disk) c.args.count refl
    (subst (λ (j : ℕ). OnlyReadsIn (c.self.inside.at + c.in-Some.ask.patterns + j) c.args.count (g.D.Disk.state c.args.disk.now) (g.D.Disk.state c.read_part.new.disk)) c.from.ensures c.read_part.ensures.reads)

pub returns-in_err-extend_from_slice-clause-reads : goal.returns-in_err-extend_from_slice-clause-reads
returns-in_err-extend_from_slice-clause-reads g c =
    let r = reading_of c.self.inside.at c.self.inside.passed c.self.inside.pages c.in-Some.ask c.args.self.now c.args.skipped c.args.count c.self.view_is c.in-Some.ensures.stands c.in-Some.ensures.some c.in-Some.ensures.left c.requires.within in
    patterns_reads c.self.inside.at c.in-Some.ask c.args.self.now c.args.skipped c.args.count r (g.D.Disk.state c.args.disk.now) (g.D.Disk.state c.read_part.new.disk) c.args.count refl
    (subst (λ (j : ℕ). OnlyReadsIn (c.self.inside.at + c.in-Some.ask.patterns + j) c.args.count (g.D.Disk.state c.args.disk.now) (g.D.Disk.state c.read_part.new.disk)) c.from.ensures c.read_part.ensures.reads)

pub returns-clause-reads : goal.returns-clause-reads
returns-clause-reads g c =
    let r = reading_of c.self.inside.at c.self.inside.passed c.self.inside.pages c.in-Some.ask c.args.self.now c.args.skipped c.args.count c.self.view_is c.in-Some.ensures.stands c.in-Some.ensures.some c.in-Some.ensures.left c.requires.within in
    patterns_reads c.self.inside.at c.in-Some.ask c.args.self.now c.args.skipped c.args.count r (g.D.Disk.state c.args.disk.now) (g.D.Disk.state c.read_part.new.disk) c.args.count refl
    (subst (λ (j : ℕ). OnlyReadsIn (c.self.inside.at + c.in-Some.ask.patterns + j) c.args.count (g.D.Disk.state c.args.disk.now) (g.D.Disk.state c.read_part.new.disk)) c.from.ensures c.read_part.ensures.reads)

pub returns-in_err-read_part-clause-damaged : goal.returns-in_err-read_part-clause-damaged
returns-in_err-read_part-clause-damaged g c = λ is.
    let r = reading_of c.self.inside.at c.self.inside.passed c.self.inside.pages c.in-Some.ask c.args.self.now c.args.skipped c.args.count c.self.view_is c.in-Some.ensures.stands c.in-Some.ensures.some c.in-Some.ensures.left c.requires.within in
    let q = err_from_is_err_and c.from_residual.result c.from_residual.ensures.1 in
    patterns_short c.self.inside.at c.in-Some.ask c.args.self.now c.args.skipped c.args.count r (g.D.Disk.state c.args.disk.now).seen c.args.count refl
    (subst (λ (j : ℕ). EndsBefore (c.self.inside.at + c.in-Some.ask.patterns + j + c.args.count) (g.D.Disk.state c.args.disk.now).seen) c.from.ensures (c.in_err-read_part.ensures.damaged (search (rules, is, q.1, q.2))))

pub returns-clause-patterns : goal.returns-clause-patterns
returns-clause-patterns g c =
    let r = reading_of c.self.inside.at c.self.inside.passed c.self.inside.pages c.in-Some.ask c.args.self.now c.args.skipped c.args.count c.self.view_is c.in-Some.ensures.stands c.in-Some.ensures.some c.in-Some.ensures.left c.requires.within in
    let told = subst (λ (j : ℕ). IfSome (g.D.Disk.state c.args.disk.now).seen (λ bytes. take c.args.count c.read_part.new.buffer.items ≡ take c.args.count (drop (c.self.inside.at + c.in-Some.ask.patterns + j) bytes))) c.from.ensures c.in_ok-read_part.ensures.filled in
    let same : c.extend_from_slice.new.self.items ≡ take c.args.count c.read_part.new.buffer.items =
    search rules in
    patterns_are c.self.inside.at c.in-Some.ask c.args.self.now c.args.skipped c.args.count r _ c.args.count _ refl (patterns_cut _ c.args.count _ _ _ same told)
