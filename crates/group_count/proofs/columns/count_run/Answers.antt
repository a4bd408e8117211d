use Rattle.std.proofs.Common.{◌+◌, rules, subst}
use Rattle.segment_pages.specs.Paged.{HoldsNoneTold, columns_size}
use Rattle.segment_pages.proofs.ReadLemmas.{reads_on}
use Rattle.group_count.specs.Tables.{AreMinutes}
use Rattle.group_count.proofs.ColumnLemmas.{read_minutes}
use Rattle.group_count.proofs.columns.count_run.Goals as goal

pub returns-in_err-read_moments-clause-reads : goal.returns-in_err-read_moments-clause-reads
returns-in_err-read_moments-clause-reads g c =
    reads_on (c.args.pages.now.at + c.args.pages.now.pages.start) (columns_size c.args.pages.now.pages) _ _ _ c.read_patterns.ensures.reads c.read_moments.ensures.reads

pub returns-in_err-read_moments-clause-damaged : goal.returns-in_err-read_moments-clause-damaged
returns-in_err-read_moments-clause-damaged g c = λ is. subst (λ s. HoldsNoneTold s c.args.pages.now) c.read_patterns.ensures.reads.rests.seen (c.in_err-read_moments.ensures.damaged (search rules))

pub returns-in_err-count_stamps-clause-reads : goal.returns-in_err-count_stamps-clause-reads
returns-in_err-count_stamps-clause-reads g c =
    reads_on (c.args.pages.now.at + c.args.pages.now.pages.start) (columns_size c.args.pages.now.pages) _ _ _ c.read_patterns.ensures.reads c.read_moments.ensures.reads

pub returns-clause-reads : goal.returns-clause-reads
returns-clause-reads g c =
    reads_on (c.args.pages.now.at + c.args.pages.now.pages.start) (columns_size c.args.pages.now.pages) _ _ _ c.read_patterns.ensures.reads c.read_moments.ensures.reads

pub returns-clause-counted : goal.returns-clause-counted
returns-clause-counted g c =
    read_minutes AreMinutes c.args.table.now.micro c.args.table.now c.count_stamps.new.self _ _ c.args.pages.now c.args.skipped c.args.count _ _ _ _ c.read_patterns.ensures.reads.rests.seen c.in_ok-read_patterns.ensures.patterns c.in_ok-read_moments.ensures.moments
    c.as_slice.ensures.value c.as_slice-2.ensures.value c.in_ok-count_stamps.ensures.counted
