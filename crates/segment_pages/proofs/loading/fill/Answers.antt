use Rattle.std.proofs.Common.{length, rules}
use Rattle.segment_pages.proofs.ReadLemmas.{one_within}
use Rattle.segment_pages.proofs.loading.fill.Goals as goal

pub returns-then-count-buffer-clause-reads : goal.returns-then-count-buffer-clause-reads
returns-then-count-buffer-clause-reads g c = record { rests = c.read.ensures.rests; ranges = one_within c.args.at (length c.args.buffer.now) c.in_ok-count.count _ _ (search rules) (search rules) }

pub returns-clause-reads : goal.returns-clause-reads
returns-clause-reads g c = record { rests = c.read.ensures.rests; ranges = one_within c.args.at (length c.args.buffer.now) c.in_ok-count.count _ _ (search rules) (search rules) }
