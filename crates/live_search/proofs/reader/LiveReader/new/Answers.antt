use Rattle.std.proofs.Common.{rules}
use Rattle.archive_open.specs.Archive.{shown}
use Rattle.live_search.proofs.ReaderLemmas.{begins_stands, count_first}
use Rattle.live_search.proofs.reader.LiveReader.new.Goals as goal

pub invariant_of-result : goal.invariant_of-result
invariant_of-result g c = count_first g.K.Sink.faults _ _ (search rules)

pub returns-clause-stands : goal.returns-clause-stands
returns-clause-stands g c = λ bytes opens h es stood.
    begins_stands g.K.Sink.written _ (shown g.B.KeepsTexts.kept c.args.archive) (search rules) (search rules) (search rules) (search rules) (search rules) (search rules) bytes opens h es stood
