use Rattle.std.proofs.Common.{rules, ◌≡◌, Ok, Err, false, subst, sym}
use Rattle.std.specs.Prelude.{Bool, Result}
use Rattle.ingest_workers.specs.declared.file_end.FileEnd.{FileEnd}
use Rattle.ingest_workers.specs.Done.{IsOutcome}
use Rattle.ingest_workers.specs.Full.{books_by}
use Rattle.ingest_workers.specs.Namer.{types_pass, words_pass}
use Rattle.ingest_workers.specs.Taking.{UpToRest, mark_of, why_of}
use Rattle.ingest_workers.specs.Turns.{EndBoth, spare_of, stop_in}
use Rattle.ingest_workers.proofs.TurnsLemmas.{end_self}
use Rattle.ingest_workers.specs.declared.file_end.FileEnd.TheVariants.{Part, Lost}
use Rattle.ingest_workers.proofs.TakingLemmas.{at_end, at_part, lost_outcome}
use Rattle.ingest_workers.proofs.finish_file.finish_file.Goals as goal

pub seal_end-requires-clause-doing : goal.seal_end-requires-clause-doing
seal_end-requires-clause-doing g c =
    let is : c.args.stop ≡ Ok c.in-Ok.ended = search rules in
    let s = c.requires.stops in
    let at = at_end g.D.Disk.state c.args.rows s.0 c.args.keeper.now c.args.namer.now c.args.segment.now s.1 c.args.stop c.in-Ok.ended is s.3 in
    (s.0, s.1, s.2, at.1, at.0)

pub seal_part-requires-clause-doing : goal.seal_part-requires-clause-doing
seal_part-requires-clause-doing g c =
    let is : c.args.stop ≡ Err (Part c.in-Err-Part.cause) = search rules in
    let s = c.requires.stops in
    (s.0, s.1, s.2, at_part g.D.Disk.state c.args.rows s.0 c.args.keeper.now c.args.namer.now c.args.segment.now s.1 c.args.stop c.in-Err-Part.cause is s.3)

pub returns-in-Err-Lost-clause-outcome : goal.returns-in-Err-Lost-clause-outcome
returns-in-Err-Lost-clause-outcome g c = λ start taken s.
    let is : c.args.stop ≡ Err (Lost c.in-Err-Lost.cause) = search rules in
    lost_outcome g.D.Disk.state c.args.rows start c.args.keeper.now c.args.namer.now c.args.segment.now taken c.requires.limit.0 c.args.stop c.in-Err-Lost.cause is s

pub returns-in-Ok-clause-turns : goal.returns-in-Ok-clause-turns
returns-in-Ok-clause-turns g c =
    let is : c.args.stop ≡ Ok c.in-Ok.ended = search rules in
    subst (λ (s : Result Bool FileEnd). EndBoth g.D.Disk.state (spare_of (stop_in s)) c.args.keeper.now c.seal_end.new.keeper c.args.namer.now c.seal_end.new.namer) (sym is) c.seal_end.ensures.turns

pub returns-in-Err-Part-clause-turns : goal.returns-in-Err-Part-clause-turns
returns-in-Err-Part-clause-turns g c =
    let is : c.args.stop ≡ Err (Part c.in-Err-Part.cause) = search rules in
    subst (λ (s : Result Bool FileEnd). EndBoth g.D.Disk.state (spare_of (stop_in s)) c.args.keeper.now c.seal_part.new.keeper c.args.namer.now c.seal_part.new.namer) (sym is) c.seal_part.ensures.turns

pub returns-in-Err-Lost-clause-turns : goal.returns-in-Err-Lost-clause-turns
returns-in-Err-Lost-clause-turns g c = end_self g.D.Disk.state (spare_of (stop_in c.args.stop)) c.args.keeper.now c.args.namer.now

pub returns-in-Ok-clause-outcome : goal.returns-in-Ok-clause-outcome
returns-in-Ok-clause-outcome g c = λ start taken s.
    let is : c.args.stop ≡ Ok c.in-Ok.ended = search rules in
    let at = at_end g.D.Disk.state c.args.rows start c.args.keeper.now c.args.namer.now c.args.segment.now taken c.args.stop c.in-Ok.ended is s in
    subst (λ (a : Result Bool FileEnd). IsOutcome g.D.Disk.state c.args.rows c.args.namer.now.version (books_by (types_pass c.seal_end.new.namer) (words_pass c.seal_end.new.namer)) start c.seal_end.new.keeper taken
    (UpToRest a taken) (mark_of a) (why_of a) c.seal_end.result) (sym is) (c.seal_end.ensures.outcome start taken at.0)

pub returns-in-Err-Part-clause-outcome : goal.returns-in-Err-Part-clause-outcome
returns-in-Err-Part-clause-outcome g c = λ start taken s.
    let is : c.args.stop ≡ Err (Part c.in-Err-Part.cause) = search rules in
    let at = at_part g.D.Disk.state c.args.rows start c.args.keeper.now c.args.namer.now c.args.segment.now taken c.args.stop c.in-Err-Part.cause is s in
    subst (λ (a : Result Bool FileEnd). IsOutcome g.D.Disk.state c.args.rows c.args.namer.now.version (books_by (types_pass c.seal_part.new.namer) (words_pass c.seal_part.new.namer)) start c.seal_part.new.keeper taken
    (UpToRest a taken) (mark_of a) (why_of a) c.seal_part.result) (sym is) (c.seal_part.ensures.outcome start taken false at)
