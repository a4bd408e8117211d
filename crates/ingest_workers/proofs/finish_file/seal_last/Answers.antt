use Rattle.std.proofs.Common.{None, Some, inr, refl}
use Rattle.ingest_workers.specs.Full.{books_by}
use Rattle.ingest_workers.specs.Namer.{types_pass, words_pass}
use Rattle.ingest_workers.proofs.DoneLemmas.{all_done, marked, may_seal_last, none_done, rest_found}
use Rattle.ingest_workers.proofs.TurnsLemmas.{end_refused, end_sealed}
use Rattle.ingest_workers.proofs.finish_file.seal_last.Goals as goal

pub seal-requires : goal.seal-requires
seal-requires g c =
    may_seal_last g.D.Disk.state c.args._rows c.requires.doing.0 c.args.keeper.now c.args.namer.now c.args.segment.now c.requires.doing.1 c.args.ended c.requires.doing.4 c.requires.limit c.requires.doing.2 c.requires.doing.3

pub returns-in-Ok-clause-outcome : goal.returns-in-Ok-clause-outcome
returns-in-Ok-clause-outcome g c = λ start taken d.
    all_done g.D.Disk.state c.args._rows start c.args.keeper.now c.args.namer.now c.args.segment.now taken c.args.ended d c.args.namer.now.version (books_by (types_pass c.seal.new.namer) (words_pass c.seal.new.namer)) c.seal.new.keeper c.seal.new.self c.in-Ok.ensures.emptied c.in-Ok.ensures.sealed c.in-Ok.ensures.holds

pub returns-in-Err-clause-outcome : goal.returns-in-Err-clause-outcome
returns-in-Err-clause-outcome g c = λ start taken d.
    none_done g.D.Disk.state c.args._rows start c.args.keeper.now c.args.namer.now c.args.segment.now taken c.args.ended d c.args.namer.now.version (books_by (types_pass c.seal.new.namer) (words_pass c.seal.new.namer)) c.seal.new.keeper c.seal.new.self None (Some c.in-Err.cause) c.in-Err.ensures.refused c.in-Err.ensures.marks.first
    (inr (
      c.in-Err.cause,
      refl,
      rest_found g.D.Disk.state c.args._rows start c.args.keeper.now c.args.namer.now c.args.segment.now taken c.args.ended d (marked c.args.ended c.args.segment.now) c.seal.new.keeper c.seal.new.namer c.in-Err.cause
          (record { columns = refl; used = refl }) refl refl c.in-Err.ensures.refused (λ end need same. c.seal.ensures.full end need (cc (c.in-Err.is, same))) c.in-Err.ensures.causes,
    ))

pub returns-in-Ok-clause-turns : goal.returns-in-Ok-clause-turns
returns-in-Ok-clause-turns g c = end_sealed g.D.Disk.state _ c.args.keeper.now c.seal.new.keeper c.args.namer.now c.seal.new.namer c.in-Ok.ensures.sealed c.seal.ensures.turns

pub returns-in-Err-clause-turns : goal.returns-in-Err-clause-turns
returns-in-Err-clause-turns g c = end_refused g.D.Disk.state c.args.keeper.now c.seal.new.keeper c.args.namer.now c.seal.new.namer c.in-Err.ensures.refused c.seal.ensures.turns
