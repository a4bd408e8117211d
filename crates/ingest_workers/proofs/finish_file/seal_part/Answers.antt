use Rattle.std.proofs.Common.{rules, ◌≡◌, ◌<◌, length, Some, inr, refl}
use Rattle.std.specs.Prelude.{false}
use Rattle.ingest_workers.specs.Full.{books_by}
use Rattle.ingest_workers.specs.Namer.{types_pass, words_pass}
use Rattle.ingest_workers.proofs.DoneLemmas.{empty_done, may_seal_part, none_done, part_done, rest_found}
use Rattle.ingest_workers.proofs.TurnsLemmas.{end_refused, end_sealed}
use Rattle.ingest_workers.proofs.finish_file.seal_part.Goals as goal

pub returns-then-rows-eq0-clause-outcome : goal.returns-then-rows-eq0-clause-outcome
returns-then-rows-eq0-clause-outcome g c = λ start taken ended d.
    let none : length c.args.segment.now.draft.columns.rows ≡ 0 = search rules in
    empty_done g.D.Disk.state c.args._rows start c.args.keeper.now c.args.namer.now c.args.segment.now taken ended d c.args.namer.now.version (books_by (types_pass c.args.namer.now) (words_pass c.args.namer.now)) c.args.cause none

pub seal-requires : goal.seal-requires
seal-requires g c =
    let some : 0 < length c.args.segment.now.draft.columns.rows = search rules in
    may_seal_part g.D.Disk.state c.args._rows c.requires.doing.0 c.args.keeper.now c.args.namer.now c.args.segment.now c.requires.doing.1 false c.requires.doing.3 some c.requires.limit c.requires.doing.2

pub returns-in-Ok-clause-outcome : goal.returns-in-Ok-clause-outcome
returns-in-Ok-clause-outcome g c = λ start taken ended d.
    let some : 0 < length c.args.segment.now.draft.columns.rows = search rules in
    part_done g.D.Disk.state c.args._rows start c.args.keeper.now c.args.namer.now c.args.segment.now taken ended d some c.args.namer.now.version (books_by (types_pass c.seal.new.namer) (words_pass c.seal.new.namer)) c.seal.new.keeper c.seal.new.self c.args.cause c.in-Ok.ensures.emptied c.in-Ok.ensures.sealed c.in-Ok.ensures.holds

pub returns-in-Err-clause-outcome : goal.returns-in-Err-clause-outcome
returns-in-Err-clause-outcome g c = λ start taken ended d.
    none_done g.D.Disk.state c.args._rows start c.args.keeper.now c.args.namer.now c.args.segment.now taken ended d c.args.namer.now.version (books_by (types_pass c.seal.new.namer) (words_pass c.seal.new.namer)) c.seal.new.keeper c.seal.new.self c.args.cause (Some c.in-Err.refused) c.in-Err.ensures.refused c.in-Err.ensures.marks.first
    (inr (
      c.in-Err.refused,
      refl,
      rest_found g.D.Disk.state c.args._rows start c.args.keeper.now c.args.namer.now c.args.segment.now taken ended d c.args.segment.now c.seal.new.keeper c.seal.new.namer c.in-Err.refused
          (record { columns = refl; used = refl }) refl refl c.in-Err.ensures.refused (λ end need same. c.seal.ensures.full end need (cc (c.in-Err.is, same))) c.in-Err.ensures.causes,
    ))

pub returns-in-Ok-clause-turns : goal.returns-in-Ok-clause-turns
returns-in-Ok-clause-turns g c = end_sealed g.D.Disk.state _ c.args.keeper.now c.seal.new.keeper c.args.namer.now c.seal.new.namer c.in-Ok.ensures.sealed c.seal.ensures.turns

pub returns-in-Err-clause-turns : goal.returns-in-Err-clause-turns
returns-in-Err-clause-turns g c = end_refused g.D.Disk.state c.args.keeper.now c.seal.new.keeper c.args.namer.now c.seal.new.namer c.in-Err.ensures.refused c.seal.ensures.turns
