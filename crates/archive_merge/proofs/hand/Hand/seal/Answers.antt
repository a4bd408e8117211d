use Rattle.std.proofs.Common.{rules, length, refl, sym, ap, ◌∙◌, arith}
use Rattle.std.specs.Prelude.{IsErrOf}
use Rattle.segment_format.specs.Layout.{sorted_set}
use Rattle.archive_meaning.proofs.FormLemmas.{rows_numbers_few}
use Rattle.ingest_workers.specs.declared.outcome.Cause.TheVariants.{ArchiveFull}
use Rattle.ingest_workers.specs.Namer.{types_seen}
use Rattle.ingest_workers.proofs.MaySealLemmas.{nothing_sealed, numbers_of, on_err}
use Rattle.archive_merge.proofs.SealingLemmas.{lacks_for, next_of}
use Rattle.archive_merge.proofs.hand.Hand.seal.Goals as goal

pub returns-in_err-words-clause-refused : goal.returns-in_err-words-clause-refused
returns-in_err-words-clause-refused g c = on_err c.from_residual.result _ (nothing_sealed g.D.Disk.state c.args.keeper.now c.requires.worker.ready)

pub seal_draft-requires-clause-numbers : goal.seal_draft-requires-clause-numbers
seal_draft-requires-clause-numbers g c =
    numbers_of _ c.used.result.now (c.new.ensures ∙ c.in_ok-words.ensures.is)
    (omega (
      arith,
      ap length c.new.ensures,
      ap length c.requires.has.used,
      rows_numbers_few (types_seen c.args.namer.now) c.args.self.now.draft.columns.rows,
      sym c.variables-variables.ensures,
      c.in_ok-words.ensures.few,
      ap length c.used.ensures,
    ))

pub seal_draft-requires-clause-next : goal.seal_draft-requires-clause-next
seal_draft-requires-clause-next g c =
    next_of g.D.Disk.state c.args.keeper.now c.args.namer.now c.args.self.now (record c.args.self.now.draft { words = c.new.result }) c.requires refl (c.new.ensures ∙ (c.in_ok-words.ensures.is ∙ ap sorted_set c.used.ensures)) c.rows_fit.ensures
    (omega (arith, sym c.variables-variables.ensures))

pub returns-in_err-seal_draft-clause-full : goal.returns-in_err-seal_draft-clause-full
returns-in_err-seal_draft-clause-full g c = λ end need is.
    let there : IsErrOf c.seal_draft.result (ArchiveFull end need) = search rules in
    lacks_for g.D.Disk.state c.args.self.now (record c.args.self.now.draft { words = c.new.result }) end need c.args.keeper.now c.seal_draft.new.keeper c.args.namer.now c.seal_draft.new.namer refl
    (c.new.ensures ∙ (c.in_ok-words.ensures.is ∙ ap sorted_set c.used.ensures)) (c.seal_draft.ensures.full end need there)
