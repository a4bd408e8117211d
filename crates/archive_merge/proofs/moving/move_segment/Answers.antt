use Rattle.std.proofs.Common.{◌≡◌, ◌∙◌, [], ◌∷◌, subst, sym}
use Rattle.std.specs.Prelude.{Err, IsErrOf}
use Rattle.std.proofs.lemmas.Result.{err_from_is_err_and}
use Rattle.ingest_workers.specs.declared.outcome.Cause.TheVariants.{ArchiveFull}
use Rattle.ingest_workers.proofs.DoingLemmas.{next_worker}
use Rattle.ingest_workers.proofs.MaySealLemmas.{nothing_sealed, on_err}
use Rattle.archive_merge.specs.declared.cause.MergeCause.TheVariants.{SecondDamaged}
use Rattle.archive_merge.specs.declared.stop.Stop.TheVariants.{SecondDamaged as StopDamaged}
use Rattle.archive_merge.specs.Causes.{HasMoveCause, cause_by}
use Rattle.archive_merge.specs.Sealing.{books_in}
use Rattle.archive_merge.specs.Taken.{texts_by}
use Rattle.archive_merge.proofs.SealingLemmas.{adds_named, adds_seen, may_seal, moves_segment, no_room_now, seal_cause, serves_seen, stays, stop_damaged, texts_then, worker_named}
use Rattle.archive_merge.proofs.moving.move_segment.Goals as goal

pub returns-in_err-take_next-clause-mover : goal.returns-in_err-take_next-clause-mover
returns-in_err-take_next-clause-mover g c =
    let took = c.take_next.ensures in record {
      worker = worker_named c.args.keeper.now c.args.namer.now c.take_next.new.namer took.namer.0 (stays c.args.namer.now c.take_next.new.namer took.namer.1) c.requires.mover.worker;
      version_is = took.namer.0 ∙ c.requires.mover.version_is;
      serves = took.named.serves;
    }

pub returns-in_err-take_next-clause-refused : goal.returns-in_err-take_next-clause-refused
returns-in_err-take_next-clause-refused g c = on_err c.from_residual.result _ (nothing_sealed g.D.Disk.state c.args.keeper.now c.requires.mover.worker.ready)

pub returns-in_err-take_next-clause-damaged : goal.returns-in_err-take_next-clause-damaged
returns-in_err-take_next-clause-damaged g c = λ same bytes told has.
    let stop = c.in_err-take_next.field-0.0 in
    let p = err_from_is_err_and c.from_residual.result c.from_residual.ensures.1 in
    let made : cause_by stop ≡ SecondDamaged = cc (p.1, p.2, same) in
    let damaged : stop ≡ StopDamaged = stop_damaged stop made in
    let was : c.take_next.result ≡ Err stop = c.in_err-take_next.was in
    let refused : IsErrOf c.take_next.result StopDamaged = cc (was, damaged) in
    c.take_next.ensures.damaged refused bytes told has

pub seal-requires : goal.seal-requires
seal-requires g c =
    let took = c.take_next.ensures in
    let worker = worker_named c.args.keeper.now c.args.namer.now c.take_next.new.namer took.namer.0 (stays c.args.namer.now c.take_next.new.namer took.namer.1) c.requires.mover.worker in
    may_seal g.D.Disk.state _ _ _ _ _ c.args.keeper.now c.take_next.new.namer c.args.hand.now c.take_next.new.hand worker (took.namer.0 ∙ c.requires.mover.version_is) c.in_ok-take_next.ensures.taken
    c.requires.stands.0 c.requires.stands.1

pub returns-in-Ok-clause-mover : goal.returns-in-Ok-clause-mover
returns-in-Ok-clause-mover g c =
    let took = c.take_next.ensures in
    let worker = worker_named c.args.keeper.now c.args.namer.now c.take_next.new.namer took.namer.0 (stays c.args.namer.now c.take_next.new.namer took.namer.1) c.requires.mover.worker in
    record {
      worker = next_worker c.args.keeper.now c.seal.new.keeper _ c.take_next.new.namer c.seal.new.namer c.seal.ensures.namer c.in-Ok.ensures.sealed.added worker;
      version_is = c.seal.ensures.namer.version ∙ (took.namer.0 ∙ c.requires.mover.version_is);
      serves = serves_seen _ _ c.take_next.new.namer c.seal.new.namer _ c.seal.ensures.namer took.named.serves;
    }

pub returns-in-Ok-clause-moved : goal.returns-in-Ok-clause-moved
returns-in-Ok-clause-moved g c =
    let took = c.take_next.ensures in
    let worker = worker_named c.args.keeper.now c.args.namer.now c.take_next.new.namer took.namer.0 (stays c.args.namer.now c.take_next.new.namer took.namer.1) c.requires.mover.worker in
    moves_segment g.D.Disk.state _ _ _ _ _ c.args.keeper.now c.take_next.new.namer c.args.hand.now c.take_next.new.hand worker (took.namer.0 ∙ c.requires.mover.version_is) c.in_ok-take_next.ensures.taken
    c.requires.stands.1.empty.rows c.seal.new.keeper c.seal.new.self c.in-Ok.ensures.emptied c.in-Ok.ensures.sealed c.in-Ok.ensures.holds

pub returns-in-Err-clause-mover : goal.returns-in-Err-clause-mover
returns-in-Err-clause-mover g c =
    let took = c.take_next.ensures in
    let worker = worker_named c.args.keeper.now c.args.namer.now c.take_next.new.namer took.namer.0 (stays c.args.namer.now c.take_next.new.namer took.namer.1) c.requires.mover.worker in
    record {
      worker = next_worker c.args.keeper.now c.seal.new.keeper _ c.take_next.new.namer c.seal.new.namer c.seal.ensures.namer c.in-Err.ensures.refused.added worker;
      version_is = c.seal.ensures.namer.version ∙ (took.namer.0 ∙ c.requires.mover.version_is);
      serves = serves_seen _ _ c.take_next.new.namer c.seal.new.namer _ c.seal.ensures.namer took.named.serves;
    }

pub returns-in-Err-clause-causes : goal.returns-in-Err-clause-causes
returns-in-Err-clause-causes g c =
    let took = c.take_next.ensures in
    let worker = worker_named c.args.keeper.now c.args.namer.now c.take_next.new.namer took.namer.0 (stays c.args.namer.now c.take_next.new.namer took.namer.1) c.requires.mover.worker in
    let version = g.M.Names.version c.args.names.now in
    let old = texts_by g.M.Names.types g.M.Names.words c.args.names.now in
    let places = c.args.place.now ∷ [] in
    let told = (g.E.Disk.state c.args.disk.now).seen in
    let done = c.args.hand.now.draft.first in
    subst (λ e. HasMoveCause g.D.Disk.state version old places told done c.args.keeper.now c.seal.new.keeper (books_in c.seal.new.namer) e) (sym c.of_sealing.ensures)
    (seal_cause g.D.Disk.state version old places told done c.args.keeper.now c.seal.new.keeper (books_in c.seal.new.namer) _ c.in-Err.cause c.in-Err.ensures.causes
    (λ end need is.
    let refused : IsErrOf c.seal.result (ArchiveFull end need) = cc (c.in-Err.is, is) in
    no_room_now g.D.Disk.state _ _ _ _ _ c.args.keeper.now c.take_next.new.namer c.args.hand.now c.take_next.new.hand worker (took.namer.0 ∙ c.requires.mover.version_is) c.in_ok-take_next.ensures.taken
    c.requires.stands.0 c.requires.stands.1 end need c.seal.new.keeper c.seal.new.namer (c.seal.ensures.full end need refused)))

pub returns-in_err-take_next-clause-named : goal.returns-in_err-take_next-clause-named
returns-in_err-take_next-clause-named g c =
    let took = c.take_next.ensures in adds_named _ c.args.namer.now c.take_next.new.namer (stays c.args.namer.now c.take_next.new.namer took.namer.1) took.named.more

pub returns-in-Ok-clause-named : goal.returns-in-Ok-clause-named
returns-in-Ok-clause-named g c =
    let took = c.take_next.ensures in
    texts_then _ c.args.namer.now c.take_next.new.namer c.seal.new.namer (adds_named _ c.args.namer.now c.take_next.new.namer (stays c.args.namer.now c.take_next.new.namer took.namer.1) took.named.more)
    (adds_seen _ c.take_next.new.namer c.seal.new.namer c.seal.ensures.namer)

pub returns-in-Err-clause-named : goal.returns-in-Err-clause-named
returns-in-Err-clause-named g c =
    let took = c.take_next.ensures in
    texts_then _ c.args.namer.now c.take_next.new.namer c.seal.new.namer (adds_named _ c.args.namer.now c.take_next.new.namer (stays c.args.namer.now c.take_next.new.namer took.namer.1) took.named.more)
    (adds_seen _ c.take_next.new.namer c.seal.new.namer c.seal.ensures.namer)
