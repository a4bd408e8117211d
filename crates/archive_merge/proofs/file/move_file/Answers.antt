use Rattle.std.proofs.Common.{◌≡◌, ◌∙◌, [], ◌∷◌, refl, rules, subst, sym}
use Rattle.std.specs.Prelude.{Err, IsErrOf, is_ok}
use Rattle.std.proofs.lemmas.Result.{err_from_is_err_and}
use Rattle.log_seams.proofs.MomentLemmas.{rests_on}
use Rattle.ingest_workers.proofs.DoingLemmas.{each_err}
use Rattle.ingest_workers.proofs.MaySealLemmas.{nothing_sealed}
use Rattle.archive_merge.specs.declared.cause.MergeCause.TheVariants.{SecondDamaged}
use Rattle.archive_merge.specs.Causes.{HasMoveCause}
use Rattle.archive_merge.specs.Sealing.{MovesSegment, books_in}
use Rattle.archive_merge.specs.Taken.{texts_by}
use Rattle.archive_merge.proofs.FileLemmas.{came_over, cause_since, contains_place, err_not_ok, holds_next, moved_reached, next_reached, way_begins, way_moves}
use Rattle.archive_merge.proofs.SealingLemmas.{adds_at, adds_reached, adds_self, texts_then}
use Rattle.log_seams.proofs.ReadsLemmas.{rests_same}
use Rattle.archive_merge.proofs.file.move_file.Goals as goal

pub loop-place-init : goal.loop-place-init
loop-place-init g c = record {
  rests = rests_same (g.E.Disk.state c.args.disk.now);
  mover = c.requires.mover;
  named = adds_self _ c.args.namer.now;
  way = way_begins _ _ _ _ _ _ c.args.file.now c.new-hand.result c.requires.new c.requires.mover.worker.ready c.new-hand.ensures.file c.new-hand.ensures.empty c.new-hand.ensures.sum;
  disk = refl;
}

pub returns-in_err-move_segment-clause-named : goal.returns-in_err-move_segment-clause-named
returns-in_err-move_segment-clause-named g c = texts_then _ _ _ _ c.loop-place.invariant.named
    (adds_at _ _ _ _ c.place-item.result _ _ c.loop-place.invariant.rests.seen
    (next_reached _ _ _ _ _ _ c.loop-place.place-index c.loop-place.keeper c.loop-place.file c.loop-place.hand c.loop-place.invariant.way c.place-item.result c.loop-place-test.true c.place-item.is) c.move_segment.ensures.named)

pub returns-in_err-move_segment-clause-came : goal.returns-in_err-move_segment-clause-came
returns-in_err-move_segment-clause-came g c =
    let p = err_from_is_err_and c.from_residual.result c.from_residual.ensures.1 in
    let way = c.loop-place.invariant.way in
    came_over _ _ _ _ _ _ c.loop-place.place-index c.loop-place.keeper c.loop-place.file c.loop-place.hand way c.args.file.now c.move_segment.new.keeper (is_ok c.from_residual.result) c.requires.new c.in_err-move_segment.ensures.refused
    (λ ok. absurd (err_not_ok c.from_residual.result p.0 p.1 ok)) (λ no. (c.place-item.result, c.loop-place-test.true, c.place-item.is))

pub returns-in_err-move_segment-clause-causes : goal.returns-in_err-move_segment-clause-causes
returns-in_err-move_segment-clause-causes g c =
    let refusal = c.in_err-move_segment.field-0.0 in
    let p = err_from_is_err_and c.from_residual.result c.from_residual.ensures.1 in
    let version = g.M.Names.version c.args.names.now in
    let old = texts_by g.M.Names.types g.M.Names.words c.args.names.now in
    let place = c.place-item.result in
    let told = (g.E.Disk.state c.args.disk.now).seen in
    let now = c.loop-place in
    let way = now.invariant.way in
    each_err c.from_residual.result (λ e. HasMoveCause g.D.Disk.state version old c.args.places.now told now.file.messages c.args.keeper.now c.move_segment.new.keeper (books_in c.move_segment.new.namer) e) (λ y is.
    let same : refusal ≡ y = cc (p.1, p.2, is) in
    cause_since g.D.Disk.state version old c.args.places.now told now.file.messages place now.hand.draft.first c.args.keeper.now now.keeper c.move_segment.new.keeper way.more (books_in c.move_segment.new.namer) y
    (contains_place c.args.places.now now.place-index place c.loop-place-test.true c.place-item.is) (way.stands.first ∙ sym way.count) way.added
    (subst (λ s. HasMoveCause g.D.Disk.state version old (place ∷ []) s now.hand.draft.first now.keeper c.move_segment.new.keeper (books_in c.move_segment.new.namer) y) now.invariant.rests.seen
    (subst (λ e. HasMoveCause g.D.Disk.state version old (place ∷ []) (g.E.Disk.state now.disk).seen now.hand.draft.first now.keeper c.move_segment.new.keeper (books_in c.move_segment.new.namer) e) same c.in_err-move_segment.ensures.causes)))

pub returns-in_err-move_segment-clause-damaged : goal.returns-in_err-move_segment-clause-damaged
returns-in_err-move_segment-clause-damaged g c = λ same bytes all told fair_types fair_words run.
    let refusal = c.in_err-move_segment.field-0.0 in
    let p = err_from_is_err_and c.from_residual.result c.from_residual.ensures.1 in
    let was : c.move_segment.result ≡ Err refusal = c.in_err-move_segment.was in
    let refused : IsErrOf c.move_segment.result SecondDamaged = cc (p.1, p.2, same, was) in
    c.move_segment.ensures.damaged refused bytes (c.loop-place.invariant.rests.seen ∙ told)
    (holds_next _ _ _ _ _ _ c.loop-place.place-index c.loop-place.keeper c.loop-place.file c.loop-place.hand c.loop-place.invariant.way c.place-item.result c.loop-place-test.true c.place-item.is bytes all told fair_types fair_words run)

pub loop-place-preserved : goal.loop-place-preserved
loop-place-preserved g c =
    let now = c.loop-place in
    let version = g.M.Names.version c.args.names.now in
    let old = texts_by g.M.Names.types g.M.Names.words c.args.names.now in
    let moved = subst (λ s. MovesSegment g.D.Disk.state version old c.place-item.result s now.hand c.move_segment.new.hand now.keeper c.move_segment.new.keeper) now.invariant.rests.seen c.in_ok-move_segment.ensures.moved in
    record {
      rests = rests_on _ _ _ now.invariant.rests c.in_ok-move_segment.ensures.rests;
      mover = c.in_ok-move_segment.ensures.mover;
      named = adds_reached version old c.args.places.now (g.E.Disk.state c.args.disk.now).seen now.file.messages _ _ _
          (moved_reached _ _ _ _ _ _ now.place-index now.keeper now.file now.hand now.invariant.way c.place-item.result c.loop-place-test.true c.place-item.is c.move_segment.new.keeper c.move_segment.new.hand _ moved refl)
          (texts_then _ _ _ _ now.invariant.named
          (adds_at _ _ _ _ c.place-item.result _ _ now.invariant.rests.seen
          (next_reached _ _ _ _ _ _ now.place-index now.keeper now.file now.hand now.invariant.way c.place-item.result c.loop-place-test.true c.place-item.is) c.in_ok-move_segment.ensures.named));
      way = way_moves _ _ _ _ _ _ now.place-index now.keeper now.file now.hand now.invariant.way c.place-item.result c.loop-place-test.true c.place-item.is c.move_segment.new.keeper _ c.move_segment.new.hand moved refl refl refl;
      disk = c.in_ok-move_segment.ensures.disk.steady ∙ now.invariant.disk;
    }

pub returns-clause-came : goal.returns-clause-came
returns-clause-came g c =
    came_over _ _ _ _ _ _ c.loop-place.place-index c.loop-place.keeper c.loop-place.file c.loop-place.hand c.loop-place.invariant.way c.args.file.now c.loop-place.keeper _ c.requires.new (nothing_sealed g.D.Disk.state c.loop-place.keeper c.loop-place.invariant.way.added.ready)
    (λ ok. search rules) (λ no. absurd (cc (no)))
