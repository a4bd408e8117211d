use Rattle.std.proofs.Common.{◌∙◌, List, ap, arith, refl, reverse, subst, sym, vec_items}
use Rattle.ingest_fork.specs.Works.{AllReady}
use Rattle.disk_seal.specs.declared.fixed.StoreFixed.{StoreFixed}
use Rattle.disk_seal.specs.View.{StoreView}
use Rattle.ingest_workers.specs.declared.open_worker.OpenWorker.{OpenWorker}
use Rattle.ingest_workers.specs.OpenWorker.{AreKnown, openers_in, workers_in}
use Rattle.ingest_workers.specs.StartedWorkers.{MayDismiss}
use Rattle.ingest_workers.proofs.ClosingLemmas.{books_known, ends_book, may_dismiss, types_each, types_still, words_each, words_still}
use Rattle.ingest_workers.proofs.CrewLemmas.{map_count}
use Rattle.ingest_workers.proofs.FollowLemmas.{begins_over, went_beside}
use Rattle.ingest_workers.proofs.IngestLemmas.{causes_by, crew, ingested_by, may_do_by, rose_by, stayed_by}
use Rattle.ingest_workers.proofs.InTurnLemmas.{were_filled}
use Rattle.ingest_workers.proofs.LentLemmas.{all_closed, dismiss_new, enrolled_as, known_reversed, lent_gone, lent_none, ready_reversed}
use Rattle.ingest_workers.proofs.ingesting.with_workers.Goals as goal

pub over_store-requires-clause-workers : goal.over_store-requires-clause-workers
over_store-requires-clause-workers g c κs within =
    let count = map_count (λ (x : OpenWorker g.row.O.Denot). x.worker) c.enroll.new.workers.items in let counted = c.enroll.ensures.enrolled.counted in let manned = c.requires.openers.counted in
    (omega (arith, count, counted, manned, c.requires.begin.workers.0), omega (arith, count, counted, manned, c.requires.begin.workers.1))

pub over_store-requires-clause-idle : goal.over_store-requires-clause-idle
over_store-requires-clause-idle g c κs within =
    let e = enrolled_as _ _ _ _ _ _ _ _ c.requires.openers.counted c.enroll.ensures.enrolled in
    all_closed g.O.Opens.idle c.enroll.new.workers.items
    (λ n w at. (crew _ _ _ _ _ _ _ _ _ _ _ _ _ _ _ _ _ _ c.requires.types c.requires.words c.pass-types_reader.ensures.pass c.pass-words_reader.ensures.pass
    c.pass-types_reader.ensures.still c.pass-types_reader.ensures.made c.pass-words_reader.ensures.still c.pass-words_reader.ensures.made e c.requires.begin.workers.1 n w at).0)
    (subst (λ l. AllReady g.O.Opens.idle l) (sym c.enroll.ensures.openers) (ready_reversed g.O.Opens.idle _ c.requires.openers.closed))

pub over_store-requires-clause-may : goal.over_store-requires-clause-may
over_store-requires-clause-may g c κs within =
    let e = enrolled_as _ _ _ _ _ _ _ _ c.requires.openers.counted c.enroll.ensures.enrolled in
    may_do_by g.O.Opens.left g.O.Opens.name g.O.Opens.faults c.args.journal c.pass-types_reader.result c.pass-words_reader.result c.args.crew.now.order.types_saved c.args.crew.now.order.words_saved _ _ _ c.args.crew.now.order.plan _ _
    c.open_store-store.ensures c.from-first.ensures c.requires.begin.jobs c.enroll.ensures.enrolled.planned c.requires.begin.rows.0 c.requires.begin.rows.1 c.requires.begin.version c.requires.begin.journal.header
    (λ n w at. (crew _ _ _ _ _ _ _ _ _ _ _ _ _ _ _ _ _ _ c.requires.types c.requires.words c.pass-types_reader.ensures.pass c.pass-words_reader.ensures.pass
    c.pass-types_reader.ensures.still c.pass-types_reader.ensures.made c.pass-words_reader.ensures.still c.pass-words_reader.ensures.made e c.requires.begin.workers.1 n w at).1)

pub over_store-requires-clause-beside : goal.over_store-requires-clause-beside
over_store-requires-clause-beside g c κs within = begins_over _ c.args.journal c.pass-types_reader.result c.pass-words_reader.result c.args.crew.now.order.types_saved c.args.crew.now.order.words_saved _ c.open_store-store.ensures c.requires.beside

-- ---- all done

pub returns-in-Ok-over_store-clause-done : goal.returns-in-Ok-over_store-clause-done
returns-in-Ok-over_store-clause-done g c =
    let left = g.O.Opens.left in let order = c.args.crew.now.order in let plan = order.plan in
    let e = enrolled_as _ _ _ _ _ _ _ _ c.requires.openers.counted c.enroll.ensures.enrolled in
    let went = c.in-Ok-over_store.ensures.done.went in let ended = c.end.ensures.ended in let kept = c.end.ensures.kept in record {
      done = record {
        store = c.in-Ok-over_store.store;
        stored = ingested_by left g.O.Opens.name g.O.Opens.faults c.args.journal c.end.result c.pass-types_reader.result c.pass-words_reader.result order.types_saved order.words_saved c.in-Ok-over_store.store
            _ _ _ plan _ _ _ _ c.open_store-store.ensures c.from-first.ensures c.requires.begin.jobs e.planned c.in-Ok-over_store.ensures.done c.end.ensures.journal kept;
        of_types = ends_book _ _ _ _ _ _ _ _ _ _ _ _ _ _ _ c.requires.types c.pass-types_reader.ensures.still c.pass-types_reader.ensures.made e.of_types (types_still left plan _ _ _ _ _ _ _ _ _ e went)
            ended.types_read kept.types.number kept.types.own ended.dismissed.of_types (types_each left plan _ _ _ _ _ _ _ _ _ e went);
        of_words = ends_book _ _ _ _ _ _ _ _ _ _ _ _ _ _ _ c.requires.words c.pass-words_reader.ensures.still c.pass-words_reader.ensures.made e.of_words (words_still left plan _ _ _ _ _ _ _ _ _ e went)
            ended.words_read kept.words.number kept.words.own ended.dismissed.of_words (words_each left plan _ _ _ _ _ _ _ _ _ e went);
      };
      causes = causes_by left g.O.Opens.name g.O.Opens.faults c.args.journal c.end.result c.pass-types_reader.result c.pass-words_reader.result order.types_saved order.words_saved c.in-Ok-over_store.store
          _ _ _ _ plan _ _ _ _ c.open_store-store.ensures c.from-first.ensures c.requires.begin.jobs e.planned
          (books_known left plan _ _ _ _ _ _ _ _ _ e went _ _ _ _ ended) c.in-Ok-over_store.ensures.done c.end.ensures.journal kept;
      in_turn = λ one. were_filled left g.O.Opens.name g.O.Opens.faults plan _ _ _ _ _ _ _ _ _ _ _ _ _ _ _ _ one c.in-Ok-over_store.ensures.done e ended
          c.pass-types_reader.ensures.still c.pass-words_reader.ensures.still c.requires.types.opening.ended c.requires.words.opening.ended kept.types.own kept.words.own;
    }

pub returns-in-Ok-over_store-clause-gone : goal.returns-in-Ok-over_store-clause-gone
returns-in-Ok-over_store-clause-gone g c = lent_gone g.O.Opens.idle g.O.Opens.goes _ _ (openers_in c.enroll.new.workers.items) (openers_in c.over_store.new.workers.items) c.enroll.ensures.openers c.end.ensures.openers c.in-Ok-over_store.ensures.openers.gone

pub returns-in-Ok-over_store-clause-known : goal.returns-in-Ok-over_store-clause-known
returns-in-Ok-over_store-clause-known g c = subst (λ l. AreKnown g.O.Opens.knows l c.args.jobs.now c.over_store.new.jobs) (sym c.end.ensures.openers)
    (known_reversed g.O.Opens.knows (openers_in c.over_store.new.workers.items) c.args.jobs.now c.over_store.new.jobs c.in-Ok-over_store.ensures.openers.known)

pub returns-in-Ok-over_store-clause-beside : goal.returns-in-Ok-over_store-clause-beside
returns-in-Ok-over_store-clause-beside g c =
    let types = c.pass-types_reader.result in let words = c.pass-words_reader.result in let order = c.args.crew.now.order in let store = c.in-Ok-over_store.store in
    let fixed = c.in-Ok-over_store.ensures.done.fixed in
    went_beside _ _ c.args.journal c.end.result types words order.types_saved order.words_saved c.open_store-store.result store c.open_store-store.ensures c.in-Ok-over_store.ensures.beside c.end.ensures.journal
    (rose_by g.O.Opens.left g.O.Opens.name g.O.Opens.faults c.args.journal c.end.result types words order.types_saved order.words_saved store c.end.ensures.kept
    (ap (λ (x : StoreFixed g.row.D.Denot). x.opened) fixed ∙ ap (λ (x : StoreView g.row.D.Denot). x.opened) c.open_store-store.ensures) (sym c.end.ensures.journal.disk))

pub end-requires-clause-may : goal.end-requires-clause-may
end-requires-clause-may g c =
    let e = enrolled_as _ _ _ _ _ _ _ _ c.requires.openers.counted c.enroll.ensures.enrolled in
    may_dismiss g.O.Opens.left c.args.crew.now.order.plan _ _ _ _ _ _ _ _ _ e c.in-Ok-over_store.ensures.done.went _ _ refl refl

-- ---- none begun: the workers are as they were

pub end-requires-in-Err-clause-may : goal.end-requires-in-Err-clause-may
end-requires-in-Err-clause-may g c =
    let same = ap vec_items c.in-Err.ensures.same.0 in
    subst (λ l. MayDismiss c.enroll.new.types c.enroll.new.words (workers_in l)) (sym same) (dismiss_new _ _ _ _ c.enroll.new.types c.enroll.new.words _ _ _ c.enroll.ensures.enrolled refl refl)

pub returns-in-Err-clause-refused : goal.returns-in-Err-clause-refused
returns-in-Err-clause-refused g c = record {
  jobs = c.in-Err.ensures.same.1;
  journal = stayed_by g.O.Opens.left g.O.Opens.name g.O.Opens.faults c.args.journal c.end-in-Err.result c.pass-types_reader.result c.pass-words_reader.result c.args.crew.now.order.types_saved c.args.crew.now.order.words_saved c.in-Err.store
      _ c.open_store-store.ensures c.in-Err.ensures.refused c.end-in-Err.ensures.journal c.end-in-Err.ensures.kept;
}

pub returns-in-Err-clause-gone : goal.returns-in-Err-clause-gone
returns-in-Err-clause-gone g c =
    let same = ap vec_items c.in-Err.ensures.same.0 in
    lent_none g.O.Opens.idle g.O.Opens.goes _ _ (openers_in c.enroll.new.workers.items) (g.met.O.Opens g.world.𝓛 g.world.𝓜 g.world.𝓡 ((λ s x. x), (λ x. x), (λ x. x), λ x. x)).rests c.requires.openers.closed c.enroll.ensures.openers
    (c.end-in-Err.ensures.openers ∙ ap (λ (l : List (OpenWorker g.row.O.Denot)). reverse (openers_in l)) same)
