use Rattle.std.proofs.Common.{◌∙◌, ◌≡◌, ◌+◌, ◌++◌, arith, length, ap, refl, reverse, sym, subst}
use Rattle.turn_lock.specs.Words.{lock_of, IsReady}
use Rattle.ingest_fork.proofs.PassLemmas.{Joins}
use Rattle.turn_lock.proofs.FrontLemmas.{prefix_self}
use Rattle.ingest_fork.proofs.PlaceLemmas.{last_of, before_last, one_longer}
use Rattle.ingest_workers.specs.declared.open_worker.OpenWorker.{OpenWorker}
use Rattle.ingest_workers.specs.OpenWorker.{openers_in, workers_in}
use Rattle.ingest_workers.specs.StartedWorkers.{HasDismissed}
use Rattle.ingest_workers.proofs.CrewLemmas.{dismissed_none, dismissed_more, map_count, may_join}
use Rattle.ingest_workers.proofs.LentLemmas.{back_more, worker_there}
use Rattle.ingest_workers.proofs.start_workers.dismiss.Goals as goal

pub loop-worker-init : goal.loop-worker-init
loop-worker-init g c = let counted = map_count (λ (x : OpenWorker g.row.O.Denot). x.worker) c.args.workers.items in (
  prefix_self _,
  subst (λ n. HasDismissed c.args.types.now c.args.types.now c.args.words.now c.args.words.now (workers_in c.args.workers.items) n) counted (dismissed_none c.args.types.now c.args.words.now (workers_in c.args.workers.items)),
  refl,
  (let none : length c.args.openers.now.items ≡ 0 = ap length c.requires.none in omega (arith, none)),
  ap (λ l. l ++ reverse (openers_in c.args.workers.items)) c.requires.none,
)

pub join-requires-clause-lock : goal.join-requires-clause-lock
join-requires-clause-lock g c = let i = c.loop-worker.invariant in let at = worker_there c.args.workers.items (length c.pop.new.self.items) _ (last_of _ _ _ _ i.0 c.in-Some.ensures.items) in
    ap lock_of c.into_both-of_types.ensures.types ∙ ((may_join c.args.types.now c.args.words.now (workers_in c.args.workers.items) (length c.pop.new.self.items) _ _ at c.into_passes-passes.ensures c.requires.may).0.0 ∙ sym i.1.of_types.lock)

pub join-requires-clause-ready : goal.join-requires-clause-ready
join-requires-clause-ready g c = let at = worker_there c.args.workers.items (length c.pop.new.self.items) _ (last_of _ _ _ _ c.loop-worker.invariant.0 c.in-Some.ensures.items) in
    subst IsReady (sym c.into_both-of_types.ensures.types) (may_join c.args.types.now c.args.words.now (workers_in c.args.workers.items) (length c.pop.new.self.items) _ _ at c.into_passes-passes.ensures c.requires.may).0.1

pub join-requires-in-Some-clause-lock : goal.join-requires-in-Some-clause-lock
join-requires-in-Some-clause-lock g c = let i = c.loop-worker.invariant in let at = worker_there c.args.workers.items (length c.pop.new.self.items) _ (last_of _ _ _ _ i.0 c.in-Some.ensures.items) in
    ap lock_of c.into_both-of_types.ensures.words ∙ ((may_join c.args.types.now c.args.words.now (workers_in c.args.workers.items) (length c.pop.new.self.items) _ _ at c.into_passes-passes.ensures c.requires.may).1.0 ∙ sym i.1.of_words.lock)

pub join-requires-in-Some-clause-ready : goal.join-requires-in-Some-clause-ready
join-requires-in-Some-clause-ready g c = let at = worker_there c.args.workers.items (length c.pop.new.self.items) _ (last_of _ _ _ _ c.loop-worker.invariant.0 c.in-Some.ensures.items) in
    subst IsReady (sym c.into_both-of_types.ensures.words) (may_join c.args.types.now c.args.words.now (workers_in c.args.workers.items) (length c.pop.new.self.items) _ _ at c.into_passes-passes.ensures c.requires.may).1.1

pub loop-worker-preserved : goal.loop-worker-preserved
loop-worker-preserved g c = let i = c.loop-worker.invariant in let is = c.in-Some.ensures.items in let at = worker_there c.args.workers.items (length c.pop.new.self.items) _ (last_of _ _ _ _ i.0 is) in
    let place : length c.loop-worker.workers.items ≡ length c.pop.new.self.items + 1 = one_longer _ _ _ is in (
      before_last _ _ _ _ i.0 is,
      dismissed_more _ _ _ _ _ _ (workers_in c.args.workers.items) (length c.pop.new.self.items) _ _ at c.into_passes-passes.ensures
          (subst (λ n. HasDismissed c.args.types.now c.loop-worker.types c.args.words.now c.loop-worker.words (workers_in c.args.workers.items) n) place i.1)
          (subst (λ p. Joins c.loop-worker.types c.join.new.self p) c.into_both-of_types.ensures.types (record {
            lock = c.join.ensures.lock;
            about_is = c.join.ensures.about;
            made = c.join.ensures.made;
            own = c.join.ensures.own;
            ended = c.join.ensures.ended;
            learned = c.join.ensures.learned;
            taken = c.join.ensures.taken;
          }))
          (subst (λ p. Joins c.loop-worker.words c.join-in-Some.new.self p) c.into_both-of_types.ensures.words (record {
            lock = c.join-in-Some.ensures.lock;
            about_is = c.join-in-Some.ensures.about;
            made = c.join-in-Some.ensures.made;
            own = c.join-in-Some.ensures.own;
            ended = c.join-in-Some.ensures.ended;
            learned = c.join-in-Some.ensures.learned;
            taken = c.join-in-Some.ensures.taken;
          })),
      c.push_reserved.ensures.capacity ∙ i.2,
      omega (arith, c.push_reserved.ensures.len, c.in-Some.ensures.len, i.3),
      rw c.push_reserved.ensures.items (back_more c.loop-worker.workers.items c.pop.new.self.items c.loop-worker.openers.items _ _ is i.4),
    )
