-- A job whose source was not opened.
use Rattle.std.proofs.Common.{◌≡◌, ◌≤◌, ℕ, false, List, [], refl, sym, ap, subst, arith, Option, None, Some}
use Rattle.std.specs.Prelude.{IsSome}
use Rattle.log_seams.specs.Disk.{DiskState}
use Rattle.turn_lock.specs.Words.{IsReady}
use Rattle.disk_seal.specs.Fixed.{KeeperPass}
use Rattle.ingest_workers.specs.declared.job.Job.{Job}
use Rattle.ingest_workers.specs.declared.outcome.Outcome.{Outcome}
use Rattle.ingest_workers.specs.Causes.{log_of}
use Rattle.ingest_workers.specs.Full.{Books}
use Rattle.ingest_workers.specs.JobDone.{CameTo, HasSourceBack, IsDone}
use Rattle.ingest_workers.specs.Journal.{HasSoFar}
use Rattle.ingest_workers.specs.Outcome.{nothing_done}
use Rattle.ingest_workers.proofs.TakingLemmas.{came_none}

module _ {S : Type 0} (name : S → Option (List ℕ)) (faults : S → ℕ) where
  -- it has its source still
  pub source_stays : (j : Job S) → HasSourceBack name faults j j
  source_stays j = let has = held j.source j.full in record { before = has.0; after = has.0; had = has.1; has = has.1; keeps = record { named = refl; later = omega arith } }
    where
      held : (o : Option S) → IsSome o → (s : S) × (o ≡ Some s)
      held None some = absurd (cc (some))
      held (Some s) some = (s, refl)

module _ {S D : Type 0} (state : D → DiskState) (left name : S → Option (List ℕ)) (faults : S → ℕ) where
  -- nothing was done of it
  pub left_undone : (rows version : ℕ) (books : Books) (j : Job S) (p : KeeperPass D) → 1 ≤ rows → HasSoFar state p [] → IsReady p → j.is_open ≡ false → j.outcome ≡ nothing_done → IsDone state left name faults rows version books j p j p
  unfolding source_stays
  left_undone rows version books j p least so_far ready closed new = let source = source_stays name faults j in record {
    file = refl;
    cause = λ given to_be. absurd (cc (given, closed));
    part = λ is. ap (λ (o : Outcome). o.whole) new;
    unopened = λ is. new;
    source = source;
    came = subst (λ (o : Outcome). CameTo state rows version books (log_of left faults source.before source.after) p p o) (sym new)
        (came_none state rows least p so_far version books (log_of left faults source.before source.after) ready None refl);
    none = λ given spared. absurd (cc (given, closed));
  }
