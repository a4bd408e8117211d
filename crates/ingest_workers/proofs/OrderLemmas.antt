-- What an ingest begins with, and what it tells by its order.
use Rattle.std.proofs.Common.{◌≡◌, ℕ, ◌<◌, ◌≤◌, List, [], ◌∷◌, ◌++◌, length, sym, ap, ◌∙◌, subst, arith, Option, Some, slice_get, Result, Ok, Err, IfOk, IsOk, OnOk, length-append}
use Rattle.log_seams.specs.declared.disk.Disk.{Ghosts as DiskGhosts}
use Rattle.ingest_fork.specs.declared.works.TheConstants.{MAX_WORKERS}
use Rattle.ingest_fork.proofs.PlaceLemmas.{at_seam}
use Rattle.disk_journal.specs.declared.journal.Journal.{Journal}
use Rattle.disk_journal.specs.Journal.{state_of}
use Rattle.disk_seal.specs.Opening.{MayOpen}
use Rattle.ingest_workers.specs.declared.ingesting.Order.{Order}
use Rattle.ingest_workers.specs.declared.job.Job.{Job}
use Rattle.ingest_workers.specs.declared.worker.Plan.{Plan}
use Rattle.ingest_workers.specs.InTurn.{AreFullInTurn}
use Rattle.ingest_workers.specs.Ingested.{AreNew, HasIngested, HaveCauses, first_file, plan_of}
use Rattle.ingest_workers.specs.OpenWorker.{HaveGone}
use Rattle.ingest_workers.specs.Ordered.{MayBegin, WereDone}
use Rattle.ingest_workers.proofs.IngestLemmas.{few_jobs}

module _ {S D : Type 0} {d : DiskGhosts D} (order : Order) (before : Journal D d) where
  pub may_begin : (rows : ℕ) (js : List (Job S)) → (0 < order.workers) × (order.workers ≤ MAX_WORKERS) → order.plan ≡ plan_of rows before → order.first ≡ first_file js → (1 ≤ rows) × (rows ≤ 65536)
      → MayOpen (state_of before) → AreNew (first_file js) (state_of before) js → MayBegin order before js
  may_begin rows js workers plan first limits opens new = let few = few_jobs (state_of before) js new in record {
    workers = workers;
    rows = (subst (λ (p : Plan). 1 ≤ p.rows) (sym plan) limits.0, subst (λ (p : Plan). p.rows ≤ 65536) (sym plan) limits.1);
    version = ap (λ (p : Plan). p.version) plan;
    journal = opens;
    jobs = subst (λ n. AreNew n (state_of before) js) (sym first) new;
    few = (subst (λ n. n < 4294967296) (sym first) few.0, few.1);
  }

module _ {S D X : Type 0} {d : DiskGhosts D} (left name : S → Option (List ℕ)) (faults : S → ℕ) (order : Order) (plan : Plan) (is : order.plan ≡ plan) (before : Journal D d) (js js' : List (Job S)) where
  pub done_by_plan : (r : Result (Journal D d) X) → IfOk r (λ after. WereDone left name faults order before after js js') → IfOk r (λ after. HasIngested left plan js js' before after)
  done_by_plan (Ok after) done = subst (λ (p : Plan). HasIngested left p js js' before after) is done.done
  done_by_plan (Err x) done = tt

  pub causes_by_plan : (r : Result (Journal D d) X) → IfOk r (λ after. WereDone left name faults order before after js js') → IfOk r (λ after. HaveCauses left name faults plan before after js js')
  causes_by_plan (Ok after) done = subst (λ (p : Plan). HaveCauses left name faults p before after js js') is done.causes
  causes_by_plan (Err x) done = tt

  pub in_turn_by_plan : (r : Result (Journal D d) X) → IfOk r (λ after. WereDone left name faults order before after js js') → order.workers ≡ 1 → IsOk r → AreFullInTurn left plan before js js'
  in_turn_by_plan (Ok after) done one ok = subst (λ (p : Plan). AreFullInTurn left p before js js') is (done.in_turn one)
  in_turn_by_plan (Err x) done one ok = absurd (cc (ok))

-- a lone opener that comes back
pub record LoneGone {O : Type 0} (idle : O → Type 0) (goes : O → O → Type 0) (o p : O) (os' : List O) : Type 0 where
  pub closed : idle p
  pub gone : goes o p
  pub first : slice_get os' 0 ≡ Some p
  pub alone : length os' ≡ 1

pub lone_gone : {O : Type 0} (idle : O → Type 0) (goes : O → O → Type 0) (os os' rest : List O) (o p : O) → os ≡ o ∷ [] → HaveGone idle goes os os' → os' ≡ rest ++ p ∷ [] → LoneGone idle goes o p os'
lone_gone {O} idle goes os os' rest o p lone gone popped =
    let alone : length os' ≡ 1 = gone.counted ∙ ap length lone in
    let count = ap length popped ∙ length-append rest (p ∷ []) in let none : length rest ≡ 0 = omega (arith, alone, count) in
    let here : slice_get os' 0 ≡ Some p = ap (λ l. slice_get l 0) popped ∙ (ap (λ n. slice_get (rest ++ p ∷ []) n) (sym none) ∙ at_seam rest [] p) in
    let r = gone.each 0 o (ap (λ l. slice_get l 0) lone) in
    let same : r.0 ≡ p = cc (r.1, here) in record {
      closed = subst idle same r.2;
      gone = subst (goes o) same r.3;
      first = here;
      alone = alone;
    }

pub on_ok : {X Y : Type 0} {P : Type 0} (r : Result X Y) → OnOk r P → IsOk r → P
on_ok (Ok x) p ok = p
on_ok (Err y) p ok = absurd (cc (ok))
