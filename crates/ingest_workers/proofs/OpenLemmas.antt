-- A job whose source was opened for it is done as its source is.
use Rattle.std.proofs.Common.{◌≡◌, refl, sym, ap, ap₂, subst, ◌∙◌, ℕ, ◌≤◌, Bool, true, false, not, List, [], ◌∷◌, Option, Some}
use Rattle.std.specs.Prelude.{IfSome, is_some}
use mathlib.Core.List.{IsPrefix}
use Rattle.log_seams.specs.Disk.{DiskState}
use Rattle.message_reader.specs.Versions.{MessagesOf}
use Rattle.disk_seal.specs.Fixed.{KeeperPass}
use Rattle.ingest_meaning.specs.Given.{AreAllOf, IsAmongFirst}
use Rattle.ingest_workers.specs.declared.job.Job.{Job}
use Rattle.ingest_workers.specs.declared.outcome.Outcome.{Outcome}
use Rattle.ingest_workers.specs.declared.worker.Worker.{Worker}
use Rattle.ingest_workers.specs.Causes.{HasJobCause, Log, grounds_of, log_of}
use Rattle.ingest_workers.specs.Done.{HasDone}
use Rattle.ingest_workers.specs.Full.{Books}
use Rattle.ingest_workers.specs.JobDone.{CameTo, HasSourceBack, IsDone, in_source}
use Rattle.ingest_workers.specs.Met.{WasMet, WasMetBy}
use Rattle.ingest_workers.specs.Outcome.{met_by}
use Rattle.ingest_workers.specs.Worker.{DidJob, DidOnly, IsIdle, MayDo, books_in, passes_of}
use Rattle.ingest_workers.specs.WorkerLaws.{names_wider, rests}
use Rattle.ingest_workers.proofs.UnopenedLemmas.{left_undone}

-- the thing that a job has, before and after, and the source that was opened for it, before and after
pub record IsOpened {T S : Type 0} (left name : T → Option (List ℕ)) (faults : T → ℕ) (of_source : S → Option (List ℕ)) (faults_of : S → ℕ)
    (j j' : Job T) (o o' : Job S) : Type 0 where
  pub before : T
  pub after : T
  pub source : S
  pub source' : S
  pub had : j.source ≡ Some before
  pub has : j'.source ≡ Some after
  pub opened : o.source ≡ Some source
  pub closed : o'.source ≡ Some source'
  pub left_is : of_source source ≡ left before
  pub left_then : left after ≡ of_source source'
  pub faults_is : faults_of source ≡ faults before
  pub faults_then : faults after ≡ faults_of source'
  pub named : name after ≡ name before
  pub file : o.file ≡ j.file
  pub file' : j'.file ≡ j.file
  pub part : o.is_part ≡ j.is_part
  pub open_is : j.is_open ≡ true
  pub opened_is : o.is_open ≡ true
  pub outcome : j'.outcome ≡ o'.outcome

module _ {T S D : Type 0} (state : D → DiskState) (left name : T → Option (List ℕ)) (faults : T → ℕ) (of_source name_of : S → Option (List ℕ)) (faults_of : S → ℕ) where
  -- the message is one that the job met
  met_same : (rows version : ℕ) (j j' : Job T) (o o' : Job S) (m : List ℕ) → IsOpened left name faults of_source faults_of j j' o o' → WasMetBy of_source rows version o o'.outcome m → WasMetBy left rows version j j'.outcome m
  met_same rows version j j' o o' m is met =
      let told : in_source of_source o.source ≡ in_source left j.source = ap (in_source of_source) is.opened ∙ (is.left_is ∙ sym (ap (in_source left) is.had)) in
      subst (λ (c : Outcome). IsAmongFirst version (in_source left j.source) (met_by rows c) m) (sym is.outcome) (subst (λ b. IsAmongFirst version b (met_by rows o'.outcome) m) told met)

  one_source : {o : Option S} (a b : S) → o ≡ Some a → o ≡ Some b → a ≡ b
  one_source a b e f = cc (e, f)

  -- the same log
  log_same : (t t' : T) (s s' : S) → of_source s ≡ left t → left t' ≡ of_source s' → faults_of s ≡ faults t → faults t' ≡ faults_of s' → log_of of_source faults_of s s' ≡ log_of left faults t t'
  log_same t t' s s' a b c d = rw (a, sym b, c, sym d) refl

  done_same : (rows version : ℕ) (books : Books) (j j' : Job T) (o o' : Job S) (p q : KeeperPass D) → IsOpened left name faults of_source faults_of j j' o o'
      → IsDone state of_source name_of faults_of rows version books o p o' q → IsDone state left name faults rows version books j p j' q
  done_same rows version books j j' o o' p q is done =
      let first = one_source done.source.before is.source done.source.had is.opened in
      let last = one_source done.source.after is.source' done.source.has is.closed in
      let same : log_of of_source faults_of done.source.before done.source.after ≡ log_of left faults is.before is.after =
      ap₂ (λ s s'. log_of of_source faults_of s s') first last ∙ log_same is.before is.after is.source is.source' is.left_is is.left_then is.faults_is is.faults_then in
      let c = done.came in
      let whole : o'.outcome.whole ≡ j'.outcome.whole = ap (λ (x : Outcome). x.whole) (sym is.outcome) in
      let came : CameTo state rows version books (log_of left faults is.before is.after) p q j'.outcome = record {
        covered = c.covered;
        ended = c.ended;
        count = ap (λ (x : Outcome). x.messages) is.outcome ∙ c.count;
        done = subst (λ w. HasDone state rows p q c.covered w c.ended) whole c.done;
        first = subst (λ (l : Log). IfSome l.bytes (λ b. (messages : List (List ℕ)) (e : Bool) → MessagesOf version b messages e → IsPrefix c.covered messages)) same c.first;
        all = λ it. subst (λ (l : Log). IfSome l.bytes (λ b. (messages : List (List ℕ)) (e : Bool) → MessagesOf version b messages e → (c.covered ≡ messages) × (c.ended ≡ e))) same (c.all (whole ∙ it));
        caused = subst (λ (x : Outcome). HasJobCause (grounds_of state rows version books (left is.before) p q) (log_of left faults is.before is.after) version c.covered x.cause) (sym is.outcome)
            (subst (λ (l : Log). HasJobCause (grounds_of state rows version books l.bytes p q) l version c.covered o'.outcome.cause) same c.caused);
      } in
      record {
        file = is.file';
        cause = λ opened given. subst (λ (x : Outcome). is_some x.cause ≡ not x.whole) (sym is.outcome) (done.cause is.opened_is (is.part ∙ given));
        part = λ part. ap (λ (x : Outcome). x.whole) is.outcome ∙ done.part (is.part ∙ part);
        unopened = λ closed. absurd (cc (is.open_is, closed));
        source = record {
          before = is.before;
          after = is.after;
          had = is.had;
          has = is.has;
          keeps = record { named = is.named; later = subst (λ n. n ≤ faults is.after) is.faults_is (subst (λ n. faults_of is.source ≤ n) (sym is.faults_then) later) };
        };
        came = came;
        none = λ opened spared. subst (λ b. AreAllOf version b c.covered) (ap (λ (l : Log). l.bytes) same) (done.none is.opened_is (ap (λ (x : Outcome). x.cause) (sym is.outcome) ∙ spared));
      }
    where
      later : faults_of is.source ≤ faults_of is.source'
      later = subst (λ s. faults_of s ≤ faults_of is.source') (one_source done.source.before is.source done.source.had is.opened)
          (subst (λ s. faults_of done.source.before ≤ faults_of s) (one_source done.source.after is.source' done.source.has is.closed) done.source.keeps.later)

  pub name_same : (o o' : Job S) (s s' : S) → HasSourceBack name_of faults_of o o' → o.source ≡ Some s → o'.source ≡ Some s' → name_of s' ≡ name_of s
  name_same o o' s s' back had has =
      subst (λ x. name_of x ≡ name_of s) (one_source back.after s' back.has has) (subst (λ x. name_of back.after ≡ name_of x) (one_source back.before s back.had had) back.keeps.named)

  pub did_only : (w v : Worker) (j j' : Job T) (o o' : Job S) (k m : KeeperPass D) → v.plan ≡ w.plan → IsOpened left name faults of_source faults_of j j' o o'
      → DidJob state of_source name_of faults_of w o k v o' m → DidOnly left (j ∷ []) (j' ∷ []) w v
  did_only w v j j' o o' k m plan is did = record {
    plan = plan;
    names = names_wider w.plan.version (WasMetBy of_source w.plan.rows w.plan.version o o'.outcome) (WasMet left w.plan.rows w.plan.version (j ∷ []) (j' ∷ [])) (passes_of w) (passes_of v)
        (λ message met. (0, j, j', refl, refl, met_same w.plan.rows w.plan.version j j' o o' message is met)) did.names;
  }

  pub did_same : (w v : Worker) (j j' : Job T) (o o' : Job S) (k m : KeeperPass D) → IsOpened left name faults of_source faults_of j j' o o'
      → DidJob state of_source name_of faults_of w o k v o' m → DidJob state left name faults w j k v j' m
  did_same w v j j' o o' k m is did = record {
    done = done_same w.plan.rows w.plan.version (books_in v) j j' o o' k m is did.done;
    names = names_wider w.plan.version (WasMetBy of_source w.plan.rows w.plan.version o o'.outcome) (WasMetBy left w.plan.rows w.plan.version j j'.outcome) (passes_of w) (passes_of v)
        (λ message met. met_same w.plan.rows w.plan.version j j' o o' message is met) did.names;
  }

module _ {T D : Type 0} (state : D → DiskState) (left name : T → Option (List ℕ)) (faults : T → ℕ) where
  -- a job that is not to be read
  pub undone : (w : Worker) (j : Job T) (k : KeeperPass D) → IsIdle w → MayDo state w j k → j.is_open ≡ false → DidJob state left name faults w j k w j k
  undone w j k idle may closed = record {
    done = left_undone state left name faults w.plan.rows w.plan.version (books_in w) j k may.least may.new.so_far may.new.ready closed may.new.outcome;
    names = names_wider w.plan.version (WasMet left w.plan.rows w.plan.version [] []) (WasMetBy left w.plan.rows w.plan.version j j.outcome) (passes_of w) (passes_of w)
        (λ message met. absurd (cc met.3)) (rests left [] [] w idle).names;
  }
