-- What the journal has of a job's file, from what its pass added.
use Rattle.std.proofs.Common.{◌≡◌, ℕ, ◌+◌, ◌&&◌, ◌==◌, Bool, true, false, if◌then◌else◌, List, [], ◌∷◌, ◌++◌, length, sym, refl, ap, ◌∙◌, subst, Option, None, Some, is_some, arith}
use Rattle.std.specs.List.{filter_map, cons_option}
use Rattle.std.proofs.lemmas.Bool.Decides.{nat_tests}
use mathlib.Core.List.{IsPrefix}
use Rattle.log_seams.specs.declared.disk.Disk.{Ghosts as DiskGhosts}
use Rattle.turn_lock.specs.declared.board.About.{About}
use Rattle.turn_lock.specs.Words.{about, number_of, own_list, seen}
use Rattle.turn_lock.proofs.FrontLemmas.{prefix_trans}
use Rattle.ingest_fork.specs.Picked.{entries_in}
use Rattle.column_store.specs.declared.row.Row.{Row}
use Rattle.disk_journal.specs.declared.journal.Journal.{Journal}
use Rattle.disk_journal.specs.Journal.{state_of}
use Rattle.archive_meaning.specs.declared.entry.SegmentEntry.{SegmentEntry}
use Rattle.archive_meaning.specs.declared.entry.JournalEntry.{JournalEntry}
use Rattle.archive_meaning.specs.declared.entry.JournalEntry.TheVariants.{Files, Types, Words, Segment}
use Rattle.disk_seal.specs.declared.entry.StoreEntry.{StoreEntry}
use Rattle.disk_seal.specs.declared.fixed.StoreFixed.{StoreFixed}
use Rattle.disk_seal.specs.Told.{IfTold}
use Rattle.disk_seal.specs.Draft.{journal_seen}
use Rattle.disk_seal.specs.Fixed.{KeeperPass}
use Rattle.disk_seal.proofs.ToldLemmas.{told_map}
use Rattle.ingest_workers.specs.declared.job.Job.{Job}
use Rattle.ingest_workers.specs.declared.worker.Plan.{Plan}
use Rattle.ingest_meaning.specs.Given.{AreAllOf}
use Rattle.ingest_workers.specs.Full.{Books}
use Rattle.ingest_workers.specs.JobDone.{IsDone, in_source}
use Rattle.ingest_workers.specs.Journal.{FrontHolds, segments_in, entries_at, sealed_by}
use Rattle.ingest_meaning.specs.Parts.{in_file}
use Rattle.ingest_meaning.specs.Parts.{Part, messages_in, rest_of, segments_from}
use Rattle.ingest_workers.specs.Ingested.{IsFileOf, OfMessages, told_entries}

-- all segments are of this file
abbrev Mine : ℕ → List SegmentEntry → Type 0
Mine n [] = Unit {0}
Mine n (s ∷ ss) = (s.file ≡ n) × Mine n ss

mine_joined : (n : ℕ) (xs ys : List SegmentEntry) → Mine n xs → Mine n ys → Mine n (xs ++ ys)
mine_joined n [] ys a b = b
mine_joined n (x ∷ xs) ys a b = (a.0, mine_joined n xs ys a.1 b)

mine_from : (n first : ℕ) (ps : List Part) → Mine n (segments_from n first ps)
mine_from n first [] = tt
mine_from n first (p ∷ ps) = (refl, mine_from n (first + length p.messages) ps)

mine_rest : (n first : ℕ) (whole ended : Bool) (p : Part) → Mine n (rest_of n first whole ended p)
mine_rest n first true ended p = (refl, tt)
mine_rest n first false ended p = by_rows p.rows p.messages
  where
    by_rows : (rows : List Row) (messages : List (List ℕ)) → Mine n (rest_of n first false ended (record { rows = rows; messages = messages }))
    by_rows [] messages = tt
    by_rows (r ∷ rows) messages = (refl, tt)

same_eq : (a b : ℕ) → a ≡ b → (a == b) ≡ true
same_eq a b is = grind (arith, nat_tests)

-- where all segments are of the file, they are what is picked
picked_all : (n : ℕ) (es : List JournalEntry) → Mine n (segments_in es) → filter_map (in_file n) es ≡ segments_in es
picked_all n [] mine = refl
picked_all n (Files names ∷ es) mine = picked_all n es mine
picked_all n (Types first texts ∷ es) mine = picked_all n es mine
picked_all n (Words first texts ∷ es) mine = picked_all n es mine
picked_all n (Segment s ∷ es) mine = ap (λ b. cons_option (if b then Some s else None) (filter_map (in_file n) es)) (same_eq s.file n mine.0) ∙ ap (λ l. s ∷ l) (picked_all n es mine.1)

entries_same : (l : List (ℕ × StoreEntry)) → entries_in l ≡ entries_at l
entries_same [] = refl
entries_same (x ∷ xs) = ap (λ l. x.1 ∷ l) (entries_same xs)

module _ {S D : Type 0} {d : DiskGhosts D} (left name : S → Option (List ℕ)) (faults : S → ℕ) (plan : Plan) (before : Journal D d) where
  pub file_of : (fresh : List JournalEntry) (old new : Job S) (p q : KeeperPass D) (over : About (StoreFixed D)) (books : Books) → IsDone d.state left name faults plan.rows plan.version books old p new q → number_of p ≡ old.file → about p ≡ Some over
      → over.fixed.opened ≡ before.disk.now → over.fixed.header ≡ before.header → own_list p ≡ []
      → filter_map (in_file old.file) fresh ≡ filter_map (in_file old.file) (journal_seen (entries_in (own_list q))) → IsPrefix (journal_seen (seen q)) (told_entries (state_of before) ++ fresh) → IsFileOf left plan before fresh old new
  file_of fresh old new p q over books done number known opened header own picked seen_on = let o = done.came in let h = o.done in record {
    file = done.file;
    covered = o.covered;
    ended = o.ended;
    count = o.count;
    cause = done.cause;
    part = done.part;
    unopened = done.unopened;
    first = subst (λ s. OfMessages plan.version (in_source left s) (λ messages e. IsPrefix o.covered messages)) (sym done.source.had) o.first;
    all = λ w. subst (λ s. OfMessages plan.version (in_source left s) (λ messages e. (o.covered ≡ messages) × (o.ended ≡ e))) (sym done.source.had) (o.all w);
    none = λ given spared. subst (λ s. AreAllOf plan.version (in_source left s) o.covered) (sym done.source.had) (done.none given spared);
    closed = h.closed;
    rest = h.rest;
    parts = h.covered_is;
    cut = h.cut;
    not_yet = h.not_yet;
    segments = told_map (is_some (state_of before).disk.seen) exactly (told_here _ (h.segments over known));
    held = told_map (is_some (state_of before).disk.seen) further (told_here _ (h.held over known));
  }
    where
      told_here : (X : Type 0) → IfTold (is_some (d.state over.fixed.opened).seen) X → IfTold (is_some (state_of before).disk.seen) X
      told_here X x = subst (λ (y : D). IfTold (is_some (d.state y).seen) X) opened x

      segments : ℕ → List SegmentEntry
      segments n = segments_from n 0 done.came.done.closed ++ rest_of n (length (messages_in done.came.done.closed)) new.outcome.whole done.came.ended done.came.done.rest

      mine : (n : ℕ) → Mine n (segments n)
      mine n = mine_joined n (segments_from n 0 done.came.done.closed) (rest_of n (length (messages_in done.came.done.closed)) new.outcome.whole done.came.ended done.came.done.rest)
          (mine_from n 0 done.came.done.closed) (mine_rest n (length (messages_in done.came.done.closed)) new.outcome.whole done.came.ended done.came.done.rest)

      added : journal_seen (entries_in (own_list q)) ≡ journal_seen (entries_at done.came.done.more)
      added = ap (λ l. journal_seen (entries_in l)) (done.came.done.added.own ∙ ap (λ l. l ++ done.came.done.more) own) ∙ ap journal_seen (entries_same done.came.done.more)

      exactly : sealed_by done.came.done.more ≡ segments (number_of p) → filter_map (in_file old.file) fresh ≡ segments old.file
      exactly are = let sealed : sealed_by done.came.done.more ≡ segments old.file = subst (λ (n : ℕ). sealed_by done.came.done.more ≡ segments n) number are in
          picked ∙ (ap (filter_map (in_file old.file)) added ∙ (picked_all old.file (journal_seen (entries_at done.came.done.more)) (subst (Mine old.file) (sym sealed) (mine old.file)) ∙ sealed))

      further : FrontHolds over.fixed.header (journal_seen (seen q)) (number_of p) done.came.covered new.outcome.whole (new.outcome.whole && done.came.ended)
          → FrontHolds before.header (told_entries (state_of before) ++ fresh) old.file done.came.covered new.outcome.whole (new.outcome.whole && done.came.ended)
      further f = subst (λ x. FrontHolds x (told_entries (state_of before) ++ fresh) old.file done.came.covered new.outcome.whole (new.outcome.whole && done.came.ended)) header
          (subst (λ (n : ℕ). FrontHolds over.fixed.header (told_entries (state_of before) ++ fresh) n done.came.covered new.outcome.whole (new.outcome.whole && done.came.ended)) number (record {
            front = f.front;
            begins = prefix_trans f.front (journal_seen (seen q)) (told_entries (state_of before) ++ fresh) f.begins seen_on;
            holds = f.holds;
          }))
