-- A journal that a store left has grown by events.
use Rattle.std.proofs.Common.{◌≡◌, ◌⊎◌, inl, inr, ◌∙◌, ℕ, List, ◌++◌, subst, Option, None, Some, is_some, true}
use Rattle.std.specs.Prelude.{IfSome}
use Rattle.log_seams.specs.Disk.{DiskState}
use Rattle.record_format.specs.declared.header.Header.{Header}
use Rattle.log_seams.specs.declared.disk.Disk.{Ghosts as DiskGhosts}
use Rattle.disk_journal.specs.declared.journal.Journal.{Journal}
use Rattle.disk_journal.specs.Journal.{state_of}
use Rattle.archive_meaning.specs.declared.entry.JournalEntry.{JournalEntry}
use Rattle.archive_meaning.specs.Stands.{IsLegal, StandsFor}
use Rattle.archive_meaning.proofs.UniqueLemmas.{legal_front}
use Rattle.archive_machine.specs.Laws.{GrowsByEvents}
use Rattle.archive_machine.proofs.LeadLemmas.{legal_growth}
use Rattle.disk_seal.specs.Told.{IfTold}
use Rattle.disk_seal.specs.View.{StoreView, StoreState, state_by, tells, journal_of}
use Rattle.disk_seal.proofs.ToldLemmas.{told_map}
use Rattle.ingest_workers.specs.declared.job.Job.{Job}
use Rattle.ingest_workers.specs.Ingested.{IsLeftBy, told_entries}
use Rattle.name_records.specs.Left.{LeavesEntries}
use Rattle.name_records.proofs.LeftLemmas.{by_told, of_told}
use Rattle.archive_merge.specs.Behind.{SecondView}
use Rattle.archive_merge.specs.declared.file.Merged.{Merged}
use Rattle.archive_merge.specs.declared.refusal.MergeRefusal.{MergeRefusal}
use Rattle.journal_events.specs.ByEvents.{AddedByEvents, IngestsByEvents, MergesByEvents}

-- the entries that are left make a legal archive
legal_left : (h : Header) (before es : List JournalEntry) (old new : DiskState) → is_some new.seen ≡ true
    → LeavesEntries h before es old new → IsLegal h es
legal_left h before es old new told left = go new.seen told left.reads
  where
    go : (seen : Option (List ℕ)) → is_some seen ≡ true
        → IfSome seen (λ bytes. StandsFor bytes h es ⊎ StandsFor bytes h (es ++ left.tail)) → IsLegal h es
    go None some reads = absurd (cc (some))
    go (Some bytes) some (inl stands) = stands.legal
    go (Some bytes) some (inr stands) = legal_front h es left.tail stands.legal

module _ {D : Type 0} {d : DiskGhosts D} where
  pub left_by_events : (store : StoreView D) (before after : Journal D d) (fresh : List JournalEntry)
      → IsLeftBy store before after → journal_of (state_by d.state store) ≡ told_entries (state_of before) ++ fresh
      → AddedByEvents before fresh
  left_by_events store before after fresh left grown =
      let s : StoreState = state_by d.state store in
      let here : IfTold (tells s) (GrowsByEvents before.header (told_entries (state_of before)) fresh) =
      told_map (tells s) (λ (legal : IsLegal store.header (journal_of s ++ left.kept.under)).
      legal_growth before.header (told_entries (state_of before)) fresh
      (subst (λ h. IsLegal h (told_entries (state_of before) ++ fresh)) left.header
      (subst (IsLegal store.header) grown (legal_front store.header (journal_of s) left.kept.under legal)))) left.kept.legal in
      subst (λ (x : D). IfTold (is_some (d.state x).seen) (GrowsByEvents before.header (told_entries (state_of before)) fresh))
      left.opened here

  pub ingests_by_events : {S : Type 0} (left : S → Option (List ℕ)) (rows : ℕ) (js js' : List (Job S))
      (before after : Journal D d) → IngestsByEvents left rows js js' before after
  ingests_by_events left rows js js' before after i =
      left_by_events i.store before after i.stored.fresh i.stored.left_by i.stored.grown

  pub merges_by_events : (second : SecondView) (first : ℕ) (names : List (List ℕ)) (files : List Merged) (refusal : Option MergeRefusal)
      (before after : Journal D d) → MergesByEvents second first names files refusal before after
  merges_by_events second first names files refusal before after m =
      by_told (is_some (state_of before).disk.seen) (λ told.
      legal_growth before.header (told_entries (state_of before)) (m.naming ++ m.fresh)
      (legal_left before.header (told_entries (state_of before)) (told_entries (state_of before) ++ (m.naming ++ m.fresh))
      (state_of before).disk (state_of after).disk (m.goes.tells ∙ told) (of_told (is_some (state_of before).disk.seen) told m.left)))
