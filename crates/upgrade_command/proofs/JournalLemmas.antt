-- The journal in which files are named and taken in.
use Rattle.std.proofs.Common.{◌≡◌, ◌⊎◌, inl, inr, refl, sym, subst, ◌∙◌, ℕ, true, List, [], ◌++◌, Option, Some, None, arith, append-nil}
use Rattle.std.specs.Prelude.{All, IfSome, is_some}
use Rattle.std.proofs.lemmas.List.Elements.{All-nil, All-weaker}
use Rattle.log_seams.specs.Disk.{IsLawful}
use Rattle.log_seams.specs.declared.disk.Disk.{Ghosts as DiskGhosts}
use Rattle.log_seams.proofs.MomentLemmas.{started}
use Rattle.disk_journal.specs.Journal.{state_of}
use Rattle.disk_journal.specs.declared.journal.Journal.{Journal}
use Rattle.archive_meaning.specs.Held.{Held, nothing_held}
use Rattle.archive_meaning.specs.Legal.{Run}
use Rattle.archive_meaning.specs.Stands.{IsLegal, StandsFor}
use Rattle.archive_meaning.specs.declared.entry.JournalEntry.{JournalEntry}
use Rattle.archive_meaning.specs.declared.entry.JournalEntry.TheVariants.{Files, Segment, Types, Words}
use Rattle.archive_meaning.proofs.RunLemmas.{one_held, runs_split}
use Rattle.archive_meaning.proofs.UniqueLemmas.{legal_front}
use Rattle.archive_text.specs.State.{StoredState}
use Rattle.archive_text.specs.declared.cause.TextCause.{TextCause}
use Rattle.disk_seal.specs.Opening.{MayOpen}
use Rattle.ingest_workers.specs.Ingested.{IsAsItWas, IsOfJobs, told_entries}
use Rattle.ingest_workers.specs.declared.job.Job.{Job}
use Rattle.name_records.specs.Left.{HasGoneOn, LeavesEntries, StandsForOr}
use Rattle.name_records.specs.Named.{AreNamesOf, HasNames}
use Rattle.name_records.proofs.LeftLemmas.{by_told, either_left, goes_nowhere, goes_then, images_stand, of_told, store_goes, store_left}
use Rattle.name_records.proofs.NamedLemmas.{left_behind}
use Rattle.command_answers.specs.Ingested.{LeavesJournal}
use Rattle.file_outcomes.proofs.PieceLemmas.{IsNewFrom, grown}
use Rattle.upgrade_command.specs.Filling.{DidFill, FillsNamed, IsNewJournal}
use Rattle.upgrade_command.proofs.RecordLemmas.{all_named, entries_named, names_held}

-- ---- what was added behind the names

module _ {D E : Type 0} {e : DiskGhosts E} (lawful : (x : E) → IsLawful (e.state x)) (rows : ℕ) (cause : Option TextCause) (mid after : Journal E e) (js js' : List (Job (StoredState D))) where
  abbrev pub added_by : DidFill rows cause mid after js js' → List JournalEntry
  added_by (inl filled) = filled.ingested.stored.fresh
  added_by (inr none) = []

  goes_as : IsAsItWas mid after → HasGoneOn (state_of mid) (state_of after)
  goes_as (inl same) = subst (λ (x : Journal E e). HasGoneOn (state_of mid) (state_of x)) (sym same) (goes_nowhere (state_of mid) (lawful mid.disk.now))
  goes_as (inr stayed) = store_goes mid after stayed.0 stayed.1.left_by

  pub fill_goes : DidFill rows cause mid after js js' → HasGoneOn (state_of mid) (state_of after)
  fill_goes (inl filled) = store_goes mid after filled.ingested.store filled.ingested.stored.left_by
  fill_goes (inr none) = goes_as none.journal

  module _ (may : MayOpen (state_of mid)) (told : is_some (state_of mid).disk.seen ≡ true) where
    left_as : IsAsItWas mid after → LeavesEntries mid.header (told_entries (state_of mid)) (told_entries (state_of mid) ++ []) (state_of mid).disk (state_of after).disk
    left_as (inl same) =
        subst (λ (x : Journal E e). LeavesEntries mid.header (told_entries (state_of mid)) (told_entries (state_of mid) ++ []) (state_of mid).disk (state_of x).disk) (sym same)
        (subst (λ es. LeavesEntries mid.header (told_entries (state_of mid)) es (state_of mid).disk (state_of mid).disk) (sym (append-nil (told_entries (state_of mid))))
        (either_left mid.header (told_entries (state_of mid)) [] (state_of mid).disk (state_of mid).disk (lawful mid.disk.now) (omega arith) (λ steady. refl)
        (started (state_of mid).disk (StandsForOr mid.header (told_entries (state_of mid)) []) (lawful mid.disk.now) (λ c image. inl (of_told (is_some (state_of mid).disk.seen) told (images_stand (state_of mid) may c image))))))
    left_as (inr stayed) = store_left mid after (lawful after.disk.now) stayed.0 stayed.1.left_by told [] (stayed.1.entries ∙ sym (append-nil (told_entries (state_of mid))))

    pub fill_left : (did : DidFill rows cause mid after js js') → LeavesEntries mid.header (told_entries (state_of mid)) (told_entries (state_of mid) ++ added_by did) (state_of mid).disk (state_of after).disk
    fill_left (inl filled) = store_left mid after (lawful after.disk.now) filled.ingested.store filled.ingested.stored.left_by told filled.ingested.stored.fresh filled.ingested.stored.grown
    fill_left (inr none) = left_as none.journal

-- entries of jobs are texts and segments
new_entry : {S : Type 0} (js : List (Job S)) (e : JournalEntry) → IsOfJobs js e → IsNewFrom 0 e
new_entry js (Files names) is = is
new_entry js (Types number texts) is = tt
new_entry js (Words number texts) is = tt
new_entry js (Segment s) is = omega arith

-- ---- all of the journal, from the new one on

module _ {D E : Type 0} {e : DiskGhosts E} (lawful : (x : E) → IsLawful (e.state x)) (rows : ℕ) (names : List (List ℕ)) (cause : Option TextCause) (j after : Journal E e) (js js' : List (Job (StoredState D)))
    (new : IsNewJournal (state_of j)) (fills : FillsNamed rows names cause j after js js') where
  abbrev pub mid : Journal E e
  mid = fills.mid

  abbrev pub added : List JournalEntry
  added = added_by lawful rows cause fills.mid after js js' fills.did

  pub has_names : HasNames 0 names fills.named.naming (state_of j) (state_of fills.mid)
  has_names = all_named names fills.count None (state_of j) (state_of fills.mid) fills.named refl

  pub all_goes : HasGoneOn (state_of j) (state_of after)
  all_goes = goes_then (state_of j) (state_of fills.mid) (state_of after) (lawful after.disk.now) fills.named.goes (fill_goes lawful rows cause fills.mid after js js' fills.did)

  module _ (told : is_some (state_of j).disk.seen ≡ true) where
    pub told_mid : is_some (state_of fills.mid).disk.seen ≡ true
    told_mid = has_names.tells ∙ told

    pub entries_are : told_entries (state_of fills.mid) ≡ fills.named.naming
    entries_are = entries_named names fills.named.naming (state_of j) (state_of fills.mid) has_names new.entries told_mid

    -- what is left of the disk
    pub all_leaves : LeavesJournal fills.mid.header [] (told_entries (state_of fills.mid) ++ added) (state_of j).disk (state_of after).disk
    all_leaves =
        subst (λ h. LeavesJournal h [] (told_entries (state_of fills.mid) ++ added) (state_of j).disk (state_of after).disk) (sym has_names.header)
        (subst (λ es. LeavesJournal j.header [] (es ++ added) (state_of j).disk (state_of after).disk) (sym entries_are) (leaves_as left))
      where
        behind : LeavesEntries j.header (told_entries (state_of j)) (told_entries (state_of j) ++ (fills.named.naming ++ added)) (state_of j).disk (state_of after).disk
        behind = of_told (is_some (state_of j).disk.seen) told
            (left_behind 0 names fills.named.naming (state_of j) (state_of fills.mid) has_names (state_of after) added (fill_goes lawful rows cause fills.mid after js js' fills.did)
            (by_told (is_some (state_of fills.mid).disk.seen) (λ some. fill_left lawful rows cause fills.mid after js js' has_names.opens some fills.did)))

        left : LeavesEntries j.header [] (fills.named.naming ++ added) (state_of j).disk (state_of after).disk
        left = subst (λ es. LeavesEntries j.header es (es ++ (fills.named.naming ++ added)) (state_of j).disk (state_of after).disk) new.entries behind

        leaves_as : LeavesEntries j.header [] (fills.named.naming ++ added) (state_of j).disk (state_of after).disk → LeavesJournal j.header [] (fills.named.naming ++ added) (state_of j).disk (state_of after).disk
        leaves_as l = record { tail = l.tail; one = l.one; none = l.none; reads = l.reads; now = l.now; since = l.since }

    -- it is legal
    pub legal_all : IsLegal fills.mid.header (told_entries (state_of fills.mid) ++ added)
    legal_all = go (state_of after).disk.seen (all_goes.tells ∙ told) all_leaves.reads
      where
        go : (seen : Option (List ℕ)) → is_some seen ≡ true → IfSome seen (λ bytes. StandsFor bytes fills.mid.header (told_entries (state_of fills.mid) ++ added) ⊎ StandsFor bytes fills.mid.header ((told_entries (state_of fills.mid) ++ added) ++ all_leaves.tail))
            → IsLegal fills.mid.header (told_entries (state_of fills.mid) ++ added)
        go None some reads = absurd (cc (some))
        go (Some bytes) some (inl stands) = stands.legal
        go (Some bytes) some (inr stands) = legal_front fills.mid.header (told_entries (state_of fills.mid) ++ added) all_leaves.tail stands.legal

    pub legal_names : IsLegal fills.mid.header (told_entries (state_of fills.mid))
    legal_names = legal_front fills.mid.header (told_entries (state_of fills.mid)) added legal_all

    pub held_are : (legal_names.held.names ≡ names) × (legal_names.held.pieces ≡ [])
    held_are = names_held fills.mid.header (told_entries (state_of fills.mid)) names (subst (λ es. AreNamesOf es names) (sym entries_are) has_names.are) legal_names

    pub run_added : Run fills.mid.header legal_names.held added legal_all.held
    run_added =
        let split = runs_split fills.mid.header nothing_held legal_all.held (told_entries (state_of fills.mid)) added legal_all.run in
        let same : split.0 ≡ legal_names.held = one_held fills.mid.header nothing_held split.0 legal_names.held (told_entries (state_of fills.mid)) split.1 legal_names.run in
        subst (λ (x : Held). Run fills.mid.header x added legal_all.held) same split.2

    -- the files are those that were named
    pub names_all : legal_all.held.names ≡ names
    names_all = (grown fills.mid.header 0 legal_names.held legal_all.held added run_added (all_new fills.did)).names ∙ held_are.0
      where
        all_new : (did : DidFill rows cause fills.mid after js js') → All (IsNewFrom 0) (added_by lawful rows cause fills.mid after js js' did)
        all_new (inl filled) = All-weaker (IsOfJobs js) (IsNewFrom 0) (new_entry js) filled.ingested.stored.fresh filled.ingested.stored.others
        all_new (inr none) = All-nil (IsNewFrom 0)
