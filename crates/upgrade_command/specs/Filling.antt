-- What a journal of names is left with, once the texts of the files were taken in.
use Rattle.std.specs.Prelude.{◌≡◌, ◌⊎◌, ℕ, is_some, List, [], Option, None, Some}
use Rattle.log_seams.specs.declared.disk.Disk.{Ghosts as DiskGhosts}
use Rattle.disk_journal.specs.Journal.{state_of}
use Rattle.disk_journal.specs.State.{JournalState}
use Rattle.disk_journal.specs.declared.journal.Journal.{Journal}
use Rattle.disk_seal.specs.Opening.{MayOpen}
use Rattle.disk_seal.specs.Registered.{HoldsNames}
use Rattle.disk_seal.specs.Told.{IfTold}
use Rattle.ingest_meaning.specs.declared.refusal.RegisterRefusal.{RegisterRefusal}
use Rattle.archive_meaning.specs.Spelled.{types_of}
use Rattle.ingest_meaning.specs.WordsIn.{words_of}
use Rattle.ingest_workers.specs.InTurn.{AreFullInTurn}
use Rattle.ingest_workers.specs.Ingested.{HasIngested, HaveCauses, plan_of, told_entries}
use Rattle.ingest_workers.specs.OpenWorker.{KnowsEach}
use Rattle.ingest_workers.specs.declared.job.Job.{Job}
use Rattle.archive_text.specs.State.{StoredState}
use Rattle.archive_text.specs.declared.cause.TextCause.{TextCause}
use Rattle.archive_jobs.specs.Lent.{LeavesCause}
use Rattle.name_records.specs.Named.{AreNamed}
use Rattle.file_outcomes.specs.Jobs.{AreNotBegun}
use Rattle.upgrade_command.specs.Files.{text_faults, text_left, text_name}

-- the journal was just made: it has no entries, and names can be registered
pub record IsNewJournal (j : JournalState) : Type 0 where
  pub opens : MayOpen j
  pub holds : HoldsNames 0 j
  pub entries : told_entries j ≡ []

-- where the journal is told it has no texts
abbrev pub HasNoTexts : JournalState → Type 0
HasNoTexts j = IfTold (is_some j.disk.seen) ((types_of (told_entries j) ≡ []) × (words_of (told_entries j) ≡ []))

module _ {D E : Type 0} {e : DiskGhosts E} where
  -- The files were taken in over the journal, in segments of at most so many rows, each with its cause. A text of which a read
  -- has failed has left a cause.
  pub record AreFilled (rows : ℕ) (cause : Option TextCause) (before after : Journal E e) (js js' : List (Job (StoredState D)))
      : Type 0 where
    pub ingested : HasIngested text_left (plan_of rows before) js js' before after
    pub causes : HaveCauses text_left text_name text_faults (plan_of rows before) before after js js'
    pub in_turn : AreFullInTurn text_left (plan_of rows before) before js js'
    pub known : KnowsEach (λ c t. LeavesCause c (text_faults t)) cause js js'

  -- so they were, or there was no memory to begin
  abbrev pub DidFill : ℕ → Option TextCause → Journal E e → Journal E e → List (Job (StoredState D)) → List (Job (StoredState D))
      → Type 0
  DidFill rows cause before after js js' = AreFilled rows cause before after js js' ⊎ AreNotBegun before after js js'

  -- their names were registered before that
  pub record FillsNamed (rows : ℕ) (names : List (List ℕ)) (cause : Option TextCause) (before after : Journal E e)
      (js js' : List (Job (StoredState D))) : Type 0 where
    pub mid : Journal E e
    pub count : ℕ
    pub named : AreNamed 0 names count None (state_of before) (state_of mid)
    pub did : DidFill rows cause mid after js js'

-- not all names were registered, for this
abbrev pub NamesOnly : {E : Type 0} {e : DiskGhosts E} → List (List ℕ) → Journal E e → Journal E e → RegisterRefusal → Type 0
NamesOnly names before after why = (count : ℕ) × AreNamed 0 names count (Some why) (state_of before) (state_of after)
