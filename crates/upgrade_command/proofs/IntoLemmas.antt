-- What a second disk is left with, from the making of the new archive on.
use Rattle.std.proofs.Common.{◌≡◌, ◌≤◌, ◌<◌, inr, refl, sym, ap, subst, ◌∙◌, ℕ, List, Option, Some}
use Rattle.std.specs.Prelude.{is_some, option_map}
use Rattle.log_seams.specs.Disk.{DiskState, IsLawful, LeavesOnly}
use Rattle.log_seams.specs.declared.disk.Disk.{Ghosts as DiskGhosts}
use Rattle.logtype_text.specs.Laws.{OneListOfParts}
use Rattle.record_format.specs.declared.header.Header.{Header}
use Rattle.disk_journal.specs.Created.{MakesEmpty}
use Rattle.disk_journal.specs.Journal.{state_of}
use Rattle.disk_journal.specs.declared.journal.Journal.{Journal}
use Rattle.ingest_meaning.specs.declared.refusal.RegisterRefusal.{RegisterRefusal}
use Rattle.archive_open.specs.Shown.{Opens, Shown}
use Rattle.archive_text.specs.State.{StoredState}
use Rattle.archive_text.specs.declared.cause.TextCause.{TextCause}
use Rattle.archive_jobs.specs.Jobs.{AreJobsOf}
use Rattle.ingest_workers.specs.declared.job.Job.{Job}
use Rattle.name_records.specs.Left.{HasGoneOn}
use Rattle.name_records.specs.Named.{AreNamed, names_of}
use Rattle.command_refusals.specs.GoesOn.{DiskGoesOn}
use Rattle.command_refusals.specs.Outcome.{upgrade_from_register}
use Rattle.command_refusals.proofs.GoingLemmas.{DiskGoesOn-joined}
use Rattle.command_answers.specs.Upgrading.{header_for}
use Rattle.upgrade_command.specs.Files.{came_by, stop_by}
use Rattle.upgrade_command.specs.Filling.{FillsNamed, IsNewJournal}
use Rattle.upgrade_command.specs.Taking.{NamesFirst, TakesNone, TakesTexts}
use Rattle.upgrade_command.proofs.FillLemmas.{disk_goes, names_first}
use Rattle.upgrade_command.proofs.TakesLemmas.{takes_texts}

module _ {E : Type 0} {e : DiskGhosts E} (lawful : (x : E) → IsLawful (e.state x)) (a : Shown) (old : DiskState) (opens : Opens old.seen a) (header : Header) (header_is : header ≡ header_for a.header) (second created : E) (j after : Journal E e)
    (begun : j.disk.now ≡ created) (headed : j.header ≡ header) (made : MakesEmpty header (e.state second) (e.state created)) (tells : is_some (e.state created).seen ≡ is_some (e.state second).seen) (later : (e.state second).clock ≤ (e.state created).clock)
    (moments : LeavesOnly (e.state second) (e.state created) (λ c. Unit {0})) (steady : (e.state created).faults ≡ (e.state second).faults) (new : IsNewJournal (state_of j)) (goes : HasGoneOn (state_of j) (state_of after)) where
  head : j.header ≡ header_for a.header
  head = headed ∙ header_is

  same : (state_of j).disk ≡ e.state created
  same = ap e.state begun

  steady_now : (state_of j).disk.faults ≡ (e.state second).faults
  steady_now = ap (λ (d : DiskState). d.faults) same ∙ steady

  made_now : MakesEmpty j.header (e.state second) (state_of j).disk
  made_now = subst (λ (d : DiskState). MakesEmpty j.header (e.state second) d) (sym same) (subst (λ (h : Header). MakesEmpty h (e.state second) (e.state created)) (sym headed) made)

  tells_now : is_some (state_of j).disk.seen ≡ is_some (e.state second).seen
  tells_now = ap (λ (d : DiskState). is_some d.seen) same ∙ tells

  later_now : (e.state second).clock ≤ (state_of j).disk.clock
  later_now = subst (λ (d : DiskState). (e.state second).clock ≤ d.clock) (sym same) later

  on : DiskGoesOn (state_of j).disk (state_of after).disk
  on = disk_goes (state_of j) (state_of after) goes

  -- the disk goes on
  pub into_goes : (e.state second).faults ≤ (e.state created).faults → DiskGoesOn (e.state second) (e.state after.disk.now)
  into_goes counts =
      DiskGoesOn-joined (e.state second) (e.state created) (e.state after.disk.now) (lawful after.disk.now) (record { counts = counts; tells = tells; moments = moments })
      (subst (λ (d : DiskState). DiskGoesOn d (state_of after).disk) same on)

  -- all files were named and taken in
  pub into_texts : {D : Type 0} → OneListOfParts → (rows : ℕ) → 0 < rows → (last : ℕ) (cause : Option TextCause) (js js' : List (Job (StoredState D))) → AreJobsOf old.seen a.files js → FillsNamed rows (names_of a.files) cause j after js js'
      → TakesTexts rows (option_map (stop_by last) cause) (header_for a.header) (came_by a.files js js') old (e.state second) (e.state after.disk.now)
  into_texts one rows some_rows last cause js js' jobs fills =
      subst (λ (h : Header). TakesTexts rows (option_map (stop_by last) cause) h (came_by a.files js js') old (e.state second) (e.state after.disk.now)) head
      (takes_texts lawful one rows some_rows a old (e.state second) (e.state after.disk.now) opens last cause j after js js' jobs new (ap (λ (h : Header). h.version) head) fills steady_now refl made_now tells_now later_now (lawful j.disk.now) on)

  -- not all were named
  pub into_names : (why : RegisterRefusal) (count : ℕ) → AreNamed 0 (names_of a.files) count (Some why) (state_of j) (state_of after) → TakesNone (header_for a.header) old (e.state second) (e.state after.disk.now) (upgrade_from_register why)
  into_names why count named =
      inr (subst (λ (h : Header). NamesFirst h old (e.state second) (e.state after.disk.now) (upgrade_from_register why)) head
      (names_first a old (e.state second) opens j after new made_now tells_now later_now steady_now (lawful j.disk.now) why count named))
