-- On an empty disk, where nothing fails and no limit is met, `bench` sums up all messages, or memory ends.
use Rattle.std.proofs.Common.{◌≡◌, ◌⊎◌, inl, inr, ⊎_elim, refl, ap, ap₂, subst, ◌∙◌, ℕ, ◌*◌, ◌≤◌, ◌==◌, ◌||◌, Bool, true, false, if◌then◌else◌, List, [], ◌∷◌, ◌++◌, Option, None, Some, Result, Ok, Err, option_map, length, map, arith}
use Rattle.std.specs.Prelude.{All, IfSome, is_ok, is_some}
use Rattle.std.specs.List.{sum_by}
use Rattle.std.proofs.lemmas.List.Elements.{All-cons, All-head, All-nil, All-tail}
use Rattle.log_seams.specs.Disk.{DiskState}
use Rattle.log_seams.specs.Outside.{CountsOf, Rose}
use Rattle.sink_pieces.specs.Output.{Grew}
use Rattle.record_format.specs.declared.header.Header.{Header}
use Rattle.archive_open.specs.Shown.{RefusedAt}
use Rattle.archive_meaning.specs.Stands.{StandsFor}
use Rattle.archive_meaning.specs.declared.entry.JournalEntry.{JournalEntry}
use Rattle.disk_journal.specs.Created.{CreateLeaves}
use Rattle.disk_journal.specs.declared.refusals.CreateRefusal.{CreateRefusal}
use Rattle.disk_journal.specs.declared.refusals.CreateRefusal.TheVariants.{DiskFault as CreateDiskFault, NotEmpty as CreateNotEmpty}
use Rattle.generated_logs.specs.Logs.{content_of as generated}
use Rattle.command_refusals.specs.Outside.{Outside}
use Rattle.command_answers.specs.Answers.{AnswersBench}
use Rattle.command_answers.specs.Benched.{EndsBench, HasLogsCause, IsSpared, IsTakenWhole, MayRefuseLog, MeetsNoLimit, MetNoLimit, PrintsSummary, RefusesMaking, SumsUp, SumsUpAll, TakesLogs, TellsParts, TellsSummary, as_made, at_moment, default_header, made_bytes, generated_names, with_logs, segment_rows}
use Rattle.command_refusals.specs.Ending.{EndsWith, RoseIn}
use Rattle.command_answers.specs.Ingested.{FileOutcome, CameOfFile, HasFileCause, StandsForEither, TakesIn}
use Rattle.command_refusals.specs.Outcome.{answer_of, of_add, of_read}
use Rattle.command_answers.specs.Taken.{file_status, gravest, has}
use Rattle.command_refusals.specs.declared.outcome.ReadRefusal.{ReadRefusal}
use Rattle.command_refusals.specs.declared.outcome.ReadRefusal.TheVariants.{Damaged as ReadDamaged, DiskFault as ReadDiskFault, SinkFault as ReadSinkFault, OutOfMemory as ReadOutOfMemory}
use Rattle.command_refusals.specs.declared.outcome.AddRefusal.{AddRefusal}
use Rattle.command_refusals.specs.declared.outcome.PartCause.{PartCause}

-- ---- logs that are not whole

-- nothing was refused, or memory ended
abbrev IsFree : Option PartCause → Type 0
IsFree r = (r ≡ None) ⊎ (r ≡ Some PartCause.OutOfMemory)

abbrev IsFreeOf : FileOutcome → Type 0
IsFreeOf c = IsFree c.refusal

one_free : (rows : ℕ) (all : List FileOutcome) (seen : Outside) (old new : DiskState) (c : FileOutcome) (r : Option PartCause) → HasFileCause rows all seen old new c r → MayRefuseLog r → MeetsNoLimit r → ¬ Rose old.faults new.faults → IsFree r
one_free rows all seen old new c None cause may met steady = inl refl
one_free rows all seen old new c (Some PartCause.OutOfMemory) cause may met steady = inr refl
one_free rows all seen old new c (Some PartCause.DiskFault) cause may met steady = absurd (steady cause)
one_free rows all seen old new c (Some (PartCause.Full book count)) cause may met steady = absurd met
one_free rows all seen old new c (Some (PartCause.ArchiveFull end need)) cause may met steady = absurd met
one_free rows all seen old new c (Some PartCause.OpenFault) cause may met steady = absurd may
one_free rows all seen old new c (Some PartCause.ReadFault) cause may met steady = absurd may
one_free rows all seen old new c (Some (PartCause.LineTooLong line)) cause may met steady = absurd may
one_free rows all seen old new c (Some PartCause.TooManyLines) cause may met steady = absurd may

all_free : (rows : ℕ) (all : List FileOutcome) (seen : Outside) (old new : DiskState) (came : List FileOutcome) → All (CameOfFile rows all seen old new) came → All IsSpared came → All (λ (c : FileOutcome). MeetsNoLimit c.refusal) came → ¬ Rose old.faults new.faults → All IsFreeOf came
all_free rows all seen old new [] each spared met steady = All-nil IsFreeOf
all_free rows all seen old new (c ∷ came) each spared met steady =
    let one : CameOfFile rows all seen old new c = All-head (CameOfFile rows all seen old new) c came each in
    All-cons IsFreeOf c came (one_free rows all seen old new c c.refusal one.cause (All-head IsSpared c came spared) (All-head (λ (x : FileOutcome). MeetsNoLimit x.refusal) c came met) steady)
    (all_free rows all seen old new came (All-tail (CameOfFile rows all seen old new) c came each) (All-tail IsSpared c came spared) (All-tail (λ (x : FileOutcome). MeetsNoLimit x.refusal) c came met) steady)

abbrev statuses : List FileOutcome → List ℕ
statuses came = map (λ (c : FileOutcome). file_status c.refusal) came

not_five : (r : Option PartCause) → IsFree r → (file_status r == 5) ≡ false
not_five r (inl none) = ap (λ (x : Option PartCause). file_status x == 5) none
not_five r (inr memory) = ap (λ (x : Option PartCause). file_status x == 5) memory

none_five : (came : List FileOutcome) → All IsFreeOf came → has 5 (statuses came) ≡ false
none_five [] free = refl
none_five (c ∷ came) free = ap₂ (λ (a b : Bool). a || b) (not_five c.refusal (All-head IsFreeOf c came free)) (none_five came (All-tail IsFreeOf c came free))

some_nine : (came : List FileOutcome) → All IsFreeOf came → (has 9 (statuses came) ≡ true) ⊎ All IsTakenWhole came
some_nine [] free = inr (All-nil IsTakenWhole)
some_nine (c ∷ came) free = one (All-head IsFreeOf c came free) (some_nine came (All-tail IsFreeOf c came free))
  where
    one : IsFree c.refusal → (has 9 (statuses came) ≡ true) ⊎ All IsTakenWhole came → (has 9 (statuses (c ∷ came)) ≡ true) ⊎ All IsTakenWhole (c ∷ came)
    one (inr memory) rest = inl (ap (λ (x : Option PartCause). file_status x == 9 || has 9 (statuses came)) memory)
    one (inl none) (inl nine) = inl (ap₂ (λ (x : Option PartCause) (b : Bool). file_status x == 9 || b) none nine)
    one (inl none) (inr whole) = inr (All-cons IsTakenWhole c came none whole)

nine_of : (five nine : Bool) (rest : ℕ) → five ≡ false → nine ≡ true → (if five then 5 else (if nine then 9 else rest)) ≡ 9
nine_of true nine rest none is = absurd (cc (none))
nine_of false false rest none is = absurd (cc (is))
nine_of false true rest none is = refl

parts_free : (came : List FileOutcome) → All IsFreeOf came → ¬ All IsTakenWhole came → gravest (statuses came) ≡ 9
parts_free came free part = nine_of (has 5 (statuses came)) (has 9 (statuses came)) _ (none_five came free) (⊎_elim (λ nine. nine) (λ whole. absurd (part whole)) (some_nine came free))

-- ---- by how it ended

making_complete : (lines : ℕ) (seen : Outside) (old new : DiskState) (status : ℕ) (refusal : CreateRefusal) → CreateLeaves (Err refusal) default_header old new → old.seen ≡ Some [] → ¬ Rose old.faults new.faults → SumsUpAll lines seen new status
making_complete lines seen old new status (CreateNotEmpty len) leaves none steady =
    let long : len ≡ 0 = subst (λ (o : Option (List ℕ)). IfSome o (λ bytes. len ≡ length bytes)) none leaves.long in
    absurd (omega (arith, leaves.some, long))
making_complete lines seen old new status CreateDiskFault leaves none steady = absurd (steady leaves)

logs_complete : (lines : ℕ) (seen : Outside) (old new : DiskState) (status : ℕ) (refusal : AddRefusal) → EndsWith seen [] status (Some (of_add refusal)) → HasLogsCause old new refusal → old.seen ≡ Some [] → ¬ Rose old.faults new.faults → SumsUpAll lines seen new status
logs_complete lines seen old new status AddRefusal.OutOfMemory ends cause none steady = inr ends.status_is
logs_complete lines seen old new status AddRefusal.DiskFault ends cause none steady = absurd (steady cause)
logs_complete lines seen old new status (AddRefusal.Damaged at) ends cause none steady = absurd (subst (λ (o : Option (List ℕ)). IfSome o (λ _. ⊥)) none cause)
logs_complete lines seen old new status (AddRefusal.TooManyFiles held more) ends cause none steady = absurd (subst (λ (o : Option (List ℕ)). IfSome o (λ _. ⊥)) none cause)
logs_complete lines seen old new status (AddRefusal.ArchiveFull end need) ends cause none steady = absurd (subst (λ (o : Option (List ℕ)). IfSome o (λ _. ⊥)) none cause)
logs_complete lines seen old new status (AddRefusal.NameTooLong index) ends cause none steady = absurd cause

module _ (lines : ℕ) (seen : Outside) (old new : DiskState) (status messages : ℕ) (steady : ¬ Rose old.faults new.faults) (sent : ¬ RoseIn seen.out_faults) (same : messages ≡ 4 * lines) where
  sums_complete : (answer : Result Unit ReadRefusal) → EndsWith seen [] status (option_map of_read (answer_of answer)) → PrintsSummary (is_ok answer) messages new.seen seen.out.0 seen.out.1 → (answer ≡ Err ReadDiskFault → Rose old.faults new.faults)
      → CountsOf ReadSinkFault seen.out_faults.0 seen.out_faults.1 answer → ((at : ℕ) → answer ≡ Err (ReadDamaged at) → ⊥) → SumsUpAll lines seen new status
  sums_complete (Ok tt) ends prints disk sink damaged = inl (ends.status_is, subst (λ (n : ℕ). TellsSummary (Grew seen.out.0 seen.out.1) n new.seen) same prints)
  sums_complete (Err ReadDiskFault) ends prints disk sink damaged = absurd (steady (disk refl))
  sums_complete (Err (ReadDamaged at)) ends prints disk sink damaged = absurd (damaged at refl)
  sums_complete (Err ReadSinkFault) ends prints disk sink damaged = absurd (sent (sink.failed refl))
  sums_complete (Err ReadOutOfMemory) ends prints disk sink damaged = inr ends.status_is

-- bytes that stand for a journal, or for it and one record more, stand for some
stands : (h : Header) (es tail : List JournalEntry) (at : ℕ) (now : Option (List ℕ)) → is_some now ≡ true → IfSome now (StandsForEither h es tail) → RefusedAt at now → ⊥
stands h es tail at None told reads refused = absurd (cc (told))
stands h es tail at (Some bytes) told (inl stood) refused = refused.none h es stood
stands h es tail at (Some bytes) told (inr stood) refused = refused.none h (es ++ tail) stood

module _ (number lines workers : ℕ) (seen : Outside) (old new : DiskState) (status : ℕ) (takes : TakesLogs number lines workers seen old new status) (told : is_some new.seen ≡ is_some old.seen) (none : old.seen ≡ Some []) where
  abbrev Leaves : DiskState → (bytes : List ℕ) → StandsFor bytes default_header [] → Type 0
  Leaves from bytes stood = TakesIn segment_rows default_header [] stood generated_names takes.came from new

  none_damaged : (at : ℕ) → RefusedAt at new.seen → ⊥
  none_damaged at damaged =
      let from = subst (λ (o : Option (List ℕ)). IfSome o (λ was. (was ≡ []) × ((t : ℕ) × ((old.clock ≤ t) × new.since t made_bytes) × ((bytes : List ℕ) × ((stood : StandsFor bytes default_header []) × Leaves (at_moment t old) bytes stood))))) none takes.disk in
      let leaves = from.1.2.1.1.leaves in
      stands default_header _ leaves.tail at new.seen (told ∙ ap is_some none) leaves.reads damaged

  logs_taken : ¬ Rose old.faults new.faults → ¬ RoseIn seen.out_faults → All (λ (c : FileOutcome). MeetsNoLimit c.refusal) takes.came → TellsParts takes.came seen status ⊎ SumsUp takes.came seen old new status → SumsUpAll lines seen new status
  logs_taken steady sent met (inl parts) =
      inr (parts.status_is ∙ parts_free takes.came (all_free segment_rows takes.came (with_logs (generated number lines) seen) (as_made old) new takes.came takes.each takes.spared met steady) parts.part)
  logs_taken steady sent met (inr sums) =
      let same : sum_by (λ (c : FileOutcome). c.messages) takes.came ≡ 4 * lines = subst (λ (o : Option (List ℕ)). IfSome o (λ _. sum_by (λ (c : FileOutcome). c.messages) takes.came ≡ 4 * lines)) none (takes.all sums.whole) in
      sums_complete lines seen old new status _ steady sent same sums.answer sums.ends sums.prints sums.disk sums.sink (λ at e. none_damaged at (sums.damaged at e))

complete : (number lines workers : ℕ) (seen : Outside) (old new : DiskState) (status : ℕ) → is_some new.seen ≡ is_some old.seen → (ends : EndsBench number lines workers seen old new status) → old.seen ≡ Some [] → ¬ Rose old.faults new.faults → ¬ RoseIn seen.out_faults → MetNoLimit ends
    → SumsUpAll lines seen new status
complete number lines workers seen old new status told (inl making) none steady sent met = making_complete lines seen old new status making.refusal making.leaves none steady
complete number lines workers seen old new status told (inr (inl refused)) none steady sent met = logs_complete lines seen old new status refused.refusal refused.ends refused.cause none steady
complete number lines workers seen old new status told (inr (inr takes)) none steady sent met = logs_taken number lines workers seen old new status takes told none steady sent met takes.told

pub bench_answers : (number lines workers : ℕ) (seen : Outside) (old new : DiskState) (status : ℕ) → is_some new.seen ≡ is_some old.seen → EndsBench number lines workers seen old new status → AnswersBench number lines workers seen old new status
bench_answers number lines workers seen old new status told ends = record { ends = ends; complete = complete number lines workers seen old new status told ends }

pub making_answers : (number lines workers : ℕ) (seen : Outside) (old new : DiskState) (status : ℕ) → RefusesMaking seen old new status → AnswersBench number lines workers seen old new status
making_answers number lines workers seen old new status making = record { ends = inl making; complete = λ none steady sent met. making_complete lines seen old new status making.refusal making.leaves none steady }
