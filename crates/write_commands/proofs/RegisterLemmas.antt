-- What the appending of the names of new files leaves of the disk.
use Rattle.std.proofs.Common.{◌≡◌, ◌⊎◌, inl, inr, refl, sym, ap, subst, ◌∙◌, ℕ, true, List, [], ◌∷◌, ◌++◌, length, Option, Some, None, arith}
use Rattle.std.specs.Prelude.{Err, IfSome, IsErrOf, Result, is_some}
use Rattle.dict_core.specs.Books.{BookState}
use Rattle.log_seams.specs.Disk.{IsLawful, LeavesOnly}
use Rattle.log_seams.specs.Outside.{CountsOf, Rose}
use Rattle.log_seams.proofs.MomentLemmas.{weaker}
use Rattle.record_format.specs.declared.header.Header.{Header}
use Rattle.disk_journal.specs.Place.{entries}
use Rattle.disk_journal.specs.State.{JournalState}
use Rattle.archive_meaning.specs.declared.entry.JournalEntry.{JournalEntry}
use Rattle.archive_meaning.specs.declared.entry.JournalEntry.TheVariants.{Files}
use Rattle.archive_meaning.specs.Stands.{IsLegal, StandsFor}
use Rattle.disk_seal.specs.Told.{IfTold}
use Rattle.ingest_meaning.specs.declared.refusal.RegisterRefusal.{RegisterRefusal}
use Rattle.ingest_workers.specs.Ingested.{told_entries}
use Rattle.command_answers.specs.Ingested.{FromArchive, StandsForEither, TakesNothing}
use Rattle.file_outcomes.specs.JournalLeft.{AddsNamesTo, StandsBetween}
use Rattle.file_outcomes.specs.Naming.{IsHeldBy}
use Rattle.name_records.specs.Left.{StandsForOr}
use Rattle.name_records.specs.Named.{HasNames}
use Rattle.file_outcomes.proofs.LeavesLemmas.{either_leaves, of_told, opened_as}
use Rattle.file_outcomes.proofs.StepsLemmas.{same_nothing}

pub held_same : (g h : Header) (es fs : List JournalEntry) (held : ℕ) → g ≡ h → es ≡ fs → ((legal : IsLegal g es) → held ≡ length legal.held.names) → (legal : IsLegal h fs) → held ≡ length legal.held.names
held_same g h es fs held p q is =
    subst (λ x. (l : IsLegal x fs) → held ≡ length l.held.names) p (subst (λ e. (l : IsLegal g e) → held ≡ length l.held.names) q is)

module _ (j new : JournalState) (types words : BookState) (held : ℕ) (of : IsHeldBy j types words held) (names : List (List ℕ)) where
  -- where the bytes stand for a journal, the entries that are told are its
  opened : (h : Header) (before : List JournalEntry) (bytes : List ℕ) → j.disk.seen ≡ Some bytes → StandsFor bytes h before → (j.header ≡ h) × (told_entries j ≡ before)
  opened h before bytes told stood = let may = of.opens in opened_as j h before bytes may.header may.spelled may.legal may.ends.ends told stood

  -- the names were appended
  pub from_named : HasNames held names (Files names ∷ []) j new → (first : ℕ) → first ≡ held → FromArchive j.disk (λ h before bytes stood. AddsNamesTo h before stood names first j.disk new)
  from_named named first number = go j.disk.seen refl
    where
      go : (told : Option (List ℕ)) → j.disk.seen ≡ told
          → IfSome told (λ bytes. (h : Header) (before : List JournalEntry) (stood : StandsFor bytes h before) → ((c : List ℕ) → j.disk.images c → StandsFor c h before) → AddsNamesTo h before stood names first j.disk new)
      go None told = tt
      go (Some bytes) told = λ h before stood only.
          let some : is_some j.disk.seen ≡ true = ap is_some told in
          let is = opened h before bytes told stood in record {
            has = record {
              told = named.tells ∙ some;
              header = named.header ∙ is.0;
              entries = of_told (is_some j.disk.seen) some named.entries ∙ ap (λ es. es ++ Files names ∷ []) is.1;
            };
            number = number ∙ held_same j.header h (told_entries j) before held is.0 is.1 (of_told (is_some j.disk.seen) some of.names) stood.legal;
            past = weaker j.disk new.disk _ (StandsBetween h before (before ++ Files names ∷ [])) named.past (λ c left.
                subst (λ x. StandsBetween x before (before ++ Files names ∷ []) c) is.0 (subst (λ es. StandsBetween j.header es (es ++ Files names ∷ []) c) is.1 (of_told (is_some j.disk.seen) some left)));
          }

  -- the disk was left alone, or a call of it failed
  pub not_named : IsLawful j.disk → IsLawful new.disk → LeavesOnly j.disk new.disk (λ c. IfTold (is_some j.disk.seen) (StandsForOr j.header (told_entries j) (Files names ∷ []) c))
      → (new.disk ≡ j.disk) ⊎ Rose j.disk.faults new.disk.faults → FromArchive j.disk (λ h before bytes stood. TakesNothing h before j.disk new.disk)
  not_named law law_new under (inl is) = subst (λ d. FromArchive j.disk (λ h before bytes stood. TakesNothing h before j.disk d)) (sym is) (same_nothing j.disk law)
  not_named law law_new under (inr rises) = go j.disk.seen refl
    where
      go : (told : Option (List ℕ)) → j.disk.seen ≡ told
          → IfSome told (λ bytes. (h : Header) (before : List JournalEntry) (stood : StandsFor bytes h before) → ((c : List ℕ) → j.disk.images c → StandsFor c h before) → TakesNothing h before j.disk new.disk)
      go None told = tt
      go (Some bytes) told = λ h before stood only.
          let is = opened h before bytes told stood in record {
            leaves = either_leaves h before (Files names ∷ []) j.disk new.disk law_new (omega arith) (λ steady. absurd (steady rises))
                (weaker j.disk new.disk _ (StandsForEither h before (Files names ∷ [])) under (λ c left.
                subst (λ x. StandsForEither x before (Files names ∷ []) c) is.0 (subst (λ es. StandsForEither j.header es (Files names ∷ []) c) is.1 (of_told (is_some j.disk.seen) (ap is_some told) left))));
          }

-- an answer without a first number left the disk alone, or came of a fault
pub ended_alone : {A : Type 0} (now new : JournalState) (result : Result A RegisterRefusal) (r : RegisterRefusal) → result ≡ Err r → (IsErrOf result RegisterRefusal.OutOfMemory → new.disk ≡ now.disk)
    → ((end need : ℕ) → IsErrOf result (RegisterRefusal.ArchiveFull end need) → new.disk ≡ now.disk) → CountsOf RegisterRefusal.DiskFault now.disk.faults new.disk.faults result
    → (new.disk ≡ now.disk) ⊎ Rose now.disk.faults new.disk.faults
ended_alone now new result RegisterRefusal.OutOfMemory is memory full counts = inl (memory is)
ended_alone now new result (RegisterRefusal.ArchiveFull end need) is memory full counts = inl (full end need is)
ended_alone now new result RegisterRefusal.DiskFault is memory full counts = inr (counts.failed is)
