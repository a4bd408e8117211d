-- Records of names, what they hold, and the files that begin with a name alone.
use Rattle.std.proofs.Common.{◌≡◌, ◌≤◌, ◌<◌, refl, sym, ap, subst, ◌∙◌, ℕ, zero, suc, true, false, List, [], ◌∷◌, ◌++◌, length, map, Option, Some, None, arith, append-nil}
use Rattle.std.specs.Prelude.{is_some, slice_get}
use Rattle.std.proofs.lemmas.List.{length-map, take_all}
use Rattle.std.proofs.lemmas.Option.{slice_get_within}
use Rattle.record_format.specs.declared.header.Header.{Header}
use Rattle.disk_journal.specs.State.{JournalState}
use Rattle.archive_meaning.specs.declared.TheConstants.{MAX_FILES}
use Rattle.archive_meaning.specs.declared.entry.JournalEntry.{JournalEntry}
use Rattle.archive_meaning.specs.declared.entry.JournalEntry.TheVariants.{Files, Segment, Types, Words}
use Rattle.archive_meaning.specs.Held.{Held, is_ended, is_whole, messages_of, nothing_held}
use Rattle.archive_meaning.specs.Spelled.{types_of}
use Rattle.archive_meaning.specs.Stands.{IsLegal}
use Rattle.archive_open.specs.declared.files.FileEntry.{FileEntry}
use Rattle.archive_text.specs.State.{StoredState}
use Rattle.archive_jobs.specs.Jobs.{AreJobsOf}
use Rattle.ingest_meaning.specs.WordsIn.{words_of}
use Rattle.disk_seal.specs.Told.{IfTold}
use Rattle.ingest_workers.specs.Ingested.{AreNew, first_file, told_entries}
use Rattle.ingest_workers.specs.Journal.{Holds}
use Rattle.ingest_workers.specs.declared.job.Job.{Job}
use Rattle.name_records.specs.Named.{AreNamed, AreNamesOf, HasNames, names_of}
use Rattle.ingest_meaning.specs.declared.refusal.RegisterRefusal.{RegisterRefusal}
use Rattle.name_records.proofs.LeftLemmas.{by_told, of_told}
use Rattle.command_answers.specs.Upgrading.{AreNamesOf as AreNamesTold}
use Rattle.file_outcomes.proofs.NamingLemmas.{run_names, types_behind, words_behind}
use Rattle.upgrade_command.specs.Filling.{HasNoTexts}

-- the same, as the answers tell it
pub names_told : (es : List JournalEntry) (names : List (List ℕ)) → AreNamesOf es names → AreNamesTold es names
names_told [] names are = are
names_told (Files some ∷ es) names are = (are.0, are.1, (are.2.0, are.2.1, names_told es are.2.0 are.2.2))
names_told (Types first texts ∷ es) names are = absurd are
names_told (Words first texts ∷ es) names are = absurd are
names_told (Segment s ∷ es) names are = absurd are

-- ---- what they hold

-- the names alone
pub names_held : (h : Header) (es : List JournalEntry) (names : List (List ℕ)) → AreNamesOf es names → (legal : IsLegal h es) → (legal.held.names ≡ names) × (legal.held.pieces ≡ [])
names_held h es names are legal = let same = run_names h nothing_held es names legal.held are legal.run in (ap (λ (x : Held). x.names) same, ap (λ (x : Held). x.pieces) same)

-- ---- the journal that has them

-- all of them are there where none was refused
pub all_named : (names : List (List ℕ)) (count : ℕ) (refusal : Option RegisterRefusal) (j mid : JournalState) (named : AreNamed 0 names count refusal j mid) → refusal ≡ None → HasNames 0 names named.naming j mid
all_named names count refusal j mid named none = subst (λ ns. HasNames 0 ns named.naming j mid) (take_all count names (omega (arith, named.all none))) (named.done (λ e. cc (sym none ∙ e)))

pub element_at : {A : Type 0} (xs : List A) (i : ℕ) → i < length xs → (x : A) × (slice_get xs i ≡ Some x)
element_at [] i within = absurd (omega (arith, within))
element_at (x ∷ xs) zero within = (x, refl)
element_at (x ∷ xs) (suc i) within = element_at xs i (omega (arith, within))

module _ (names : List (List ℕ)) (naming : List JournalEntry) (j mid : JournalState) (has : HasNames 0 names naming j mid) (empty : told_entries j ≡ []) where
  -- its entries are the records
  pub entries_named : is_some mid.disk.seen ≡ true → told_entries mid ≡ naming
  entries_named told = of_told (is_some j.disk.seen) (sym has.tells ∙ told) has.entries ∙ ap (λ es. es ++ naming) empty

  pub no_texts : HasNoTexts mid
  no_texts = by_told (is_some mid.disk.seen) (λ told.
      let are = entries_named told in (ap types_of (are ∙ sym (append-nil naming)) ∙ types_behind naming [] names has.are, ap words_of (are ∙ sym (append-nil naming)) ∙ words_behind naming [] names has.are))

  -- a file of it has its name, and nothing else
  file_named : (i : ℕ) → i < length names → IfTold (is_some mid.disk.seen) (Holds mid.header (told_entries mid) i [] false false)
  file_named i within = by_told (is_some mid.disk.seen) (λ told.
      let are = entries_named told in
      let legal : IsLegal mid.header naming = subst (IsLegal mid.header) are (of_told (is_some mid.disk.seen) told has.opens.legal) in
      let held = names_held mid.header naming names has.are legal in
      subst (λ es. Holds mid.header es i [] false false) (sym are) (record {
        held = legal.held;
        run = legal.run;
        named = omega (arith, ap length held.0, within);
        messages_are = ap (messages_of i) held.1;
        whole_is = ap (is_whole i) held.1;
        ended_is = ap (is_ended i) held.1;
      }))

  module _ {D : Type 0} (seen : Option (List ℕ)) (files : List FileEntry) (names_are : names ≡ names_of files) (few : length files ≤ MAX_FILES) where
    -- the first job is that of file 0
    first_zero : (js : List (Job (StoredState D))) → AreJobsOf seen files js → first_file js ≡ 0
    first_zero [] are = refl
    first_zero (x ∷ js) are =
        let entry = element_at files 0 (omega (arith, are.count)) in
        let one = are.each 0 entry.0 entry.1 in
        let same : x ≡ one.0 = some_is one.1 in
        ap (λ (y : Job (StoredState D)). y.file) same ∙ one.2.file
      where
        some_is : {A : Type 0} {a b : A} → Some a ≡ Some b → a ≡ b
        some_is e = cc (e)

    -- so each job is that of a new file
    pub are_new : (js : List (Job (StoredState D))) → AreJobsOf seen files js → AreNew (first_file js) mid js
    are_new js are = λ i job at.
        let within : i < length files = omega (arith, are.count, slice_get_within js i job at) in
        let entry = element_at files i within in
        let one = are.each i entry.0 entry.1 in
        let same : job ≡ one.0 = some_is (sym at ∙ one.1) in
        let file : job.file ≡ i = ap (λ (y : Job (StoredState D)). y.file) same ∙ one.2.file in
        record {
          outcome = ap (λ (y : Job (StoredState D)). y.outcome) same ∙ one.2.outcome;
          file_is = omega (arith, file, first_zero js are);
          small = omega (arith, file, within, few);
          empty = subst (λ n. IfTold (is_some mid.disk.seen) (Holds mid.header (told_entries mid) n [] false false)) (sym file) (file_named i (omega (arith, within, ap length names_are, length-map files (λ (f : FileEntry). f.name))));
        }
      where
        some_is : {a b : Job (StoredState D)} → Some a ≡ Some b → a ≡ b
        some_is e = cc (e)
