-- What came of files, by their jobs.
use Rattle.std.proofs.Common.{◌≡◌, ◌+◌, ◌<◌, ◌≤◌, inl, refl, sym, ap, subst, ◌∙◌, ℕ, zero, suc, List, [], ◌∷◌, ◌++◌, length, map, Option, Some, arith}
use Rattle.std.specs.Prelude.{All, slice_get}
use Rattle.std.proofs.lemmas.Option.{get_or_from_slice_get, slice_get-get_or, slice_get_within}
use Rattle.std.proofs.Common.{take, get_or}
use Rattle.archive_open.specs.declared.files.FileEntry.{FileEntry}
use Rattle.archive_text.specs.State.{StoredState}
use Rattle.archive_jobs.specs.Jobs.{AreJobsOf, IsJobOf}
use Rattle.ingest_workers.specs.declared.job.Job.{Job}
use Rattle.name_records.specs.Named.{names_of}
use Rattle.command_answers.specs.Ingested.{FileOutcome}
use Rattle.file_outcomes.proofs.ContentLemmas.{AreJobsOf as HaveJobs}
use Rattle.file_outcomes.specs.Taken.{AreToldAs}
use Rattle.file_outcomes.specs.declared.file_report.FileReport.{FileReport}
use Rattle.upgrade_command.specs.Files.{AreReports, IsReportOf, came_by, outcome_by, text_left}
use Rattle.upgrade_command.proofs.RecordLemmas.{element_at}

pub some_is : {A : Type 0} {a b : A} → Some a ≡ Some b → a ≡ b
some_is e = cc (e)

-- what holds at each place holds of each
pub each_of : {A : Type 0} (P : A → Type 0) (xs : List A) → ((i : ℕ) (x : A) → slice_get xs i ≡ Some x → P x) → All P xs
each_of P xs at = λ i d within. at i (get_or xs i d) (slice_get-get_or xs i d within)

pub at_of : {A : Type 0} (P : A → Type 0) (xs : List A) (i : ℕ) (x : A) → All P xs → slice_get xs i ≡ Some x → P x
at_of P xs i x all at = subst P (get_or_from_slice_get xs i x x at) (all i x (slice_get_within xs i x at))

-- at one place: a file, and its job before and after it was done
pub record IsAt {D : Type 0} (files : List FileEntry) (js js' : List (Job (StoredState D))) (i : ℕ) (c : FileOutcome) : Type 0 where
  pub file : FileEntry
  pub old : Job (StoredState D)
  pub done : Job (StoredState D)
  pub at_file : slice_get files i ≡ Some file
  pub at : slice_get js i ≡ Some old
  pub at_done : slice_get js' i ≡ Some done
  pub is : c ≡ outcome_by file old done

-- one more is reported
pub reports_more : {S : Type 0} (js : List (Job S)) (reports : List FileReport) (files : List FileEntry) (place : ℕ) (j : Job S) (r : FileReport) (f : FileEntry) → place < length js → length js ≤ length files → AreReports (take place js) reports files
    → IsReportOf (get_or js place j) r (get_or files place f) → AreReports (take (suc place) js) (reports ++ r ∷ []) files
reports_more [] reports files place j r f within few told is = absurd (omega (arith, within))
reports_more (x ∷ js) reports [] place j r f within few told is = absurd (omega (arith, few))
reports_more (x ∷ js) [] (y ∷ files) zero j r f within few told is = (is, tt)
reports_more (x ∷ js) (s ∷ reports) (y ∷ files) zero j r f within few told is = absurd told
reports_more (x ∷ js) [] (y ∷ files) (suc place) j r f within few told is = absurd told
reports_more (x ∷ js) (s ∷ reports) (y ∷ files) (suc place) j r f within few told is = (told.0, reports_more js reports files place j r f (omega (arith, within)) (omega (arith, few)) told.1 is)

pub reports_pushed : {S : Type 0} (js : List (Job S)) (before more : List FileReport) (files : List FileEntry) (place : ℕ) (j : Job S) (r : FileReport) (f : FileEntry) → place < length js → length js ≤ length files
    → AreReports (take place js) before files → more ≡ before ++ r ∷ [] → IsReportOf (get_or js place j) r (get_or files place f) → AreReports (take (place + 1) js) more files
reports_pushed js before more files place j r f within few told pushed is =
    let next : suc place ≡ place + 1 = omega arith in
    subst (λ n. AreReports (take n js) more files) next
    (subst (λ l. AreReports (take (suc place) js) l files) (sym pushed) (reports_more js before files place j r f within few told is))

module _ {D : Type 0} where
  pub came_at : (files : List FileEntry) (js js' : List (Job (StoredState D))) (i : ℕ) (c : FileOutcome) → slice_get (came_by files js js') i ≡ Some c → IsAt files js js' i c
  came_at [] js js' i c at = absurd (cc (at))
  came_at (f ∷ files) [] js' i c at = absurd (cc (at))
  came_at (f ∷ files) (j ∷ js) [] i c at = absurd (cc (at))
  came_at (f ∷ files) (j ∷ js) (k ∷ js') zero c at = record { file = f; old = j; done = k; at_file = refl; at = refl; at_done = refl; is = sym (some_is at) }
  came_at (f ∷ files) (j ∷ js) (k ∷ js') (suc i) c at =
      let rest = came_at files js js' i c at in
      record { file = rest.file; old = rest.old; done = rest.done; at_file = rest.at_file; at = rest.at; at_done = rest.at_done; is = rest.is }

  -- there is one of each file
  pub there_at : (files : List FileEntry) (js js' : List (Job (StoredState D))) (i : ℕ) (f : FileEntry) (j k : Job (StoredState D)) → slice_get files i ≡ Some f → slice_get js i ≡ Some j → slice_get js' i ≡ Some k
      → slice_get (came_by files js js') i ≡ Some (outcome_by f j k)
  there_at [] js js' i f j k at_file at at_done = absurd (cc (at_file))
  there_at (x ∷ files) [] js' i f j k at_file at at_done = absurd (cc (at))
  there_at (x ∷ files) (y ∷ js) [] i f j k at_file at at_done = absurd (cc (at_done))
  there_at (x ∷ files) (y ∷ js) (z ∷ js') zero f j k at_file at at_done =
      let a : x ≡ f = some_is at_file in let b : y ≡ j = some_is at in let d : z ≡ k = some_is at_done in
      λ i. Some (outcome_by (a i) (b i) (d i))
  there_at (x ∷ files) (y ∷ js) (z ∷ js') (suc i) f j k at_file at at_done = there_at files js js' i f j k at_file at at_done

  pub length-came : (files : List FileEntry) (js js' : List (Job (StoredState D))) → length js ≡ length files → length js' ≡ length files → length (came_by files js js') ≡ length files
  length-came [] js js' a b = refl
  length-came (f ∷ files) [] js' a b = absurd (omega (arith, a))
  length-came (f ∷ files) (j ∷ js) [] a b = absurd (omega (arith, b))
  length-came (f ∷ files) (j ∷ js) (k ∷ js') a b = ap suc (length-came files js js' (omega (arith, a)) (omega (arith, b)))

  pub names_came : (files : List FileEntry) (js js' : List (Job (StoredState D))) → length js ≡ length files → length js' ≡ length files → map (λ (c : FileOutcome). c.name) (came_by files js js') ≡ names_of files
  names_came [] js js' a b = refl
  names_came (f ∷ files) [] js' a b = absurd (omega (arith, a))
  names_came (f ∷ files) (j ∷ js) [] a b = absurd (omega (arith, b))
  names_came (f ∷ files) (j ∷ js) (k ∷ js') a b = ap (λ (ns : List (List ℕ)). f.name ∷ ns) (names_came files js js' (omega (arith, a)) (omega (arith, b)))

  -- they are told as they are reported
  pub came_told : (files : List FileEntry) (js js' : List (Job (StoredState D))) (reports : List FileReport) → length js ≡ length files → AreReports js' reports files → AreToldAs (came_by files js js') reports
  came_told [] js [] [] a told = tt
  came_told [] js [] (r ∷ rs) a told = absurd told
  came_told [] js (k ∷ js') [] a told = absurd told
  came_told [] js (k ∷ js') (r ∷ rs) a told = absurd told
  came_told (f ∷ files) [] js' reports a told = absurd (omega (arith, a))
  came_told (f ∷ files) (j ∷ js) [] [] a told = tt
  came_told (f ∷ files) (j ∷ js) [] (r ∷ rs) a told = absurd told
  came_told (f ∷ files) (j ∷ js) (k ∷ js') [] a told = absurd told
  came_told (f ∷ files) (j ∷ js) (k ∷ js') (r ∷ rs) a told =
      (record { name = sym told.0.name; messages = sym told.0.messages; whole = sym told.0.whole; refusal = sym told.0.refusal }, came_told files js js' rs (omega (arith, a)) told.1)

  -- the job of a place is that of its file
  pub job_at : (seen : Option (List ℕ)) (files : List FileEntry) (js : List (Job (StoredState D))) → AreJobsOf seen files js → (i : ℕ) (f : FileEntry) (j : Job (StoredState D)) → slice_get files i ≡ Some f → slice_get js i ≡ Some j → IsJobOf seen i f.whole j
  job_at seen files js are i f j at_file at =
      let one = are.each i f at_file in
      subst (IsJobOf seen i f.whole) (some_is (sym one.1 ∙ at)) one.2

  -- the jobs are those of the files that came
  pub have_jobs : (version : ℕ) (seen : Option (List ℕ)) (files : List FileEntry) (js js' : List (Job (StoredState D))) → AreJobsOf seen files js → length js' ≡ length js → HaveJobs text_left version (came_by files js js') 0 js
  have_jobs version seen files js js' are counted = record {
    file = λ i job at.
        let entry = element_at files i (omega (arith, are.count, slice_get_within js i job at)) in
        (job_at seen files js are i entry.0 job entry.1 at).file ∙ omega arith;
    log = λ i job at.
        let within = slice_get_within js i job at in
        let entry = element_at files i (omega (arith, are.count, within)) in
        let done = element_at js' i (omega (arith, counted, within)) in
        (outcome_by entry.0 job done.0, there_at files js js' i entry.0 job done.0 entry.1 at done.1, inl (refl, refl));
  }
