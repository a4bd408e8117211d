-- Where a read of a log failed, by what is told as unread of its name.
use Rattle.std.proofs.Common.{◌≡◌, ◌≢◌, ◌⊎◌, inl, inr, refl, sym, ap, subst, ◌∙◌, ℕ, zero, suc, Bool, true, false, List, [], ◌∷◌, map, take, Option, Some, None, arith}
use Rattle.std.specs.Prelude.{All, IfSome, option_map, slice_get}
use Rattle.std.specs.List.{Contains}
use Rattle.std.specs.Str.{bytes_eq, chars, is_utf8}
use Rattle.std.proofs.lemmas.Slice.Eq.{bytes_eq-Decides}
use Rattle.std.proofs.lemmas.List.Elements.{All-map, All-weaker, Contains-append_right}
use Rattle.std.proofs.lemmas.Option.{slice_get-map}
use Rattle.log_seams.specs.declared.disk.Disk.{Ghosts as DiskGhosts}
use Rattle.log_seams.specs.declared.refusals.OpenRefused.{OpenRefused}
use Rattle.log_seams.specs.declared.refusals.OpenRefused.TheVariants.{Failed, OutOfMemory}
use Rattle.log_sources.specs.declared.source.LogSource.{LogSource}
use Rattle.log_sources.specs.declared.source.LogSource.TheVariants.{Opened, Unopened}
use Rattle.log_sources.specs.Sources.{IsOpened, IsUnread, faults_in, left_in, name_in, no_name, refusal_of}
use Rattle.disk_journal.specs.declared.journal.Journal.{Journal}
use Rattle.message_reader.specs.Taken.{IsReadShort}
use Rattle.ingest_workers.specs.declared.job.Job.{Job}
use Rattle.ingest_workers.specs.declared.outcome.Cause.{Cause}
use Rattle.ingest_workers.specs.declared.outcome.Outcome.{Outcome}
use Rattle.ingest_workers.specs.Causes.{HasJobCause, log_of}
use Rattle.ingest_workers.specs.Ingested.{HasItsCause, HaveCauses, IsFullByGiven as IsFullByJobs, WereGiven as WereGivenByJobs, grounds_over, plan_of}
use Rattle.command_refusals.specs.declared.outcome.PartCause.{PartCause}
use Rattle.command_answers.specs.Ingested.{AreCutShort, FileOutcome, IsLeftOf, WasCutShort, names_in}
use Rattle.write_commands.specs.IngestPrints.{came_of}
use Rattle.file_outcomes.specs.Jobs.{DidJobs, IsNotBegun, of_cause, of_opening, refusal_by, sources_of}
use Rattle.file_outcomes.specs.declared.file_report.FileReport.{FileReport}
use Rattle.write_commands.proofs.FileCauseLemmas.{at_of}
use Rattle.write_commands.proofs.TakeInLemmas.{CameBy, CameOfLog}

contains_head : {A : Type 0} (x : A) (xs : List A) → Contains (x ∷ xs) x
contains_head x xs = (0, omega arith, refl)

contains_tail : {A : Type 0} (y : A) (xs : List A) (x : A) → Contains xs x → Contains (y ∷ xs) x
contains_tail y xs x has = Contains-append_right (y ∷ []) xs x has

-- the name that no log has is no text
no_text : is_utf8 no_name ≡ false
unfolding is_utf8 chars
no_text = refl

-- ---- the first log of a name

module _ {S : Type 0} (left name : S → Option (List ℕ)) (old new : List ℕ → Option (List ℕ)) where
  -- each of the opened logs tells its own name, or none, or what is no name
  abbrev AreNamed : List (List ℕ) → List (LogSource S) → Type 0
  AreNamed names logs = (i : ℕ) (s : S) (n : List ℕ) → slice_get logs i ≡ Some (Opened s) → slice_get names i ≡ Some n → IfSome (name s) (λ m. (m ≡ n) ⊎ (is_utf8 m ≡ false))

  -- what is told of a name is what was left of its first log, or a name before it is the same, or the same is told of others
  abbrev LeftBy : (List ℕ → Type 0) → List (List ℕ) → ℕ → List ℕ → S → Type 0
  LeftBy P names place n s = (left s ≡ new n) ⊎ Contains (take place names) n ⊎ ((m : List ℕ) → P m → ¬ Contains names m → new m ≡ new n)

  -- behind one more log
  behind : (P Q : List ℕ → Type 0) (x : List ℕ) (names : List (List ℕ)) (place : ℕ) (n : List ℕ) (s : S) → ((m : List ℕ) → P m → ¬ Contains (x ∷ names) m → Q m) → LeftBy Q names place n s → LeftBy P (x ∷ names) (suc place) n s
  behind P Q x names place n s on (inl is) = inl is
  behind P Q x names place n s on (inr (inl before)) = inr (inl (contains_tail x (take place names) n before))
  behind P Q x names place n s on (inr (inr alike)) = inr (inr (λ m p none. alike m (on m p none) (λ has. none (contains_tail x names m has))))

  -- what is told of the names that are so, behind these logs
  abbrev Unread : (List ℕ → Type 0) → List (LogSource S) → Type 0
  Unread P logs = (m : List ℕ) → P m → IsUnread left name m (old m) (new m) logs

  -- it is not the log of another name
  apart : (x k m : List ℕ) → (k ≡ x) ⊎ (is_utf8 k ≡ false) → is_utf8 m ≡ true → x ≢ m → k ≡ m → ⊥
  apart x k m (inl same) is_text distinct e = distinct (sym same ∙ e)
  apart x k m (inr bad) is_text distinct e = let good : is_utf8 k ≡ true = subst (λ y. is_utf8 y ≡ true) (sym e) is_text in cc (good, bad)

  -- behind a log that was opened, of another name
  behind_opened : (P : List ℕ → Type 0) → ((m : List ℕ) → P m → is_utf8 m ≡ true) → (x : List ℕ) (names : List (List ℕ)) (t : S) (logs : List (LogSource S)) → IfSome (name t) (λ m. (m ≡ x) ⊎ (is_utf8 m ≡ false)) → Unread P (Opened t ∷ logs)
      → (place : ℕ) (n : List ℕ) (s : S) → P n → (Unread (λ m. P m × (x ≢ m)) logs → LeftBy (λ m. P m × (x ≢ m)) names place n s) → LeftBy P (x ∷ names) (suc place) n s
  behind_opened P text x names t logs own unread place n s p on = by_told (name t) refl own
    where
      -- one that tells no name is told of all
      untold : name t ≡ None → (m : List ℕ) → P m → new m ≡ left t
      untold none m q = (unread m q).0 (subst (λ (o : Option (List ℕ)). IfSome o (λ k. k ≡ m)) (sym none) tt)

      by_told : (told : Option (List ℕ)) → name t ≡ told → IfSome (name t) (λ m. (m ≡ x) ⊎ (is_utf8 m ≡ false)) → LeftBy P (x ∷ names) (suc place) n s
      by_told None none mine = inr (inr (λ m q free. untold none m q ∙ sym (untold none n p)))
      by_told (Some k) tells mine =
          let is : (k ≡ x) ⊎ (is_utf8 k ≡ false) = subst (λ (o : Option (List ℕ)). IfSome o (λ m. (m ≡ x) ⊎ (is_utf8 m ≡ false))) tells mine in
          behind P (λ m. P m × (x ≢ m)) x names place n s (λ m q none. (q, λ e. none (subst (λ y. Contains (x ∷ names) y) e (contains_head x names))))
          (on (λ m q. (unread m q.0).1 (λ has. apart x k m is (text m q.0) q.1 (subst (λ (o : Option (List ℕ)). IfSome o (λ y. y ≡ m)) tells has))))

  -- behind a log of another name
  behind_log : (P : List ℕ → Type 0) → ((m : List ℕ) → P m → is_utf8 m ≡ true) → (x : List ℕ) (names : List (List ℕ)) (g : LogSource S) (logs : List (LogSource S)) → ((t : S) → g ≡ Opened t → IfSome (name t) (λ m. (m ≡ x) ⊎ (is_utf8 m ≡ false))) → Unread P (g ∷ logs)
      → (place : ℕ) (n : List ℕ) (s : S) → P n → (Unread P logs → LeftBy P names place n s) → (Unread (λ m. P m × (x ≢ m)) logs → LeftBy (λ m. P m × (x ≢ m)) names place n s) → LeftBy P (x ∷ names) (suc place) n s
  behind_log P text x names (Unopened cause faults) logs own unread place n s p all others = behind P P x names place n s (λ m q none. q) (all unread)
  behind_log P text x names (Opened t) logs own unread place n s p all others = behind_opened P text x names t logs (own t refl) unread place n s p others

  behind_name : (P : List ℕ → Type 0) (x : List ℕ) (names : List (List ℕ)) (place : ℕ) (n : List ℕ) (s : S) (b : Bool) → bytes_eq x n ≡ b → ((x ≢ n) → LeftBy P (x ∷ names) (suc place) n s) → LeftBy P (x ∷ names) (suc place) n s
  behind_name P x names place n s true is other = inr (inl (subst (λ y. Contains (x ∷ take place names) y) ((bytes_eq-Decides x n).0 is) (contains_head x (take place names))))
  behind_name P x names place n s false is other = other (λ e. let same : bytes_eq x n ≡ true = (bytes_eq-Decides x n).1 e in cc (same, is))

  left_by : (P : List ℕ → Type 0) → ((m : List ℕ) → P m → is_utf8 m ≡ true) → (names : List (List ℕ)) (logs : List (LogSource S)) → AreNamed names logs → Unread P logs
      → (place : ℕ) (n : List ℕ) (s : S) → slice_get names place ≡ Some n → slice_get logs place ≡ Some (Opened s) → IfSome (name s) (λ m. m ≡ n) → P n → LeftBy P names place n s
  left_by P text [] logs named unread place n s at here mine p = absurd (cc (at))
  left_by P text (x ∷ names) [] named unread place n s at here mine p = absurd (cc (here))
  left_by P text (x ∷ names) (g ∷ logs) named unread zero n s at here mine p =
      let is : g ≡ Opened s = cc (here) in
      inl (sym ((subst (λ (y : LogSource S). IsUnread left name n (old n) (new n) (y ∷ logs)) is (unread n p)).0 mine))
  left_by P text (x ∷ names) (g ∷ logs) named unread (suc place) n s at here mine p =
      let rest : AreNamed names logs = λ i t m there told. named (suc i) t m there told in
      behind_name P x names place n s (bytes_eq x n) refl (λ other.
      behind_log P text x names g logs (λ t is. named 0 t x (ap (λ (y : LogSource S). Some y) is) refl) unread place n s p
      (λ more. left_by P text names logs rest more place n s at here mine p)
      (λ more. left_by (λ m. P m × (x ≢ m)) (λ m q. text m q.0) names logs rest more place n s at here mine (p, other)))

-- ---- files of which a read failed

-- no read failed of a log that was not opened, nor of a job with another cause
not_opening : (opening : OpenRefused) → Some (of_opening opening) ≡ Some PartCause.ReadFault → ⊥
not_opening Failed is = cc (is)
not_opening OutOfMemory is = cc (is)

read_cause : (cause : Option Cause) → option_map of_cause cause ≡ Some PartCause.ReadFault → cause ≡ Some Cause.ReadFault
read_cause None is = absurd (cc (is))
read_cause (Some Cause.ReadFault) is = refl
read_cause (Some (Cause.LineTooLong line)) is = absurd (cc (is))
read_cause (Some Cause.TooManyLines) is = absurd (cc (is))
read_cause (Some (Cause.Full b n)) is = absurd (cc (is))
read_cause (Some (Cause.DiskFault opened now)) is = absurd (cc (is))
read_cause (Some Cause.OutOfMemory) is = absurd (cc (is))
read_cause (Some (Cause.ArchiveFull end need)) is = absurd (cc (is))

module _ {S : Type 0} (left name : S → Option (List ℕ)) (faults : S → ℕ) (opens opens_now : List ℕ → ℕ) where
  abbrev From : FileOutcome → LogSource S → Type 0
  From = CameBy left name faults opens opens_now

  module _ {D : Type 0} {d : DiskGhosts D} (j after : Journal D d) (came : List FileOutcome) (rows : ℕ) (js js' : List (Job (LogSource S))) (each : (i : ℕ) (c : FileOutcome) → slice_get came i ≡ Some c → CameOfLog From js js' i c)
      (given : List (LogSource S)) (are : map Some given ≡ sources_of js') (old new : List ℕ → Option (List ℕ)) (unread : (n : List ℕ) → IsUnread left name n (old n) (new n) given) where
    abbrev Its : Job (LogSource S) → Job (LogSource S) → Type 0
    Its = HasItsCause (IsFullByJobs (left_in left) (plan_of rows j) js j) (WereGivenByJobs (left_in left) (plan_of rows j) js) (left_in left) (name_in name) (faults_in faults) (plan_of rows j) j after

    -- the source that a job has back is the one that is closed in its place
    given_at : (i : ℕ) (done : Job (LogSource S)) (t : LogSource S) → slice_get js' i ≡ Some done → done.source ≡ Some t → slice_get given i ≡ Some t
    given_at i done t at has = go (slice_get given i)
        (sym (slice_get-map (λ (s : LogSource S). Some s) given i) ∙ (ap (λ (l : List (Option (LogSource S))). slice_get l i) are ∙ (slice_get-map (λ (x : Job (LogSource S)). x.source) js' i ∙ ap (option_map (λ (x : Job (LogSource S)). x.source)) at)))
      where
        go : (o : Option (LogSource S)) → option_map (λ (s : LogSource S). Some s) o ≡ Some done.source → o ≡ Some t
        go None is = absurd (cc (is))
        go (Some u) is = cc (is, has)

    module _ (causes : HaveCauses (left_in left) (name_in name) (faults_in faults) (plan_of rows j) j after js js') where
      its_at : (i : ℕ) (c : FileOutcome) (at : slice_get came i ≡ Some c) → Its (each i c at).old (each i c at).done
      its_at i c at =
          let one = each i c at in
          let cause = causes.each i one.old one.at in
          subst (λ (x : Job (LogSource S)). Its one.old x) (some_is cause.0 one.done (sym cause.1 ∙ one.at_done)) cause.2
        where
          some_is : (x y : Job (LogSource S)) → Some x ≡ Some y → x ≡ y
          some_is x y e = cc (e)

      -- a source that was closed tells the name that it was opened by
      named_so : (c : FileOutcome) (source t : LogSource S) (u : S) → From c source → name_in name t ≡ name_in name source → t ≡ Opened u → IfSome (name u) (λ m. (m ≡ c.name) ⊎ (is_utf8 m ≡ false))
      named_so c (Opened s) t u came_from same is =
          let own : name s ≡ name u = sym same ∙ ap (name_in name) is in
          or_else (name u) (subst (λ (o : Option (List ℕ)). IfSome o (λ m. m ≡ c.name)) own came_from.named)
        where
          or_else : (o : Option (List ℕ)) → IfSome o (λ m. m ≡ c.name) → IfSome o (λ m. (m ≡ c.name) ⊎ (is_utf8 m ≡ false))
          or_else None e = tt
          or_else (Some m) e = inl e
      named_so c (Unopened cause n) t u came_from same is =
          let own : Some no_name ≡ name u = sym same ∙ ap (name_in name) is in
          subst (λ (o : Option (List ℕ)). IfSome o (λ m. (m ≡ c.name) ⊎ (is_utf8 m ≡ false))) own (inr no_text)

      all_named : AreNamed left name old new (names_in came) given
      all_named i u n here named = by_file (slice_get came i) refl
        where
          by_file : (o : Option FileOutcome) → slice_get came i ≡ o → IfSome (name u) (λ m. (m ≡ n) ⊎ (is_utf8 m ≡ false))
          by_file None none = absurd (cc (sym named ∙ (slice_get-map (λ (c : FileOutcome). c.name) came i ∙ ap (option_map (λ (c : FileOutcome). c.name)) none)))
          by_file (Some c) at =
              let is : c.name ≡ n = some_is c.name n (sym (slice_get-map (λ (x : FileOutcome). x.name) came i ∙ ap (option_map (λ (x : FileOutcome). x.name)) at) ∙ named) in
              let one = each i c at in
              let its = its_at i c at in
              let begun : its.source.before ≡ one.source = some_source its.source.before one.source (sym its.source.had ∙ one.has) in
              let back : its.source.after ≡ Opened u = some_source its.source.after (Opened u) (sym (given_at i one.done its.source.after one.at_done its.source.has) ∙ here) in
              subst (λ y. IfSome (name u) (λ m. (m ≡ y) ⊎ (is_utf8 m ≡ false))) is (named_so c one.source its.source.after u one.came (its.source.keeps.named ∙ ap (name_in name) begun) back)
            where
              some_is : (x y : List ℕ) → Some x ≡ Some y → x ≡ y
              some_is x y e = cc (e)

              some_source : (x y : LogSource S) → Some x ≡ Some y → x ≡ y
              some_source x y e = cc (e)

      cut_done : AreCutShort new j.header.version came
      cut_done place c bytes at is told = by_source (each place c at).source refl
        where
          one : CameOfLog From js js' place c
          one = each place c at

          its : Its one.old one.done
          its = its_at place c at

          some_source : (x y : LogSource S) → Some x ≡ Some y → x ≡ y
          some_source x y e = cc (e)

          begun : its.source.before ≡ one.source
          begun = some_source its.source.before one.source (sym its.source.had ∙ one.has)

          name_at : slice_get (names_in came) place ≡ Some c.name
          name_at = slice_get-map (λ (x : FileOutcome). x.name) came place ∙ ap (option_map (λ (x : FileOutcome). x.name)) at

          by_source : (s : LogSource S) → one.source ≡ s → (cut : WasCutShort j.header.version c bytes) × IsLeftOf new came place c cut.behind
          by_source (Unopened opening n) from = absurd (not_opening opening (sym (ap (λ (s : LogSource S). refusal_by (refusal_of s) one.done.outcome.cause) from) ∙ (sym one.refusal ∙ is)))
          by_source (Opened s) from = (record { taken = its.sealed; count = one.messages ∙ its.count; behind = left_in left its.source.after; short = short }, by_back its.source.after refl)
            where
              cause : one.done.outcome.cause ≡ Some Cause.ReadFault
              cause = read_cause one.done.outcome.cause (sym (ap (λ (x : LogSource S). refusal_by (refusal_of x) one.done.outcome.cause) from) ∙ (sym one.refusal ∙ is))

              opened : IsOpened left name faults c.log c.name s
              opened = subst (From c) from one.came

              bytes_are : left_in left its.source.before ≡ Some bytes
              bytes_are = ap (left_in left) (begun ∙ from) ∙ (opened.left_is ∙ told)

              short : IsReadShort j.header.version bytes its.sealed (left_in left its.source.after)
              short =
                  let has = subst (HasJobCause (grounds_over (IsFullByJobs (left_in left) (plan_of rows j) js j) (WereGivenByJobs (left_in left) (plan_of rows j) js) (plan_of rows j) one.old.file (left_in left its.source.before) j after)
                  (log_of (left_in left) (faults_in faults) its.source.before its.source.after) j.header.version its.sealed) cause its.cause in
                  subst (λ (o : Option (List ℕ)). IfSome o (λ b. IsReadShort j.header.version b its.sealed (left_in left its.source.after))) bytes_are has.1

              by_back : (t : LogSource S) → its.source.after ≡ t → IsLeftOf new came place c (left_in left its.source.after)
              by_back (Unopened opening n) back =
                  let own : Some no_name ≡ name s = sym (ap (name_in name) back) ∙ (its.source.keeps.named ∙ ap (name_in name) (begun ∙ from)) in
                  let same : no_name ≡ c.name = subst (λ (o : Option (List ℕ)). IfSome o (λ m. m ≡ c.name)) (sym own) opened.named in
                  let text : is_utf8 no_name ≡ true = subst (λ m. is_utf8 m ≡ true) (sym same) opened.text in
                  absurd (cc (text, no_text))
              by_back (Opened u) back =
                  let own : name u ≡ name s = sym (ap (name_in name) back) ∙ (its.source.keeps.named ∙ ap (name_in name) (begun ∙ from)) in
                  subst (IsLeftOf new came place c) (sym (ap (left_in left) back))
                  (left_by left name old new (λ m. is_utf8 m ≡ true) (λ m text. text) (names_in came) given all_named (λ m text. unread m) place c.name u name_at (given_at place one.done (Opened u) one.at_done (its.source.has ∙ ap (λ (t : LogSource S). Some t) back))
                  (subst (λ (o : Option (List ℕ)). IfSome o (λ m. m ≡ c.name)) (sym own) opened.named) opened.text)

    pub all_cut : (workers : ℕ) → DidJobs (left_in left) (name_in name) (faults_in faults) workers rows j after js js' → AreCutShort new j.header.version came
    all_cut workers (inl done) = cut_done done.causes
    all_cut workers (inr none) = λ place c bytes at is told.
        let one = each place c at in
        let cause : one.done.outcome.cause ≡ Some Cause.OutOfMemory = ap (λ (o : Outcome). o.cause) (none.jobs.each place one.done one.at_done) in
        absurd (unread_none (refusal_of one.source) (sym (ap (refusal_by (refusal_of one.source)) cause) ∙ (sym one.refusal ∙ is)))
      where
        unread_none : (opening : Option OpenRefused) → refusal_by opening (Some Cause.OutOfMemory) ≡ Some PartCause.ReadFault → ⊥
        unread_none (Some opening) is = not_opening opening is
        unread_none None is = cc (is)

-- without memory to begin
pub unbegun_cut : (content unread : List ℕ → Option (List ℕ)) (version : ℕ) (taken : List FileReport) → All IsNotBegun taken → AreCutShort unread version (map (came_of content) taken)
unbegun_cut content unread version taken none = λ place c bytes at is told.
    let refused : c.refusal ≡ Some PartCause.OutOfMemory = at_of (λ (x : FileOutcome). x.refusal ≡ Some PartCause.OutOfMemory) (map (came_of content) taken) place c
    (All-map (λ (x : FileOutcome). x.refusal ≡ Some PartCause.OutOfMemory) (came_of content) taken (All-weaker IsNotBegun (λ (file : FileReport). file.refusal ≡ Some PartCause.OutOfMemory) (λ file n. n.refusal) taken none)) at in
    absurd (cc (sym refused ∙ is))
