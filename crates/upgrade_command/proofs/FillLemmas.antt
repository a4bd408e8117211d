-- The steps by which a new archive gets its files.
use Rattle.std.proofs.Common.{◌≡◌, ◌≢◌, ◌-◌, ◌≤◌, ◌<◌, inl, inr, refl, sym, ap, subst, ◌∙◌, ℕ, zero, suc, true, List, [], ◌∷◌, ◌++◌, length, map, take, drop, Option, Some, None, Result, Ok, Err, arith}
use Rattle.std.specs.Prelude.{IfErr, IfOk, IfSome, is_ok, is_some, option_map}
use Rattle.std.proofs.lemmas.List.{length-append, take-append-drop}
use Rattle.log_seams.specs.Disk.{DiskState, IsLawful, Rests}
use Rattle.log_seams.specs.Outside.{Rose}
use Rattle.log_seams.proofs.ReadsLemmas.{rests_same}
use Rattle.std.proofs.Math.Seq.{take-append_seam}
use Rattle.log_seams.specs.declared.disk.Disk.{Ghosts as DiskGhosts}
use Rattle.record_format.specs.declared.header.Header.{Header}
use Rattle.dict_core.specs.Books.{BookState}
use Rattle.disk_journal.specs.Created.{CreateLeaves, MakesEmpty}
use Rattle.disk_journal.specs.declared.refusals.CreateRefusal.{CreateRefusal}
use Rattle.disk_journal.specs.Journal.{state_of}
use Rattle.disk_journal.specs.State.{JournalState}
use Rattle.disk_journal.specs.declared.journal.Journal.{Journal}
use Rattle.archive_meaning.specs.Held.{File, content_of}
use Rattle.archive_meaning.specs.Spelled.{end_of}
use Rattle.archive_open.specs.Shown.{HasLastGate, Opens, Shown, StandsForNone, counted}
use Rattle.archive_text.specs.declared.cause.TextCause.{TextCause}
use Rattle.archive_jobs.specs.Lent.{IsRead, LeavesCause, LentDisk, OpenerState}
use Rattle.archive_text.specs.State.{StoredState}
use Rattle.ingest_meaning.specs.declared.refusal.RegisterRefusal.{RegisterRefusal}
use Rattle.disk_seal.proofs.ToldLemmas.{told_map}
use Rattle.ingest_workers.specs.Ingested.{HasIngested, HaveCauses, HoldTexts, plan_of, told_entries}
use Rattle.ingest_workers.specs.InTurn.{AreFullInTurn}
use Rattle.ingest_workers.specs.OpenWorker.{KnowsEach}
use Rattle.ingest_workers.specs.declared.job.Job.{Job}
use Rattle.name_records.specs.Left.{HasGoneOn, LeavesEntries}
use Rattle.name_records.specs.Named.{AreNamed, HasNamesCause, names_of}
use Rattle.name_records.proofs.LeftLemmas.{of_told}
use Rattle.search_meaning.specs.Journal.{OfJournal}
use Rattle.command_refusals.specs.GoesOn.{DiskGoesOn}
use Rattle.command_refusals.specs.Outcome.{upgrade_from_create, upgrade_from_register}
use Rattle.command_refusals.specs.declared.outcome.UpgradeRefusal.{UpgradeRefusal}
use Rattle.command_answers.specs.Ingested.{LeavesJournal}
use Rattle.command_answers.specs.Upgrading.{EndsTexts, LacksRoomFor, NamedNotAll, NamesSome}
use Rattle.upgrade_command.specs.Files.{stop_by, text_faults, text_left, text_name}
use Rattle.upgrade_command.specs.Filling.{DidFill, HasNoTexts, IsNewJournal}
use Rattle.upgrade_command.specs.Taking.{MakesNone, NamesFirst}
use Rattle.upgrade_command.proofs.MadeLemmas.{from_new, leaves_from}
use Rattle.file_outcomes.proofs.NamingLemmas.{refused_last}
use Rattle.upgrade_command.proofs.RecordLemmas.{names_told}

-- new books have the texts of a journal without any
pub hold_none : (j : JournalState) (types words : BookState) → HasNoTexts j → types.texts ≡ [] → types.limit ≡ j.header.types_limit → words.texts ≡ [] → words.limit ≡ j.header.words_limit → HoldTexts j types words
hold_none j types words none no_types types_limit no_words words_limit = record {
  types_are = told_map (is_some j.disk.seen) (λ texts. (no_types ∙ sym texts.0, types_limit)) none;
  words_are = told_map (is_some j.disk.seen) (λ texts. (no_words ∙ sym texts.1, words_limit)) none;
}

-- a disk that was not read yet
pub not_read : {D : Type 0} (state : D → DiskState) (lent : LentDisk) (name : ℕ) (disk : D) → name ≡ lent.name → Rests lent.disk (state disk) → (state disk).faults ≡ lent.disk.faults → IsRead state lent None name disk
not_read state lent name disk named rests same = record {
  name_is = named;
  rests = rests;
  counts = record { later = omega (arith, same); failed = λ e. absurd (cc (e)); spared = λ e. same };
  damaged = λ e. absurd (cc (e));
  own = λ e. cc (e);
}

-- a disk that is lent as it is
pub just_lent : {D : Type 0} (state : D → DiskState) (lent : LentDisk) (name : ℕ) (disk : D) → name ≡ lent.name → lent.disk ≡ state disk → IsRead state lent None name disk
just_lent state lent name disk named same = not_read state lent name disk named (subst (λ d. Rests d (state disk)) (sym same) (rests_same (state disk))) (ap (λ (d : DiskState). d.faults) (sym same))

-- what is known of the texts by their opener, and by its cause
pub known_by : {D : Type 0} (opener : OpenerState) (cause : Option TextCause) (js js' : List (Job (StoredState D))) → cause ≡ opener.cause → KnowsEach (λ (o : OpenerState) (t : StoredState D). LeavesCause o.cause (text_faults t)) opener js js'
    → KnowsEach (λ (c : Option TextCause) (t : StoredState D). LeavesCause c (text_faults t)) cause js js'
known_by opener cause js js' same known = λ i j j' at at' opened t has. subst (λ c. LeavesCause c (text_faults t)) (sym same) (known i j j' at at' opened t has)

-- what holds of the value of an answer, by its value
pub ok_is : {A E : Type 0} (P : A → Type 0) (result : Result A E) (x : A) → result ≡ Ok x → IfOk result P → P x
ok_is {A = A} {E = E} P result x is p = subst (λ (r : Result A E). IfOk r P) is p

pub err_is : {A E : Type 0} (P : E → Type 0) (result : Result A E) (x : E) → result ≡ Err x → IfErr result P → P x
err_is {A = A} {E = E} P result x is p = subst (λ (r : Result A E). IfErr r P) is p

-- a list that was taken out of a longer one and written back
pub back_whole : {A : Type 0} (n : ℕ) (xs ys : List A) → n ≡ length ys → length xs ≡ length ys → take n (xs ++ drop (length xs) ys) ≡ xs
back_whole n xs ys counted same = ap (λ k. take k (xs ++ drop (length xs) ys)) (counted ∙ sym same) ∙ take-append_seam xs (drop (length xs) ys)

-- the jobs were done
module _ {D E X : Type 0} {e : DiskGhosts E} where
  pub did_fill : (rows : ℕ) (opener : OpenerState) (cause : Option TextCause) (j after : Journal E e) (js js' : List (Job (StoredState D))) (done : Result (Journal E e) X) → done ≡ Ok after → cause ≡ opener.cause
      → (is_ok done ≡ true → KnowsEach (λ (o : OpenerState) (t : StoredState D). LeavesCause o.cause (text_faults t)) opener js js')
      → IfOk done (λ n. HasIngested text_left (plan_of rows j) js js' j n) → IfOk done (λ n. HaveCauses text_left text_name text_faults (plan_of rows j) j n js js') → (is_ok done ≡ true → AreFullInTurn text_left (plan_of rows j) j js js') → DidFill rows cause j after js js'
  did_fill rows opener cause j after js js' done is same known ingested causes in_turn =
      let good : is_ok done ≡ true = ap is_ok is in
      inl (record {
        ingested = subst (λ (r : Result (Journal E e) X). IfOk r (λ n. HasIngested text_left (plan_of rows j) js js' j n)) is ingested;
        causes = subst (λ (r : Result (Journal E e) X). IfOk r (λ n. HaveCauses text_left text_name text_faults (plan_of rows j) j n js js')) is causes;
        in_turn = in_turn good;
        known = known_by opener cause js js' same (known good);
      })

module _ {D E : Type 0} {e : DiskGhosts E} where
  pub did_counted : (rows : ℕ) (cause : Option TextCause) (j after : Journal E e) (js js' : List (Job (StoredState D))) → DidFill rows cause j after js js' → length js' ≡ length js
  did_counted rows cause j after js js' (inl filled) = filled.ingested.stored.counted
  did_counted rows cause j after js js' (inr none) = none.jobs.counted

-- why the texts could not be had to their end
pub read_ends : {D : Type 0} (state : D → DiskState) (lent : LentDisk) (name : ℕ) (disk : D) (a : Shown) (last : ℕ) → last ≡ a.end - 1 → HasLastGate lent.disk.seen a → (cause : Option TextCause) → IsRead state lent cause name disk → IfSome (option_map (stop_by last) cause) (EndsTexts lent.disk (state disk))
read_ends state lent name disk a last same gate None read = tt
read_ends state lent name disk a last same gate (Some TextCause.DiskFault) read = read.counts.failed refl
read_ends state lent name disk a last same gate (Some TextCause.Damaged) read = refused_last lent.disk.seen a last same gate (λ bytes is. none_of lent.disk.seen bytes is (read.damaged refl))
  where
    none_of : (told : Option (List ℕ)) (bytes : List ℕ) → told ≡ Some bytes → IfSome told StandsForNone → StandsForNone bytes
    none_of None bytes is none = absurd (cc (is))
    none_of (Some b) bytes is none = subst StandsForNone (cc (is)) none
read_ends state lent name disk a last same gate (Some TextCause.OutOfMemory) read = tt
read_ends state lent name disk a last same gate (Some TextCause.Refused) read = absurd (read.own refl)

pub read_later : {D : Type 0} (state : D → DiskState) (lent : LentDisk) (name : ℕ) (disk : D) (cause : Option TextCause) → IsRead state lent cause name disk → lent.disk.faults ≤ (state disk).faults
read_later state lent name disk cause read = read.counts.later

-- no new archive was made
pub none_made : (header : Header) (old new : DiskState) (result : Result Unit CreateRefusal) (why : CreateRefusal) → result ≡ Err why → CreateLeaves result header old new → MakesNone old new (upgrade_from_create why)
none_made header old new result CreateRefusal.DiskFault is leaves = subst (λ (r : Result Unit CreateRefusal). CreateLeaves r header old new) is leaves
none_made header old new result (CreateRefusal.NotEmpty len) is leaves = subst (λ (r : Result Unit CreateRefusal). CreateLeaves r header old new) is leaves

-- the disk of a journal that goes on
pub disk_goes : (old new : JournalState) → HasGoneOn old new → DiskGoesOn old.disk new.disk
disk_goes old new goes = record { counts = goes.counts; tells = goes.tells; moments = goes.moments }

-- ---- not all names were registered

some_left : {A : Type 0} (xs : List A) (n : ℕ) → n < length xs → drop n xs ≢ []
some_left xs n low none = omega (arith, low, ap length (take-append-drop n xs), length-append (take n xs) (drop n xs), ap length none, short n xs)
  where
    short : {A : Type 0} (n : ℕ) (xs : List A) → length (take n xs) ≤ n
    short zero xs = omega arith
    short (suc n) [] = omega arith
    short (suc n) (x ∷ xs) = omega (arith, short n xs)

module _ {E : Type 0} {e : DiskGhosts E} (a : Shown) (old second : DiskState) (opens : Opens old.seen a) (j after : Journal E e) (new : IsNewJournal (state_of j)) (made : MakesEmpty j.header second (state_of j).disk)
    (tells : is_some (state_of j).disk.seen ≡ is_some second.seen) (later : second.clock ≤ (state_of j).disk.clock) (steady : (state_of j).disk.faults ≡ second.faults) (law : IsLawful (state_of j).disk)
    (why : RegisterRefusal) (count : ℕ) (named : AreNamed 0 (names_of a.files) count (Some why) (state_of j) (state_of after)) where
  abbrev refusal : UpgradeRefusal
  refusal = upgrade_from_register why

  refused_cause : (w : RegisterRefusal) → HasNamesCause (names_of a.files) count (state_of j) (state_of after) w → NamedNotAll second (state_of after).disk (upgrade_from_register w)
  refused_cause RegisterRefusal.OutOfMemory cause = tt
  refused_cause (RegisterRefusal.ArchiveFull end need) cause = tt
  refused_cause RegisterRefusal.DiskFault cause = subst (λ n. Rose n (state_of after).disk.faults) steady cause

  -- the journal's entries are the records of names
  entries_of : (w : RegisterRefusal) → why ≡ w → w ≢ RegisterRefusal.DiskFault → is_some (state_of j).disk.seen ≡ true → told_entries (state_of after) ≡ named.naming
  entries_of w same spared told =
      of_told (is_some (state_of j).disk.seen) told (named.done (λ is. spared (sym same ∙ some_is is))).entries ∙ ap (λ es. es ++ named.naming) new.entries
    where
      some_is : {x y : RegisterRefusal} → Some x ≡ Some y → x ≡ y
      some_is e = cc (e)

  lacks_room : (w : RegisterRefusal) → why ≡ w → HasNamesCause (names_of a.files) count (state_of j) (state_of after) w → LacksRoomFor second.seen j.header named.naming (drop count (names_of a.files)) (upgrade_from_register w)
  lacks_room RegisterRefusal.OutOfMemory same cause = tt
  lacks_room (RegisterRefusal.ArchiveFull end need) same cause = (end_told second.seen (λ told. told), cause.1, cause.0)
    where
      end_told : (seen : Option (List ℕ)) → (is_some seen ≡ true → is_some second.seen ≡ true) → IfSome seen (λ _. end ≡ end_of j.header named.naming)
      end_told None on = tt
      end_told (Some bytes) on =
          let told : is_some (state_of j).disk.seen ≡ true = tells ∙ on refl in
          of_told (is_some (state_of j).disk.seen) told cause.2 ∙ ap (λ es. end_of j.header es) (entries_of (RegisterRefusal.ArchiveFull end need) same (λ e. cc (e)) told)
  lacks_room RegisterRefusal.DiskFault same cause = tt

  all_names : OfJournal old.seen (λ h es held. NamesSome second.seen j.header named.naming (map (λ f. f.name) (content_of held)) refusal)
  all_names = go old.seen opens
    where
      some : NamesSome second.seen j.header named.naming (names_of a.files) refusal
      some = record {
        done = take count (names_of a.files);
        left = drop count (names_of a.files);
        splits = sym (take-append-drop count (names_of a.files));
        some = some_left (names_of a.files) count (named.less (λ e. cc (e)));
        are = names_told named.naming (take count (names_of a.files)) named.are;
        room = lacks_room why refl (named.cause why refl);
      }

      names_counted : (fs : List File) → names_of (map counted fs) ≡ map (λ (f : File). f.name) fs
      names_counted [] = refl
      names_counted (f ∷ fs) = ap (λ ns. f.name ∷ ns) (names_counted fs)

      go : (seen : Option (List ℕ)) → Opens seen a → OfJournal seen (λ h es held. NamesSome second.seen j.header named.naming (map (λ f. f.name) (content_of held)) refusal)
      go None opened = tt
      go (Some bytes) opened = λ h es stood.
          let held = stood.legal.held in
          subst (λ ns. NamesSome second.seen j.header named.naming ns refusal) (ap names_of (opened h es stood).files ∙ names_counted (content_of held)) some

  pub names_first : NamesFirst j.header old second (state_of after).disk refusal
  names_first = record {
    cause = refused_cause why (named.cause why refl);
    named = named.naming;
    names = all_names;
    disk = from_new j.header second (state_of j).disk made tells later steady law (state_of after).disk (disk_goes (state_of j) (state_of after) named.goes) (λ from. LeavesJournal j.header [] named.naming from (state_of after).disk)
        (λ told. leaves_from j.header second (state_of j).disk made tells later steady law named.naming (state_of after).disk (leaves_as (left_told told)));
  }
    where
      left_told : is_some (state_of j).disk.seen ≡ true → LeavesEntries j.header [] named.naming (state_of j).disk (state_of after).disk
      left_told told = subst (λ es. LeavesEntries j.header es (es ++ named.naming) (state_of j).disk (state_of after).disk) new.entries (of_told (is_some (state_of j).disk.seen) told named.left)

      leaves_as : LeavesEntries j.header [] named.naming (state_of j).disk (state_of after).disk → LeavesJournal j.header [] named.naming (state_of j).disk (state_of after).disk
      leaves_as l = record { tail = l.tail; one = l.one; none = l.none; reads = l.reads; now = l.now; since = l.since }
