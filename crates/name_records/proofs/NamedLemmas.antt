-- Names behind a journal: one group, and one after the other.
use Rattle.std.proofs.Common.{◌≡◌, ◌≢◌, ◌+◌, ◌≤◌, ◌<◌, inl, inr, refl, sym, ap, subst, ◌∙◌, ℕ, suc, Bool, true, false, List, [], ◌∷◌, ◌++◌, length, map, take, drop, get_or, Option, Some, None, arith, append-nil, append_assoc}
use Rattle.std.specs.Prelude.{Err, IsErrOf, Ok, OnOk, Result, is_some, replicate}
use Rattle.std.proofs.lemmas.List.{length-append, length-map}
use Rattle.std.proofs.Math.Decide.{dec_le}
use Rattle.std.proofs.Math.Logic.{dite}
use Rattle.std.proofs.Math.Nat.{lt_of_not-le}
use Rattle.std.proofs.Math.Seq.{take-suc}
use Rattle.std.proofs.Math.ListN.{get_or-map}
use Rattle.log_seams.specs.Disk.{DiskState, IsLawful, LeavesOnly}
use Rattle.log_seams.specs.Outside.{Rose}
use Rattle.log_seams.specs.declared.disk.Disk.{Ghosts as DiskGhosts}
use Rattle.disk_journal.specs.declared.journal.Journal.{Journal}
use Rattle.disk_journal.specs.Journal.{state_of}
use Rattle.log_seams.proofs.MomentLemmas.{joined, started, weaker}
use Rattle.record_format.specs.declared.header.Header.{Header}
use Rattle.record_format.specs.Header.{IsHeader, header_bytes}
use Rattle.disk_journal.specs.Record.{Saved, Stands}
use Rattle.disk_journal.specs.Place.{Added, BeforeOrAfter, entries}
use Rattle.disk_journal.specs.State.{JournalState}
use Rattle.disk_journal.specs.Calls.{GoesOn, IsPast, LeavesBeforeOrAfter, StaysAt}
use Rattle.disk_journal.proofs.SpellingLemmas.{length-frame}
use Rattle.archive_meaning.specs.declared.TheConstants.{MAX_NAMES}
use Rattle.archive_meaning.specs.declared.entry.JournalEntry.{JournalEntry}
use Rattle.archive_meaning.specs.declared.entry.JournalEntry.TheVariants.{Files, Segment, Types, Words}
use Rattle.archive_meaning.specs.Held.{Held, nothing_held}
use Rattle.archive_meaning.specs.Spelled.{end_of, record_of, records_of, types_of}
use Rattle.archive_meaning.specs.Stands.{IsLegal}
use Rattle.archive_meaning.specs.Sums.{AddsNames, Admits, AreSums, Sums, end_with as Sums_end_with, no_messages, sums_from}
use Rattle.archive_meaning.proofs.JudgeLemmas.{admitted, end_more, same_types}
use Rattle.archive_meaning.proofs.RunLemmas.{one_held, runs_split}
use Rattle.archive_meaning.proofs.SumsLemmas.{length-sums}
use Rattle.archive_meaning.proofs.UniqueLemmas.{records_joined}
use Rattle.ingest_meaning.specs.Room.{files_record, files_size}
use Rattle.disk_seal.specs.Opening.{MayOpen}
use Rattle.disk_seal.specs.Registered.{HasRegistered, HoldsNames, IsFullFor}
use Rattle.disk_seal.specs.Told.{IfTold, journal_in}
use Rattle.ingest_meaning.specs.declared.refusal.RegisterRefusal.{RegisterRefusal}
use Rattle.ingest_meaning.specs.declared.refusal.RegisterRefusal.TheVariants.{ArchiveFull, DiskFault, OutOfMemory}
use Rattle.disk_seal.proofs.NextLemmas.{gate_at}
use Rattle.disk_seal.proofs.OpenLemmas.{journal_is}
use Rattle.disk_seal.proofs.ToldLemmas.{told_map}
use Rattle.ingest_workers.specs.Ingested.{told_entries}
use Rattle.name_records.specs.Left.{HasGoneOn, LeavesEntries, StandsBetween, StandsForOr}
use Rattle.name_records.specs.Named.{AreNamed, AreNamesOf, HasNames, HasNamesCause}
use Rattle.name_records.specs.StepsNamed.{MayBeNamed}
use Rattle.name_records.proofs.LeftLemmas.{between_front, between_later, by_told, either_between, either_left, goes_nowhere, goes_then, images_stand, left_later, of_told, prefix_same}

-- ---- texts

-- the texts of some first names, and of one more
pub texts_next : {A : Type 0} (f : A → List ℕ) (names : List A) (i : ℕ) (name : A) (text : List ℕ) (texts more : List (List ℕ)) → i < length names → name ≡ get_or names i name → text ≡ f name
    → texts ≡ take i (map f names) → more ≡ texts ++ text ∷ [] → more ≡ take (i + 1) (map f names)
texts_next f names i name text texts more within is asks before pushed =
    let next_is : i + 1 ≡ suc i = omega arith in
    let next : take (i + 1) (map f names) ≡ take i (map f names) ++ text ∷ [] =
    ap (λ n. take n (map f names)) next_is ∙ take-suc (map f names) i (f name) (omega (arith, within, length-map names f))
    ∙ ap (λ w. take i (map f names) ++ w ∷ []) (get_or-map f names i name ∙ ap f (sym is) ∙ sym asks) in
    pushed ∙ ap (λ ts. ts ++ text ∷ []) before ∙ sym next

-- ---- a legal journal with names more

names_legal : (h : Header) (header : IsHeader h) (es : List JournalEntry) (names : List (List ℕ)) (legal : IsLegal h es) → AddsNames (length legal.held.names) names → end_of h (es ++ Files names ∷ []) ≤ h.length_limit → IsLegal h (es ++ Files names ∷ [])
names_legal h header es names legal adds short =
    let sums : Sums = record { header = h; types = legal.held.types; words = legal.held.words; files = sums_from 0 legal.held.names legal.held.pieces; end = end_of h es } in
    let are : AreSums sums es = record { header = header; held = legal.held; run = legal.run; named = legal.named; types = refl; words = refl; files = refl; end = refl; short = legal.short } in
    let more : Sums = record sums { files = sums.files ++ replicate (length names) no_messages; end = Sums_end_with sums (Files names) } in
    let types : types_of es ≡ sums.types = sym (same_types sums es are) in
    let end : end_of h (es ++ Files names ∷ []) ≡ end_of h es + 10 + length (record_of (types_of es) (Files names)).payload = end_more h es (Files names) in
    let admits : Admits sums (Files names) more = ((subst (λ n. AddsNames n names) (sym (length-sums 0 legal.held.names legal.held.pieces)) adds, refl), omega (arith, end, short)) in
    let all : AreSums more (es ++ Files names ∷ []) = admitted sums more es (Files names) are admits in
    record { held = all.held; run = all.run; named = all.named; short = subst (λ n. n ≤ h.length_limit) (sym end) (omega (arith, end, short)) }

-- it holds the names behind those of before
names_held : (h : Header) (es : List JournalEntry) (names : List (List ℕ)) (legal : IsLegal h es) (more : IsLegal h (es ++ Files names ∷ [])) → more.held.names ≡ legal.held.names ++ names
names_held h es names legal more =
    let split = runs_split h nothing_held more.held es (Files names ∷ []) more.run in
    let same : split.0 ≡ legal.held = one_held h nothing_held split.0 legal.held es split.1 legal.run in
    let mid = split.2 in
    ap (λ (x : Held). x.names) (mid.2 ∙ mid.1) ∙ ap (λ (x : Held). x.names ++ names) same

-- ---- one group

module _ (h : Header) (header : IsHeader h) (names : List (List ℕ)) (held place : ℕ) where
  -- the journal with the names is legal, where they fit
  group_legal : (told : Option (List ℕ)) (count : ℕ) → IfTold (is_some told) (IsLegal h (journal_in told count)) → IfTold (is_some told) ((legal : IsLegal h (journal_in told count)) → held ≡ length legal.held.names)
      → AddsNames held names → IfTold (is_some told) (place + 1 ≡ end_of h (journal_in told count)) → place + 1 + files_size names ≤ h.length_limit → IfTold (is_some told) (IsLegal h (journal_in told count ++ Files names ∷ []))
  group_legal None count legal holds adds gate fits = tt
  group_legal (Some b) count legal holds adds gate fits =
      let es = journal_in (Some b) count in
      let end : end_of h (es ++ Files names ∷ []) ≡ end_of h es + 10 + length (record_of (types_of es) (Files names)).payload = end_more h es (Files names) in
      let long : files_size names ≡ 10 + length (files_record names).payload = length-frame (files_record names) in
      names_legal h header es names legal (subst (λ n. AddsNames n names) (holds legal) adds) (omega (arith, end, long, gate, fits))

  -- it is what the bytes are told to hold
  group_entries : (told now : Option (List ℕ)) (count more : ℕ) → is_some now ≡ is_some told → Added told count (files_record names ∷ []) now more → entries told count ≡ records_of (journal_in told count)
      → IfTold (is_some told) (IsLegal h (journal_in told count ++ Files names ∷ [])) → IfTold (is_some told) (journal_in now more ≡ journal_in told count ++ Files names ∷ [])
  group_entries None now count more same added spelled legal = tt
  group_entries (Some b) None count more same added spelled legal = absurd (cc (same))
  group_entries (Some b) (Some c) count more same added spelled legal =
      let es = journal_in (Some b) count in
      journal_is h header (es ++ Files names ∷ []) (Some c) more (added ∙ (ap (λ (l : List Saved). l ++ files_record names ∷ []) spelled ∙ sym (records_joined [] es (Files names ∷ []))), legal)

  -- an image stands for the journal, or for it and the names
  group_either : (told : Option (List ℕ)) (count : ℕ) (c : List ℕ) → entries told count ≡ records_of (journal_in told count) → IfTold (is_some told) (IsLegal h (journal_in told count)) → IfTold (is_some told) (IsLegal h (journal_in told count ++ Files names ∷ []))
      → BeforeOrAfter (header_bytes h) told count (files_record names) c → IfTold (is_some told) (StandsForOr h (journal_in told count) (Files names ∷ []) c)
  group_either None count c spelled legal more left = tt
  group_either (Some b) count c spelled legal more (inl stands) = inl (record { header = header; legal = legal; stands = subst (λ rs. Stands (header_bytes h) rs c) spelled stands })
  group_either (Some b) count c spelled legal more (inr stands) =
      inr (record {
        header = header;
        legal = more;
        stands = subst (λ rs. Stands (header_bytes h) rs c) (ap (λ (l : List Saved). l ++ files_record names ∷ []) spelled ∙ sym (records_joined [] (journal_in (Some b) count) (Files names ∷ []))) stands;
      })

-- names that a journal holds, where its entries are those of before and the names
holds_more : (b : Bool) (h g : Header) (es fs : List JournalEntry) (names : List (List ℕ)) (held : ℕ) → g ≡ h → IfTold b (IsLegal h es) → IfTold b ((legal : IsLegal h es) → held ≡ length legal.held.names) → IfTold b (fs ≡ es ++ Files names ∷ [])
    → IfTold b ((legal : IsLegal g fs) → held + length names ≡ length legal.held.names)
holds_more false h g es fs names held same legal holds are = tt
holds_more true h g es fs names held same legal holds are = λ now.
    let more : IsLegal h (es ++ Files names ∷ []) = subst (IsLegal h) are (subst (λ x. IsLegal x fs) same now) in
    let here : held + length names ≡ length more.held.names = omega (arith, holds legal, ap length (names_held h es names legal more), length-append legal.held.names names) in
    here ∙ count_same h g (es ++ Files names ∷ []) fs (sym same) (sym are) more now
  where
    count_same : (h g : Header) (es fs : List JournalEntry) → h ≡ g → es ≡ fs → (a : IsLegal h es) (b : IsLegal g fs) → length a.held.names ≡ length b.held.names
    count_same h g es fs p q a b =
        subst (λ x. (b : IsLegal x fs) → length a.held.names ≡ length b.held.names) p
        (subst (λ l. (b : IsLegal h l) → length a.held.names ≡ length b.held.names) q (λ b. ap (λ (x : Held). length x.names) (one_held h nothing_held a.held b.held es a.run b.run))) b

module _ (old new : JournalState) (held : ℕ) (names : List (List ℕ)) (may : MayBeNamed held names old) (goes : GoesOn old new) (moments : LeavesBeforeOrAfter (files_record names) old new) where
  fits_legal : old.place + 1 + files_size names ≤ old.header.length_limit → IfTold (is_some old.disk.seen) (IsLegal old.header (told_entries old ++ Files names ∷ []))
  fits_legal fits =
      group_legal old.header may.opens.header names held old.place old.disk.seen old.count may.opens.legal may.holds may.adds
      (gate_at old.header old.disk.seen old.place old.count old.disk.images may.opens.ends.ends may.opens.spelled) fits

  -- each image stands for the journal, or for it and the names
  pub group_under : old.place + 1 + files_size names ≤ old.header.length_limit → LeavesOnly old.disk new.disk (λ c. IfTold (is_some old.disk.seen) (StandsForOr old.header (told_entries old) (Files names ∷ []) c))
  group_under fits =
      weaker old.disk new.disk (BeforeOrAfter (header_bytes old.header) old.disk.seen old.count (files_record names)) (λ c. IfTold (is_some old.disk.seen) (StandsForOr old.header (told_entries old) (Files names ∷ []) c)) moments
      (λ c left. group_either old.header may.opens.header names held old.place old.disk.seen old.count c may.opens.spelled may.opens.legal (fits_legal fits) left)

  -- where the disk was left alone, it stands for the journal
  pub group_alone : IsLawful old.disk → new.disk ≡ old.disk → LeavesOnly old.disk new.disk (λ c. IfTold (is_some old.disk.seen) (StandsForOr old.header (told_entries old) (Files names ∷ []) c))
  group_alone law same =
      subst (λ (x : DiskState). LeavesOnly old.disk x (λ c. IfTold (is_some old.disk.seen) (StandsForOr old.header (told_entries old) (Files names ∷ []) c))) (sym same)
      (started old.disk (λ c. IfTold (is_some old.disk.seen) (StandsForOr old.header (told_entries old) (Files names ∷ []) c)) law
      (λ c image. told_map (is_some old.disk.seen) (λ stands. inl stands) (images_stand old may.opens c image)))

  -- the names were added
  pub group_named : new.disk.faults ≡ old.disk.faults → HasRegistered held names old new → HasNames held names (Files names ∷ []) old new
  group_named steady registered = record {
    name = goes.name;
    header = goes.header;
    tells = goes.tells;
    steady = steady;
    are = (may.adds.some, may.adds.few, ([], sym (append-nil names), refl));
    opens = registered.opens may.opens may.holds;
    holds = subst (λ b. IfTold b ((legal : IsLegal new.header (told_entries new)) → held + length names ≡ length legal.held.names)) (sym goes.tells)
        (holds_more (is_some old.disk.seen) old.header new.header (told_entries old) (told_entries new) names held goes.header may.opens.legal may.holds are);
    entries = are;
    past = weaker old.disk new.disk _ (λ c. IfTold (is_some old.disk.seen) (StandsBetween old.header (told_entries old) (told_entries old ++ Files names ∷ []) c)) (group_under registered.fits)
        (λ c. told_map (is_some old.disk.seen) (either_between old.header (told_entries old) (told_entries old) (Files names ∷ []) c (prefix_same (told_entries old))));
  }
    where
      are : IfTold (is_some old.disk.seen) (told_entries new ≡ told_entries old ++ Files names ∷ [])
      are = group_entries old.header may.opens.header names held old.place old.disk.seen new.disk.seen old.count new.count goes.tells registered.added.added may.opens.spelled (fits_legal registered.fits)

  pub group_goes : old.disk.faults ≤ new.disk.faults → HasGoneOn old new
  group_goes counts = record {
    name = goes.name;
    header = goes.header;
    counts = counts;
    tells = goes.tells;
    moments = weaker old.disk new.disk _ (λ _. Unit {0}) moments (λ c left. tt);
  }

  -- a call of the disk failed
  pub group_failed : IsLawful old.disk → (IsPast (files_size names) old → new.disk ≡ old.disk) → LeavesOnly old.disk new.disk (λ c. IfTold (is_some old.disk.seen) (StandsForOr old.header (told_entries old) (Files names ∷ []) c))
  group_failed law past =
      dite (dec_le (old.place + 1 + files_size names) old.header.length_limit)
      (λ fits. group_under fits)
      (λ far. group_alone law (past (lt_of_not-le far)))

-- the journal that stays where it was over an untouched disk is the same
pub unchanged : {D : Type 0} {d : DiskGhosts D} (before after : Journal D d) → HasGoneOn (state_of before) (state_of after) → after.disk ≡ before.disk → StaysAt (state_of before) (state_of after) → state_of after ≡ state_of before
unchanged {D} {d} before after goes disk stays =
    λ i. record { name = goes.name i; disk = d.state (disk i).now; header = goes.header i; place = stays.place i; count = stays.count i; closed = stays.closed i }

-- ---- an answer that is a refusal

pub nothing_ok : {T E : Type 0} (P : Type 0) (result : Result T E) (e : E) → result ≡ Err e → OnOk result P
nothing_ok P (Ok x) e is = absurd (cc (is))
nothing_ok P (Err y) e is = tt

pub left_alone : {A P : Type 0} (result : Result A RegisterRefusal) (why : RegisterRefusal) → (IsErrOf result OutOfMemory → P) → ((end need : ℕ) → IsErrOf result (ArchiveFull end need) → P) → IsErrOf result why → why ≢ DiskFault → P
left_alone result OutOfMemory memory full is spared = memory is
left_alone result (ArchiveFull end need) memory full is spared = full end need is
left_alone result DiskFault memory full is spared = absurd (spared refl)

-- ---- one after the other

names_joined : (es fs : List JournalEntry) (names more : List (List ℕ)) → AreNamesOf es names → AreNamesOf fs more → AreNamesOf (es ++ fs) (names ++ more)
names_joined [] fs names more a b = subst (λ ns. AreNamesOf fs (ns ++ more)) (sym a) b
names_joined (Files some ∷ es) fs names more a b =
    let rest = a.2 in
    (a.0, a.1, (rest.0 ++ more, ap (λ l. l ++ more) rest.1 ∙ append_assoc some rest.0 more, names_joined es fs rest.0 more rest.2 b))
names_joined (Types first texts ∷ es) fs names more a b = absurd a
names_joined (Words first texts ∷ es) fs names more a b = absurd a
names_joined (Segment s ∷ es) fs names more a b = absurd a

-- before the first group
pub no_names : (first : ℕ) (j : JournalState) → IsLawful j.disk → MayOpen j → HoldsNames first j → HasNames first [] [] j j
no_names first j law may holds = record {
  name = refl;
  header = refl;
  tells = refl;
  steady = refl;
  are = refl;
  opens = may;
  holds = let same : first ≡ first + 0 = omega arith in subst (λ n. HoldsNames n j) same holds;
  entries = told_map (is_some j.disk.seen) (λ (u : Unit {0}). sym (append-nil (told_entries j))) (by_told (is_some j.disk.seen) (λ told. tt));
  past = started j.disk (λ c. IfTold (is_some j.disk.seen) (StandsBetween j.header (told_entries j) (told_entries j ++ []) c)) law
      (λ c image. told_map (is_some j.disk.seen) (λ stands. (told_entries j, prefix_same (told_entries j), ([], append-nil (told_entries j) ∙ sym (append-nil (told_entries j))), stands)) (images_stand j may c image));
}

module _ (first : ℕ) (names : List (List ℕ)) (naming : List JournalEntry) (old mid : JournalState) (had : HasNames first names naming old mid) where
  told_mid : is_some old.disk.seen ≡ true → is_some mid.disk.seen ≡ true
  told_mid told = had.tells ∙ told

  mid_are : is_some old.disk.seen ≡ true → told_entries mid ≡ told_entries old ++ naming
  mid_are told = of_told (is_some old.disk.seen) told had.entries

  pub past_told : is_some old.disk.seen ≡ true → LeavesOnly old.disk mid.disk (StandsBetween old.header (told_entries old) (told_entries old ++ naming))
  past_told told = weaker old.disk mid.disk _ (StandsBetween old.header (told_entries old) (told_entries old ++ naming)) had.past (λ c. of_told (is_some old.disk.seen) told)

  -- names behind names
  pub names_then : (more : List (List ℕ)) (added : List JournalEntry) (new : JournalState) → IsLawful new.disk → HasNames (first + length names) more added mid new → HasNames first (names ++ more) (naming ++ added) old new
  names_then more added new law has = record {
    name = has.name ∙ had.name;
    header = has.header ∙ had.header;
    tells = has.tells ∙ had.tells;
    steady = has.steady ∙ had.steady;
    are = names_joined naming added names more had.are has.are;
    opens = has.opens;
    holds = let same : first + length names + length more ≡ first + length (names ++ more) = omega (arith, length-append names more) in subst (λ n. HoldsNames n new) same has.holds;
    entries = by_told (is_some old.disk.seen) (λ told.
        of_told (is_some mid.disk.seen) (told_mid told) has.entries ∙ (ap (λ l. l ++ added) (mid_are told) ∙ append_assoc (told_entries old) naming added));
    past = joined old.disk mid.disk new.disk _ _ (λ c. IfTold (is_some old.disk.seen) (StandsBetween old.header (told_entries old) (told_entries old ++ (naming ++ added)) c)) law had.past has.past
        (λ c. told_map (is_some old.disk.seen) (between_front old.header (told_entries old) (told_entries old ++ naming) (told_entries old ++ (naming ++ added)) c (added, append_assoc (told_entries old) naming added)))
        (λ c left. by_told (is_some old.disk.seen) (λ told. later told c (of_told (is_some mid.disk.seen) (told_mid told) left)));
  }
    where
      later : is_some old.disk.seen ≡ true → (c : List ℕ) → StandsBetween mid.header (told_entries mid) (told_entries mid ++ added) c → StandsBetween old.header (told_entries old) (told_entries old ++ (naming ++ added)) c
      later told c between =
          let here : StandsBetween old.header (told_entries old ++ naming) ((told_entries old ++ naming) ++ added) c
          = subst (λ h. StandsBetween h (told_entries old ++ naming) ((told_entries old ++ naming) ++ added) c) had.header (subst (λ es. StandsBetween mid.header es (es ++ added) c) (mid_are told) between) in
          between_later old.header (told_entries old) (told_entries old ++ naming) (told_entries old ++ (naming ++ added)) c (naming, refl)
          (subst (λ es. StandsBetween old.header (told_entries old ++ naming) es c) (append_assoc (told_entries old) naming added) here)

  -- what is left where names were added and then more
  pub left_behind : (new : JournalState) (fresh : List JournalEntry) → HasGoneOn mid new → IfTold (is_some mid.disk.seen) (LeavesEntries mid.header (told_entries mid) (told_entries mid ++ fresh) mid.disk new.disk)
      → IfTold (is_some old.disk.seen) (LeavesEntries old.header (told_entries old) (told_entries old ++ (naming ++ fresh)) old.disk new.disk)
  left_behind new fresh goes left = by_told (is_some old.disk.seen) (λ told.
      let all = told_entries old ++ naming in
      let here : LeavesEntries old.header all (all ++ fresh) mid.disk new.disk
      = subst (λ h. LeavesEntries h all (all ++ fresh) mid.disk new.disk) had.header (subst (λ es. LeavesEntries mid.header es (es ++ fresh) mid.disk new.disk) (mid_are told) (of_told (is_some mid.disk.seen) (told_mid told) left)) in
      subst (λ es. LeavesEntries old.header (told_entries old) es old.disk new.disk) (append_assoc (told_entries old) naming fresh)
      (left_later old.header (told_entries old) all (all ++ fresh) old.disk mid.disk new.disk (past_told told) (naming, refl) (fresh, refl) had.steady goes.moments here))

  -- and where nothing more was
  pub names_left : IsLawful mid.disk → IfTold (is_some old.disk.seen) (LeavesEntries old.header (told_entries old) (told_entries old ++ naming) old.disk mid.disk)
  names_left law =
      subst (λ ns. IfTold (is_some old.disk.seen) (LeavesEntries old.header (told_entries old) (told_entries old ++ ns) old.disk mid.disk)) (append-nil naming)
      (left_behind mid [] (goes_nowhere mid law) (by_told (is_some mid.disk.seen) (λ told.
      subst (λ es. LeavesEntries mid.header (told_entries mid) es mid.disk mid.disk) (sym (append-nil (told_entries mid)))
      (either_left mid.header (told_entries mid) [] mid.disk mid.disk law (omega arith) (λ steady. refl)
      (started mid.disk (StandsForOr mid.header (told_entries mid) []) law (λ c image. inl (of_told (is_some mid.disk.seen) told (images_stand mid had.opens c image))))))))

  pub names_goes : HasGoneOn old mid
  names_goes = record { name = had.name; header = had.header; counts = omega (arith, had.steady); tells = had.tells; moments = weaker old.disk mid.disk _ (λ _. Unit {0}) had.past (λ c left. tt) }

  -- a group more was refused
  pub group_refused : (group : List (List ℕ)) (new : JournalState) → IsLawful new.disk → (why : RegisterRefusal) → HasGoneOn mid new → (why ≢ DiskFault → new ≡ mid) → ((end need : ℕ) → why ≡ ArchiveFull end need → IsFullFor group end need mid)
      → (why ≡ DiskFault → Rose mid.disk.faults new.disk.faults) → (why ≡ DiskFault → LeavesOnly mid.disk new.disk (λ c. IfTold (is_some mid.disk.seen) (StandsForOr mid.header (told_entries mid) (Files group ∷ []) c)))
      → (all : List (List ℕ)) (count : ℕ) → count < length all → names ≡ take count all → group ≡ take MAX_NAMES (drop count all) → AreNamed first all count (Some why) old new
  group_refused group new law why goes same full fault under all count less are next = record {
    within = omega (arith, less);
    all = λ none. absurd (cc (none));
    less = λ some. less;
    goes = goes_then old mid new law names_goes goes;
    naming = naming;
    are = subst (AreNamesOf naming) are had.are;
    left = left why refl;
    done = λ spared. subst (λ ns. HasNames first ns naming old new) are (subst (HasNames first names naming old) (sym (same (λ e. spared (ap Some e)))) had);
    cause = λ cause is. subst (HasNamesCause all count old new) (some_is is) (caused why refl);
  }
    where
      some_is : {a b : RegisterRefusal} → Some a ≡ Some b → a ≡ b
      some_is e = cc (e)

      same_left : (e : RegisterRefusal) → why ≡ e → e ≢ DiskFault → IfTold (is_some old.disk.seen) (LeavesEntries old.header (told_entries old) (told_entries old ++ naming) old.disk new.disk)
      same_left e was spared =
          let as_it_was : new ≡ mid = same (λ d. spared (sym was ∙ d)) in
          subst (λ (x : JournalState). IfTold (is_some old.disk.seen) (LeavesEntries old.header (told_entries old) (told_entries old ++ naming) old.disk x.disk)) (sym as_it_was)
          (names_left (subst (λ (x : JournalState). IsLawful x.disk) as_it_was law))

      left : (e : RegisterRefusal) → why ≡ e → IfTold (is_some old.disk.seen) (LeavesEntries old.header (told_entries old) (told_entries old ++ naming) old.disk new.disk)
      left OutOfMemory was = same_left OutOfMemory was (λ e. cc (e))
      left (ArchiveFull end need) was = same_left (ArchiveFull end need) was (λ e. cc (e))
      left DiskFault was =
          subst (λ ns. IfTold (is_some old.disk.seen) (LeavesEntries old.header (told_entries old) (told_entries old ++ ns) old.disk new.disk)) (append-nil naming)
          (left_behind new [] goes (by_told (is_some mid.disk.seen) (λ told.
          subst (λ es. LeavesEntries mid.header (told_entries mid) es mid.disk new.disk) (sym (append-nil (told_entries mid)))
          (either_left mid.header (told_entries mid) (Files group ∷ []) mid.disk new.disk law (omega arith) (λ steady. absurd (steady (fault was)))
          (weaker mid.disk new.disk _ (StandsForOr mid.header (told_entries mid) (Files group ∷ [])) (under was) (λ c. of_told (is_some mid.disk.seen) told))))))

      caused : (e : RegisterRefusal) → why ≡ e → HasNamesCause all count old new e
      caused OutOfMemory was = tt
      caused (ArchiveFull end need) was =
          let is : IsFullFor group end need mid = full end need was in
          let as_it_was : new ≡ mid = same (λ d. cc (was, d)) in (
            subst (λ h. h.length_limit < end + need) had.header is.past,
            is.needs ∙ ap files_size next,
            by_told (is_some old.disk.seen) (λ told.
                is.ends ∙ (of_told (is_some mid.disk.seen) (told_mid told) (gate_at mid.header mid.disk.seen mid.place mid.count mid.disk.images had.opens.ends.ends had.opens.spelled)
                ∙ (ap (λ h. end_of h (told_entries mid)) had.header ∙ ap (λ (x : JournalState). end_of old.header (told_entries x)) (sym as_it_was)))),
          )
      caused DiskFault was = subst (λ n. Rose n new.disk.faults) had.steady (fault was)

  -- all groups were named
  pub all_named : IsLawful mid.disk → (all : List (List ℕ)) (count : ℕ) → count ≡ length all → names ≡ take count all → AreNamed first all count None old mid
  all_named law all count whole are = record {
    within = omega (arith, whole);
    all = λ none. whole;
    less = λ some. absurd (some refl);
    goes = names_goes;
    naming = naming;
    are = subst (AreNamesOf naming) are had.are;
    left = names_left law;
    done = λ spared. subst (λ ns. HasNames first ns naming old mid) are had;
    cause = λ why same. absurd (cc (same));
  }
