-- What became of a follower of the journal beside an ingest.
use Rattle.std.proofs.Common.{◌≡◌, ◌⊎◌, ◌+◌, inl, inr, refl, sym, ap, subst, ◌∙◌, ℕ, Bool, true, false, List, [], ◌∷◌, ◌++◌, length, arith, length-append}
use Rattle.std.specs.Prelude.{is_some}
use Rattle.log_seams.specs.declared.disk.Disk.{Ghosts as DiskGhosts}
use Rattle.log_seams.specs.Disk.{DiskState, IsLawful}
use Rattle.log_seams.specs.Outside.{Rose}
use Rattle.log_seams.proofs.MomentLemmas.{rose}
use Rattle.record_format.specs.declared.header.Header.{Header}
use Rattle.disk_journal.specs.declared.journal.Journal.{Journal}
use Rattle.disk_journal.specs.Journal.{state_of}
use Rattle.archive_meaning.specs.declared.entry.JournalEntry.{JournalEntry}
use Rattle.archive_meaning.specs.declared.entry.JournalEntry.TheVariants.{Files}
use Rattle.archive_meaning.specs.Stands.{StandsFor}
use Rattle.disk_seal.specs.Beside.{Follower, StandsOn}
use Rattle.disk_seal.specs.Told.{IfTold}
use Rattle.disk_seal.proofs.ToldLemmas.{told_both}
use Rattle.ingest_workers.specs.Beside.{MayBeginWith}
use Rattle.ingest_workers.proofs.FollowLemmas.{stands_longer}
use Rattle.ingest_workers.specs.Ingested.{IsAsItWas, told_entries}
use Rattle.command_refusals.specs.GoesOn.{DiskGoesOn}
use Rattle.command_answers.specs.Ingested.{FileOutcome, FromArchive, TakesIn}
use Rattle.write_commands.specs.Followed.{Follows, IsLed, RestsBeside, WentAlong}
use Rattle.file_outcomes.specs.JournalLeft.{AddsNamesTo, HasNames, HasTakenIn, TakesInto}
use Rattle.file_outcomes.specs.Naming.{HasGoneOn, HasNamesMore}
use Rattle.file_outcomes.proofs.LeavesLemmas.{counted, from_archive, of_told, stayed_entries}
use Rattle.file_outcomes.proofs.StepsLemmas.{Looked, no_more, same_bytes, takes_from, takes_looked}

-- ---- the journal with the names

module _ {F D : Type 0} {d : DiskGhosts D} where
  -- it may begin over a journal that has names more
  pub may_named : (f : Follower F) (names : List (List ℕ)) (j new : Journal D d) → HasNamesMore names (state_of j) (state_of new) → MayBeginWith f j → MayBeginWith f new
  may_named f names j new more may = record {
    within = omega (arith, may.within, more.count);
    stands = subst (λ (h : Header). IfTold (is_some (state_of new).disk.seen) (StandsOn f h (told_entries (state_of new)))) (sym more.header)
        (told_both (is_some (state_of new).disk.seen)
        (λ (is : told_entries (state_of new) ≡ told_entries (state_of j) ++ Files names ∷ []) (s : StandsOn f j.header (told_entries (state_of j))).
        subst (λ (l : List JournalEntry). StandsOn f j.header l) (sym is) (stands_longer f j.header (told_entries (state_of j)) (Files names ∷ []) s))
        more.entries (subst (λ (b : Bool). IfTold b (StandsOn f j.header (told_entries (state_of j)))) (sym more.tells) may.stands));
    running = may.running;
  }

  -- ---- nothing was begun

  pub rests_beside : {B : Type 0} (known : B → Follower F) (old new : B) → new ≡ old → (before after : Journal D d) → MayBeginWith (known old) before → IsAsItWas before after → RestsBeside (known old) (known new) before after
  rests_beside {B} known old new same before after may journal =
      subst (λ (x : B). RestsBeside (known old) (known x) before after) (sym same) (record { first = refl; fixed = refl; may = may; journal = journal })

  pub rests_same : (f : Follower F) (j : Journal D d) → MayBeginWith f j → WentAlong f f j j
  rests_same f j may = inr (record { first = refl; fixed = refl; may = may; journal = inl refl })

  -- ---- what it stands for at the end

  module _ (f g : Follower F) (j after : Journal D d) (tells : is_some (state_of after).disk.seen ≡ is_some (state_of j).disk.seen) where
    along_first : WentAlong f g j after → g.first ≡ f.first
    along_first (inl went) = went.first
    along_first (inr rests) = rests.first

    along_fixed : WentAlong f g j after → g.fixed ≡ f.fixed
    along_fixed (inl went) = went.fixed
    along_fixed (inr rests) = rests.fixed

    along_halted : WentAlong f g j after → g.halted ≡ true → Rose (state_of j).disk.faults (state_of after).disk.faults
    along_halted (inl went) halted = went.halted halted
    along_halted (inr rests) halted = absurd (cc (halted, rests.may.running))

    module _ {bytes : List ℕ} (rows : ℕ) (h : Header) (before : List JournalEntry) (stood : StandsFor bytes h before) (names : List (List ℕ)) (came : List FileOutcome) (has : HasNames h before names (state_of j))
        (taken : HasTakenIn rows h before stood names came (state_of j) (state_of after)) where
      abbrev now : List JournalEntry
      now = before ++ (Files names ∷ taken.takes.added)

      stands_now : WentAlong f g j after → StandsOn g h now
      stands_now (inl went) =
          subst (λ (x : Header). StandsOn g x now) has.header (subst (λ (l : List JournalEntry). StandsOn g j.header l) taken.entries (of_told (is_some (state_of j).disk.seen) has.told went.stands))
      stands_now (inr rests) =
          subst (λ (x : Header). StandsOn g x now) has.header (subst (λ (l : List JournalEntry). StandsOn g j.header l) (sym (stayed_entries j after rests.journal) ∙ taken.entries) (of_told (is_some (state_of j).disk.seen) has.told rests.may.stands))

      nothing_added : IsAsItWas j after → taken.takes.added ≡ []
      nothing_added stayed =
          let same : now ≡ before ++ Files names ∷ [] = sym taken.entries ∙ (stayed_entries j after stayed ∙ has.entries) in
          none_of taken.takes.added (omega (arith, ap length same, length-append before (Files names ∷ taken.takes.added), length-append before (Files names ∷ [])))
        where
          none_of : (es : List JournalEntry) → length es ≡ 0 → es ≡ []
          none_of [] none = refl
          none_of (e ∷ es) none = absurd (omega (arith, none))

      through_now : WentAlong f g j after → g.refused ≡ false → (g.first + g.handled ≡ length now) ⊎ (taken.takes.added ≡ [])
      through_now (inl went) runs =
          inl (went.through runs ∙ (sym (counted (state_of after).disk.seen after.count (tells ∙ has.told)) ∙ ap length taken.entries))
      through_now (inr rests) runs = inr (nothing_added rests.journal)

-- it is led so where the files are taken in with the same entries
led_with : {F : Type 0} (g : Follower F) {bytes : List ℕ} (rows : ℕ) (h : Header) (before : List JournalEntry) (stood : StandsFor bytes h before) (names : List (List ℕ)) (came : List FileOutcome) (old new : DiskState) (added : List JournalEntry)
    → (t : TakesIn rows h before stood names came old new) × (t.added ≡ added) → StandsOn g h (before ++ (Files names ∷ added)) → (g.refused ≡ false → (g.first + g.handled ≡ length (before ++ (Files names ∷ added))) ⊎ (added ≡ []))
    → IsLed g rows h before stood names came old new
led_with g rows h before stood names came old new added takes stands through = record {
  takes = takes.0;
  stands = subst (λ (l : List JournalEntry). StandsOn g h (before ++ (Files names ∷ l))) (sym takes.1) stands;
  through = λ runs. subst (λ (l : List JournalEntry). (g.first + g.handled ≡ length (before ++ (Files names ∷ l))) ⊎ (l ≡ [])) (sym takes.1) (through runs);
}

-- from the start of the call
pub follows_sooner : {F D : Type 0} {d : DiskGhosts D} (f g : Follower F) (j named after : Journal D d) → IsLawful (state_of j).disk → IsLawful (state_of named).disk → Looked (state_of j).disk (state_of j).disk (state_of j).disk → HasGoneOn j named → HasGoneOn named after
    → (rows : ℕ) (names : List (List ℕ)) (first : ℕ) (came : List FileOutcome)
    → FromArchive (state_of j).disk (λ h before bytes stood. AddsNamesTo h before stood names first (state_of j).disk (state_of named)) → TakesInto rows names first came (state_of named) (state_of after) → WentAlong f g named after
    → Follows f g rows names came (state_of j).disk (state_of after).disk
follows_sooner f g j named after law law_named looked goes more rows names first came added into along = record {
  first = along_first f g named after more.disk.tells along;
  fixed = along_fixed f g named after more.disk.tells along;
  halted = λ halts. rose (state_of j).disk.faults (state_of named).disk.faults (state_of after).disk.faults (state_of after).disk.faults goes.disk.counts (along_halted f g named after more.disk.tells along halts) (omega arith);
  led = from_archive (state_of j).disk (state_of j).disk (λ h before bytes stood. AddsNamesTo h before stood names first (state_of j).disk (state_of named)) (λ h before bytes stood. IsLed g rows h before stood names came (state_of j).disk (state_of after).disk) refl (λ c image. image)
      (λ h before bytes stood only adds.
      let taken = into h before bytes stood adds.has adds.number in
      led_with g rows h before stood names came (state_of j).disk (state_of after).disk taken.takes.added
      (takes_from (state_of j).disk (state_of j).disk (state_of j).disk looked h before bytes stood names first came (state_of named) (state_of after).disk law_named goes.disk.counts more.disk only adds taken.takes)
      (stands_now f g named after more.disk.tells rows h before stood names came adds.has taken along) (through_now f g named after more.disk.tells rows h before stood names came adds.has taken along))
      added;
}

-- from an earlier moment, since which the disk was only read
pub follows_looked : {F : Type 0} (f g : Follower F) (old mid late new : DiskState) (looked : Looked old mid late) → DiskGoesOn late new → (rows : ℕ) (names : List (List ℕ)) (came : List FileOutcome)
    → Follows f g rows names came late new → Follows f g rows names came old new
follows_looked f g old mid late new looked goes rows names came follows = record {
  first = follows.first;
  fixed = follows.fixed;
  halted = λ halts. rose old.faults late.faults new.faults new.faults looked.counts (follows.halted halts) (omega arith);
  led = from_archive old late (λ h before bytes stood. IsLed g rows h before stood names came late new) (λ h before bytes stood. IsLed g rows h before stood names came old new) (same_bytes old mid late looked) (no_more old mid late looked)
      (λ h before bytes stood only led. led_with g rows h before stood names came old new led.takes.added (takes_looked old mid late looked new goes h before bytes stood only names came led.takes) led.stands led.through)
      follows.led;
}
