-- A reader beside an ingest: when it may begin, and how it has ended.
use Rattle.std.proofs.Common.{◌≡◌, ◌≢◌, ◌≤◌, refl, sym, ap, subst, ◌∙◌, ℕ, true, List, [], length, take, drop, Option, None, Some, arith}
use Rattle.std.specs.Prelude.{IfSome, IsNone, is_some, option_map}
use Rattle.std.proofs.lemmas.List.{take_all}
use Rattle.log_seams.specs.Disk.{DiskState, IsLawful, KeepsBytes, Rests}
use Rattle.log_seams.specs.Outside.{Rose}
use Rattle.log_seams.proofs.MomentLemmas.{keeps_on, rose}
use Rattle.record_format.specs.declared.header.Header.{Header}
use Rattle.wild_match.specs.declared.pattern.Item.{Item}
use Rattle.disk_journal.specs.State.{JournalState}
use Rattle.archive_meaning.specs.declared.entry.JournalEntry.{JournalEntry}
use Rattle.archive_meaning.specs.Stands.{StandsFor}
use Rattle.archive_core.specs.declared.books.Books.{Books}
use Rattle.archive_open.specs.Kept.{Kept}
use Rattle.archive_open.specs.Shown.{Opens, Shown}
use Rattle.disk_seal.specs.Beside.{StandsOn}
use Rattle.disk_seal.specs.Opening.{MayOpen}
use Rattle.disk_seal.specs.Told.{IfTold}
use Rattle.ingest_workers.specs.Ingested.{told_entries}
use Rattle.live_search.specs.Reader.{LiveStands, LiveView, has_halted, live_follower}
use Rattle.live_search.specs.declared.fixed.LiveFixed.{LiveFixed}
use Rattle.live_search.specs.declared.refusal.LiveRefusal.{LiveRefusal}
use Rattle.command_refusals.specs.Ending.{RoseIn}
use Rattle.command_refusals.specs.GoesOn.{DiskGoesOn}
use Rattle.command_refusals.specs.declared.outcome.ReadRefusal.{ReadRefusal}
use Rattle.command_answers.specs.Ingested.{FileOutcome, FromArchive}
use Rattle.command_answers.specs.Watching.{HasReaderCause}
use Rattle.write_commands.specs.Followed.{Follows, IsLed, MayBeginAt}
use Rattle.file_outcomes.proofs.AppendLemmas.{held_only, held_stands}
use Rattle.write_commands.proofs.FollowLemmas.{follows_looked}
use Rattle.file_outcomes.proofs.HeldLemmas.{looked_goes}
use Rattle.file_outcomes.proofs.LeavesLemmas.{counted}
use Rattle.file_outcomes.proofs.LentLemmas.{keeps_twice}
use Rattle.file_outcomes.proofs.StepsLemmas.{Looked, same_bytes}
use Rattle.watch_command.specs.StepsWatched.{WasWatched, from_live}
use Rattle.watch_command.proofs.LiveLemmas.{led_prints}

-- the texts that are kept, by both books
abbrev pub kept_by : Books → Kept
kept_by b = record {
  types = b.types.texts;
  words = b.words.texts;
  types_limit = b.types.limit;
  words_limit = b.words.limit;
  version = b.version;
}

-- ---- the openings

-- The archive was opened, its header was read again, and it was opened once more.
pub record OpenedTwice (old mid late end : DiskState) : Type 0 where
  -- each of them is a disk's state
  pub law_old : IsLawful old
  pub law_mid : IsLawful mid
  pub law_late : IsLawful late
  pub law_end : IsLawful end
  -- nothing was written
  pub first : KeepsBytes old mid
  pub begun : KeepsBytes mid late
  pub rests : Rests late end
  -- no count of faults fell
  pub first_counts : old.faults ≤ mid.faults
  pub begun_counts : mid.faults ≤ late.faults
  pub counts : late.faults ≤ end.faults

-- by what the calls say, over the disk that the journal is begun over
pub opened_twice : {D : Type 0} (state : D → DiskState) (law : (d : D) → IsLawful (state d)) (old mid started begun end : D)
    → begun ≡ started → KeepsBytes (state old) (state mid) → (state old).faults ≤ (state mid).faults
    → KeepsBytes (state mid) (state started) → (state mid).faults ≤ (state started).faults
    → Rests (state begun) (state end) → (state begun).faults ≤ (state end).faults
    → OpenedTwice (state old) (state mid) (state begun) (state end)
opened_twice state law old mid started begun end same first first_counts keeps risen rests counts = record {
  law_old = law old;
  law_mid = law mid;
  law_late = law begun;
  law_end = law end;
  first = first;
  begun = subst (λ d. KeepsBytes (state mid) (state d)) (sym same) keeps;
  rests = rests;
  first_counts = first_counts;
  begun_counts = subst (λ d. (state mid).faults ≤ (state d).faults) (sym same) risen;
  counts = counts;
}

module _ {old mid late end : DiskState} (twice : OpenedTwice old mid late end) where
  -- up to the second opening, and behind it
  pub looked_late : Looked old mid late
  looked_late = record { law_old = twice.law_old; law_mid = twice.law_mid; law_new = twice.law_late; first = twice.first; second = twice.begun; counts = omega (arith, twice.first_counts, twice.begun_counts) }

  pub looked_end : Looked old mid end
  looked_end = record {
    law_old = twice.law_old;
    law_mid = twice.law_mid;
    law_new = twice.law_end;
    first = twice.first;
    second = keeps_on mid late end twice.begun twice.rests;
    counts = omega (arith, twice.first_counts, twice.begun_counts, twice.counts);
  }

  -- nothing was written up to there
  pub keeps_late : KeepsBytes old late
  keeps_late = keeps_twice old mid late twice.law_old twice.first twice.begun

  pub keeps_end : KeepsBytes old end
  keeps_end = keeps_on old late end keeps_late twice.rests

  pub twice_goes : DiskGoesOn old end
  twice_goes = looked_goes old mid end looked_end twice.first_counts (omega (arith, twice.begun_counts, twice.counts))

-- ---- it may begin

module _ {K : Type 0} (written : K → Option (List ℕ)) (w : LiveView K) (j : JournalState) (may : MayOpen j) where
  -- what was opened of the journal's bytes is the journal's, and the reader stands behind it
  pub may_begin : (a : Shown) → Opens j.disk.seen a → a.entries ≡ j.count → w.reached.first ≡ a.entries → w.reached.handled ≡ 0 → w.refusal ≡ None
      → ((bytes : List ℕ) → Opens (Some bytes) a → (h : Header) (es : List JournalEntry) → StandsFor bytes h es → LiveStands written w h es []) → MayBeginAt (live_follower written w) j
  may_begin a opens all first handled runs stands = record {
    within = omega (arith, all, first, handled);
    stands = go j.disk.seen refl;
    running = ap has_halted runs;
  }
    where
      on : (es : List JournalEntry) → length es ≡ j.count → LiveStands written w j.header es [] → StandsOn (live_follower written w) j.header es
      on es long is =
          let count : w.reached.first ≡ length es = first ∙ (all ∙ sym long) in
          let one : take w.reached.first es ≡ es = take_all w.reached.first es (omega (arith, count)) in
          let two : take w.reached.handled (drop w.reached.first es) ≡ [] = ap (λ n. take n (drop w.reached.first es)) handled in
          record {
            within = omega (arith, count, handled);
            stands = subst (λ (l : List JournalEntry). LiveStands written w j.header l (take w.reached.handled (drop w.reached.first es))) (sym one) (subst (λ (l : List JournalEntry). LiveStands written w j.header es l) (sym two) is);
          }

      go : (told : Option (List ℕ)) → j.disk.seen ≡ told → IfTold (is_some j.disk.seen) (StandsOn (live_follower written w) j.header (told_entries j))
      go None is = subst (λ b. IfTold b (StandsOn (live_follower written w) j.header (told_entries j))) (sym (ap is_some is)) tt
      go (Some bytes) is =
          subst (λ b. IfTold b (StandsOn (live_follower written w) j.header (told_entries j))) (sym (ap is_some is))
          (on (told_entries j) (counted j.disk.seen j.count (ap is_some is))
          (stands bytes (subst (λ t. Opens t a) is opens) j.header (told_entries j) (held_stands j may bytes is)))

-- ---- how it ended

-- each refusal has its cause
cause_of : (counts : ℕ × ℕ) (old new : DiskState) (refusal : Option LiveRefusal) → (refusal ≡ Some LiveRefusal.SinkFault → RoseIn counts) → (has_halted refusal ≡ true → Rose old.faults new.faults)
    → ((at : ℕ) → refusal ≡ Some (LiveRefusal.Damaged at) → IsNone old.seen) → HasReaderCause counts old new (option_map from_live refusal)
cause_of counts old new None sink halted damaged = tt
cause_of counts old new (Some LiveRefusal.DiskFault) sink halted damaged = halted refl
cause_of counts old new (Some LiveRefusal.SinkFault) sink halted damaged = sink refl
cause_of counts old new (Some (LiveRefusal.Damaged at)) sink halted damaged = damaged at refl
cause_of counts old new (Some LiveRefusal.OutOfMemory) sink halted damaged = tt

-- there is no damage where the journal is told
undamaged : {K : Type 0} (written : K → Option (List ℕ)) (w : LiveView K) (rows : ℕ) (names : List (List ℕ)) (came : List FileOutcome) (j : JournalState) (may : MayOpen j) (new : DiskState)
    → FromArchive j.disk (λ h before bytes stood. IsLed (live_follower written w) rows h before stood names came j.disk new) → (at : ℕ) → w.refusal ≡ Some (LiveRefusal.Damaged at) → IsNone j.disk.seen
undamaged written w rows names came j may new led at refused = go j.disk.seen refl led
  where
    go : (told : Option (List ℕ)) → j.disk.seen ≡ told
        → IfSome told (λ bytes. (h : Header) (before : List JournalEntry) (stood : StandsFor bytes h before) → ((c : List ℕ) → j.disk.images c → StandsFor c h before) → IsLed (live_follower written w) rows h before stood names came j.disk new)
        → IsNone told
    go None is was = refl
    go (Some bytes) is was = absurd ((was j.header (told_entries j) (held_stands j may bytes is) (held_only j may bytes is)).stands.stands.whole at refused)

module _ {K : Type 0} (written : K → Option (List ℕ)) (faults : K → ℕ) (begun w : LiveView K) (rows : ℕ) (items : List Item) (names : List (List ℕ)) (came : List FileOutcome) (old mid : DiskState) (j : JournalState) (new : DiskState)
    (looked : Looked old mid j.disk) (may : MayOpen j) (goes : DiskGoesOn j.disk new) (follows : Follows (live_follower written begun) (live_follower written w) rows names came j.disk new)
    (sink : w.refusal ≡ Some LiveRefusal.SinkFault → Rose (faults w.begun) (faults w.out)) (steady : w.refusal ≢ Some LiveRefusal.SinkFault → faults w.out ≡ faults w.begun) where
  -- by the reader itself
  watched_by : (a : Shown) → Opens j.disk.seen a → begun.reached.first ≡ a.entries → begun.reached.pattern ≡ items
      → WasWatched rows items names came (option_map from_live w.refusal) (written w.begun, written w.out) (faults w.begun, faults w.out) old new
  watched_by a opens first pattern = record {
    cause = cause_of (faults w.begun, faults w.out) old new w.refusal sink
        (λ halted. rose old.faults j.disk.faults new.faults new.faults looked.counts (follows.halted halted) (omega arith))
        (λ at is. ap is_some (sym (same_bytes old mid j.disk looked)) ∙ undamaged written w rows names came j may new follows.led at is);
    steady = λ spared. steady (λ is. spared (ap (option_map from_live) is));
    live = led_prints written w rows items names came old new (goes.tells ∙ ap is_some (same_bytes old mid j.disk looked))
        a (subst (λ t. Opens t a) (same_bytes old mid j.disk looked) opens) (follows.first ∙ first) (ap (λ (x : LiveFixed K). x.pattern) follows.fixed ∙ pattern)
        (follows_looked (live_follower written begun) (live_follower written w) old mid j.disk new looked goes rows names came follows).led;
  }

  -- by its output before and behind it
  pub was_watched : (a : Shown) → Opens j.disk.seen a → begun.reached.first ≡ a.entries → begun.reached.pattern ≡ items → (reader : Option ReadRefusal) (from to : K) → reader ≡ option_map from_live w.refusal → begun.begun ≡ from → to ≡ w.out
      → WasWatched rows items names came reader (written from, written to) (faults from, faults to) old new
  was_watched a opens first pattern reader from to reader_is from_is to_is =
      let same : w.begun ≡ from = ap (λ (x : LiveFixed K). x.begun) follows.fixed ∙ from_is in
      subst (λ (r : Option ReadRefusal). WasWatched rows items names came r (written from, written to) (faults from, faults to) old new) (sym reader_is)
      (subst (λ (o : K). WasWatched rows items names came (option_map from_live w.refusal) (written from, written o) (faults from, faults o) old new) (sym to_is)
      (subst (λ (b : K). WasWatched rows items names came (option_map from_live w.refusal) (written b, written w.out) (faults b, faults w.out) old new) same
      (watched_by a opens first pattern)))
