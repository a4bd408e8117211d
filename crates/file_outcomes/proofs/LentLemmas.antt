-- A journal that was opened over a disk, over the same disk which tells its bytes only where it is to.
use Rattle.std.proofs.Common.{◌≡◌, ◌≤◌, ◌⊎◌, ◌∙◌, inl, inr, refl, sym, ap, subst, ℕ, Bool, true, false, List, Option, arith}
use Rattle.std.specs.Prelude.{IfSome, IsTrue}
use Rattle.log_seams.specs.declared.disk.Disk.{Ghosts as DiskGhosts}
use Rattle.log_seams.specs.Disk.{DiskState, IsLawful, KeepsBytes, Rests}
use Rattle.record_format.specs.declared.header.Header.{Header}
use Rattle.disk_journal.specs.Place.{AtEnd}
use Rattle.disk_journal.specs.State.{BeginsWith, IsAtEnd, JournalState}
use Rattle.disk_journal.specs.Journal.{state_of}
use Rattle.disk_journal.specs.declared.journal.Journal.{Journal}
use Rattle.archive_open.specs.Shown.{Looks, Opens, Shown}
use Rattle.command_refusals.specs.GoesOn.{DiskGoesOn}
use Rattle.command_refusals.specs.Reading.{IsArchive}
use Rattle.command_answers.specs.Known.{seen_if, told_if}
use Rattle.file_outcomes.specs.JournalAt.{AreParts, state_at}
use Rattle.file_outcomes.specs.StepsKnown.{lent_state, told_lawful}
use Rattle.file_outcomes.specs.declared.journal_end.JournalEnd.{JournalEnd}
use Rattle.file_outcomes.proofs.AppendLemmas.{OpensFrom}
use Rattle.file_outcomes.proofs.KnownLemmas.{tells_alike, told_archive}
use Rattle.file_outcomes.proofs.StepsLemmas.{Looked}

-- ---- the disk

keeps_told : (tells : Bool) (old new : DiskState) → KeepsBytes old new → KeepsBytes (told_if tells old) (told_if tells new)
keeps_told tells old new keeps = record {
  seen = ap (seen_if tells) keeps.seen;
  no_more = keeps.no_more;
  time = record { later = keeps.time.later; nothing_else = keeps.time.nothing_else; keeps = keeps.time.keeps };
}

rests_told : (tells : Bool) (old new : DiskState) → Rests old new → Rests (told_if tells old) (told_if tells new)
rests_told tells old new rests = record {
  seen = ap (seen_if tells) rests.seen;
  no_more = rests.no_more;
  no_fewer = rests.no_fewer;
  time = record { later = rests.time.later; nothing_else = rests.time.nothing_else; keeps = rests.time.keeps };
}

pub looked_told : (tells : Bool) (old mid late : DiskState) → Looked old mid late → Looked (told_if tells old) (told_if tells mid) (told_if tells late)
looked_told tells old mid late looked = record {
  law_old = told_lawful tells old looked.law_old;
  law_mid = told_lawful tells mid looked.law_mid;
  law_new = told_lawful tells late looked.law_new;
  first = keeps_told tells old mid looked.first;
  second = keeps_told tells mid late looked.second;
  counts = looked.counts;
}

pub goes_told : (tells : Bool) (old new : DiskState) → DiskGoesOn old new → DiskGoesOn (told_if tells old) (told_if tells new)
goes_told tells old new goes = record {
  counts = goes.counts;
  tells = tells_alike tells old new goes.tells;
  moments = record { later = goes.moments.later; each = goes.moments.each; before = goes.moments.before; keeps = goes.moments.keeps };
}

-- nothing was written, and then nothing again
pub keeps_twice : (old mid new : DiskState) → IsLawful old → KeepsBytes old mid → KeepsBytes mid new → KeepsBytes old new
keeps_twice old mid new law first second = record {
  seen = second.seen ∙ first.seen;
  no_more = λ c image. first.no_more c (second.no_more c image);
  time = record {
    later = omega (arith, first.time.later, second.time.later);
    nothing_else = λ t c past since. of_mid t c past (second.time.nothing_else t c (omega (arith, past, first.time.later)) since);
    keeps = λ t c past since. second.time.keeps t c (omega (arith, past, first.time.later)) (first.time.keeps t c past since);
  };
}
  where
    of_old : (t : ℕ) (c : List ℕ) → t ≤ old.clock → old.since t c ⊎ mid.images c → old.since t c ⊎ new.images c
    of_old t c past (inl since) = inl since
    of_old t c past (inr image) = inl (law.counts_now t c past (first.no_more c image))

    of_mid : (t : ℕ) (c : List ℕ) → t ≤ old.clock → mid.since t c ⊎ new.images c → old.since t c ⊎ new.images c
    of_mid t c past (inl since) = of_old t c past (first.time.nothing_else t c past since)
    of_mid t c past (inr image) = inr image

-- ---- the journal

-- what holds of a journal over the disk that is lent holds of its parts
pub of_parts : {D : Type 0} {d : DiskGhosts D} (P : JournalState → Type 0) (tells : Bool) (name : ℕ) (j : Journal D d) (disk : D) (end : JournalEnd)
    → AreParts j disk end → P (lent_state tells name (state_of j)) → P (state_at name (told_if tells (d.state disk)) end)
of_parts {D} {d} P tells name j disk end parts holds =
    subst (λ x. P (over (told_if tells (d.state x)) end.header end.place end.count end.closed)) (sym parts.same)
    (subst (λ x. P (over lent x end.place end.count end.closed)) (sym parts.header)
    (subst (λ x. P (over lent j.header x end.count end.closed)) (sym parts.place)
    (subst (λ x. P (over lent j.header j.place x end.closed)) (sym parts.count)
    (subst (λ x. P (over lent j.header j.place j.count x)) (sym parts.closed) holds))))
  where
    lent : DiskState
    lent = told_if tells (d.state j.disk.now)

    over : DiskState → Header → ℕ → ℕ → Bool → JournalState
    over state header place count closed = record { name = name; disk = state; header = header; place = place; count = count; closed = closed }

-- ---- the opening

begins_told : (tells : Bool) (h : Header) (d : DiskState) → BeginsWith h d → BeginsWith h (told_if tells d)
begins_told true h d begins = record { legal = begins.legal; walked = begins.walked; synced = begins.synced }
begins_told false h d begins = record { legal = begins.legal; walked = tt; synced = tt }

pub opens_told : (tells : Bool) (told : Option (List ℕ)) (a : Shown) → Opens told a → Opens (seen_if tells told) a
opens_told true told a opens = opens
opens_told false told a opens = tt

ends_told : (tells : Bool) (head : List ℕ) (place count : ℕ) (told : Option (List ℕ)) (images : List ℕ → Type 0) → AtEnd head place count told images → AtEnd head place count (seen_if tells told) images
ends_told true head place count told images ends = ends
ends_told false head place count told images ends = tt

-- The archive was opened from the first record on, whatever its bytes are.
record OpensAny (old now : JournalState) (a : Shown) : Type 0 where
  pub begins : BeginsWith old.header old.disk
  pub looks : Looks old now
  pub opened : Opens old.disk.seen a
  pub header : a.header ≡ old.header
  pub ends : IsAtEnd now

from_any : (tells : Bool) (name : ℕ) (old now : JournalState) (a : Shown) → OpensAny old now a → (IsTrue tells → IfSome old.disk.seen IsArchive) → OpensFrom (lent_state tells name old) (lent_state tells name now) a
from_any tells name old now a any archive = record {
  begins = begins_told tells old.header old.disk any.begins;
  archive = told_archive tells old.disk archive;
  looks = record { name = refl; header = any.looks.header; rests = rests_told tells old.disk now.disk any.looks.rests };
  opened = opens_told tells old.disk.seen a any.opened;
  header = any.header;
  ends = record { closed = any.ends.closed; ends = ends_told tells _ now.place now.count now.disk.seen now.disk.images any.ends.ends };
}

-- by what the calls say, over the disk whose header was read
pub opens_from : {D : Type 0} {d : DiskGhosts D} (tells : Bool) (name : ℕ) (journal now : Journal D d) (started : D) (h : Header) (a : Shown)
    → journal.header ≡ h → journal.disk.now ≡ started → BeginsWith h (d.state started)
    → Looks (state_of journal) (state_of now) → Opens (d.state journal.disk.now).seen a → a.header ≡ journal.header → IsAtEnd (state_of now)
    → (IsTrue tells → IfSome (d.state journal.disk.now).seen IsArchive)
    → OpensFrom (lent_state tells name (state_of journal)) (lent_state tells name (state_of now)) a
opens_from {D} {d} tells name journal now started h a header disk begins looks opened same ends archive =
    from_any tells name (state_of journal) (state_of now) a
    (record {
      begins = subst (λ k. BeginsWith k (d.state journal.disk.now)) (sym header) (subst (λ x. BeginsWith h (d.state x)) (sym disk) begins);
      looks = looks;
      opened = opened;
      header = same;
      ends = ends;
    }) archive
