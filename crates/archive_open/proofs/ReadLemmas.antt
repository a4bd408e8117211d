-- What reading of a journal's disk leaves, call after call.
use Rattle.std.proofs.Common.{◌≡◌, inl, inr, ℕ, ◌+◌, ◌≤◌, List, [], ◌∷◌, ◌++◌, Option, Some, None, option_map, refl, sym, ◌∙◌, ap, subst, arith}
use Rattle.std.proofs.lemmas.List.{append-nil, append_assoc}
use Rattle.std.proofs.lemmas.List.Elements.{All-nil, All-cons, All-append}
use Rattle.log_seams.specs.Disk.{DiskState, ReadsOnly}
use Rattle.log_seams.proofs.MomentLemmas.{rests_on}
use Rattle.disk_journal.specs.State.{JournalState}
use Rattle.disk_journal.specs.Calls.{OnlyReads, StaysAt}
use Rattle.disk_journal.specs.declared.refusals.LoadRefusal.{LoadRefusal}
use Rattle.archive_open.specs.declared.refusal.ArchiveRefusal.{ArchiveRefusal}
use Rattle.disk_journal.specs.declared.refusals.StartRefusal.{StartRefusal}
use Rattle.disk_journal.specs.declared.refusals.WalkRefusal.{WalkRefusal}
use Rattle.archive_open.specs.Refused.{from_load, from_start, from_walk}
use Rattle.archive_open.specs.Shown.{Looks}
use Rattle.archive_open.specs.Walk.{ReadsWithin}

abbrev pub Ranges : Type 0
Ranges = Option (List (ℕ × ℕ))

pub none_added : (old : Ranges) → old ≡ option_map (λ ranges. ranges ++ []) old
none_added None = refl
none_added (Some ranges) = ap Some (sym (append-nil ranges))

pub two_added : (old mid new : Ranges) (a b : List (ℕ × ℕ)) → mid ≡ option_map (λ ranges. ranges ++ a) old → new ≡ option_map (λ ranges. ranges ++ b) mid
    → new ≡ option_map (λ ranges. ranges ++ (a ++ b)) old
two_added None mid new a b one two = two ∙ ap (option_map (λ ranges. ranges ++ b)) one
two_added (Some ranges) mid new a b one two = two ∙ ap (option_map (λ ranges. ranges ++ b)) one ∙ ap Some (append_assoc ranges a b)

-- ---- ranges within

pub nothing_read : (at n : ℕ) (old : Ranges) → ReadsWithin at n old old
nothing_read at n old = record { more = []; added = none_added old; within = All-nil (λ r. (at ≤ r.0) × (r.0 + r.1 ≤ at + n)) }

pub read_within : (at n most : ℕ) (old new : DiskState) → n ≤ most → ReadsOnly at n old new → ReadsWithin at most old.ranges new.ranges
read_within at n most old new few (inl same) =
    subst (λ r. ReadsWithin at most old.ranges r) (sym same) (nothing_read at most old.ranges)
read_within at n most old new few (inr more) = record {
  more = (at, more.0) ∷ [];
  added = more.2;
  within = All-cons (λ r. (at ≤ r.0) × (r.0 + r.1 ≤ at + most)) (at, more.0) [] (omega arith, omega (arith, more.1, few)) (All-nil (λ r. (at ≤ r.0) × (r.0 + r.1 ≤ at + most)));
}

pub both_within : (at n : ℕ) (old mid new : Ranges) → ReadsWithin at n old mid → ReadsWithin at n mid new → ReadsWithin at n old new
both_within at n old mid new one two = record {
  more = one.more ++ two.more;
  added = two_added old mid new one.more two.more one.added two.added;
  within = All-append (λ r. (at ≤ r.0) × (r.0 + r.1 ≤ at + n)) one.more two.more one.within two.within;
}

-- ---- the same journal

pub looks_on : (old mid new : JournalState) → Looks old mid → Looks mid new → Looks old new
looks_on old mid new one two = record {
  name = two.name ∙ one.name;
  header = two.header ∙ one.header;
  rests = rests_on old.disk mid.disk new.disk one.rests two.rests;
}

pub looks : (at n : ℕ) (old new : JournalState) → OnlyReads at n old new → Looks old new
looks at n old new reads = record { name = reads.name; header = reads.header; rests = reads.rests }

pub stays_on : (old mid new : JournalState) → StaysAt old mid → StaysAt mid new → StaysAt old new
stays_on old mid new one two = record { place = two.place ∙ one.place; count = two.count ∙ one.count; closed = two.closed ∙ one.closed }

-- a load that gave fewer bytes is of a disk that does not tell them
pub load_damaged : (e : LoadRefusal) (at : ℕ) → from_load e ≡ ArchiveRefusal.Damaged at → e ≡ LoadRefusal.Damaged at
load_damaged LoadRefusal.DiskFault at is = absurd (cc (is))
load_damaged (LoadRefusal.Damaged place) at is = cc (is)
load_damaged LoadRefusal.OutOfMemory at is = absurd (cc (is))

pub walk_damaged_from : (e : WalkRefusal) (at : ℕ) → from_walk e ≡ ArchiveRefusal.Damaged at → e ≡ WalkRefusal.Damaged at
walk_damaged_from WalkRefusal.DiskFault at is = absurd (cc (is))
walk_damaged_from (WalkRefusal.Damaged place) at is = cc (is)

pub start_damaged_from : (e : StartRefusal) (at : ℕ) → from_start e ≡ ArchiveRefusal.Damaged at → e ≡ StartRefusal.Damaged at
start_damaged_from StartRefusal.DiskFault at is = absurd (cc (is))
start_damaged_from (StartRefusal.Damaged place) at is = cc (is)
