-- How what a crash may leave goes on, from call to call and from run to run.
use Rattle.std.specs.Prelude.{ℕ, ◌≤◌, List, Option, Some, None}
use Rattle.std.proofs.Common.{inl, inr, ⊎_elim, arith, sym, subst, ◌∙◌}
use Rattle.log_seams.specs.Disk.{DiskState, IsLawful, Elapses, LeavesOnly, Rests, KeepsBytes, NoMore, Only, IsSynced}
use Rattle.log_seams.specs.Outside.{Rose}

-- a count that rose stays risen
pub rose : (a b c d : ℕ) → a ≤ b → Rose b c → c ≤ d → Rose a d
rose a b c d front (inl up) back = inl (omega arith)
rose a b c d front (inr top) back = inr (omega arith)

-- before the first call
pub started : (d : DiskState) (P : List ℕ → Type 0) → IsLawful d → ((c : List ℕ) → d.images c → P c) → LeavesOnly d d P
started d P law here = record {
  later = omega arith;
  each = λ c left. here c (law.only_now c left);
  before = λ t c le left. inl left;
  keeps = λ t c le left. left;
}

-- one call
pub called : (old new : DiskState) (P : List ℕ → Type 0) → IsLawful old → IsLawful new → Elapses old new
    → ((c : List ℕ) → old.images c → P c) → ((c : List ℕ) → new.images c → P c) → LeavesOnly old new P
called old new P law law_new time first last = record {
  later = time.later;
  each = λ c left. ⊎_elim (λ was. first c (law.only_now c was)) (λ now. last c now) (time.nothing_else old.clock c (omega arith) left);
  before = λ t c le left. ⊎_elim (λ was. inl was) (λ now. inr (law_new.counts_now old.clock c time.later now)) (time.nothing_else t c le left);
  keeps = λ t c le left. time.keeps t c le left;
}

-- one call more, after which a crash leaves what has P
pub goes_on : (old mid new : DiskState) (P : List ℕ → Type 0) → IsLawful new → LeavesOnly old mid P → Elapses mid new
    → ((c : List ℕ) → new.images c → P c) → LeavesOnly old new P
goes_on old mid new P law so_far time last = record {
  later = omega (arith, so_far.later, time.later);
  each = λ c left. ⊎_elim (λ was. so_far.each c was) (λ now. last c now) (time.nothing_else old.clock c so_far.later left);
  before = λ t c le left.
      ⊎_elim
      (λ was. ⊎_elim (λ first. inl first) (λ then. inr (time.keeps old.clock c so_far.later then)) (so_far.before t c le was))
      (λ now. inr (law.counts_now old.clock c (omega (arith, so_far.later, time.later)) now))
      (time.nothing_else t c (omega (arith, le, so_far.later)) left);
  keeps = λ t c le left. time.keeps t c (omega (arith, le, so_far.later)) (so_far.keeps t c le left);
}

-- one run after another
pub joined : (old mid new : DiskState) (P Q R : List ℕ → Type 0) → IsLawful new → LeavesOnly old mid P → LeavesOnly mid new Q
    → ((c : List ℕ) → P c → R c) → ((c : List ℕ) → Q c → R c) → LeavesOnly old new R
joined old mid new P Q R law first second from_first from_second = record {
  later = omega (arith, first.later, second.later);
  each = λ c left. ⊎_elim (λ was. from_first c (first.each c was)) (λ now. from_second c (second.each c now)) (second.before old.clock c first.later left);
  before = λ t c le left.
      ⊎_elim
      (λ was. ⊎_elim (λ old_one. inl old_one) (λ then. inr (second.keeps old.clock c first.later then)) (first.before t c le was))
      (λ now. inr (law.wider old.clock mid.clock c first.later now))
      (second.before t c (omega (arith, le, first.later)) left);
  keeps = λ t c le left. second.keeps t c (omega (arith, le, first.later)) (first.keeps t c le left);
}

pub weaker : (old new : DiskState) (P Q : List ℕ → Type 0) → LeavesOnly old new P → ((c : List ℕ) → P c → Q c) → LeavesOnly old new Q
weaker old new P Q run less = record {
  later = run.later;
  each = λ c left. less c (run.each c left);
  before = run.before;
  keeps = run.keeps;
}

-- a call that only reads, and one that writes nothing, leave what could be left before
pub rests_leave : (old new : DiskState) → IsLawful old → IsLawful new → Rests old new → LeavesOnly old new old.images
rests_leave old new law law_new rests = called old new old.images law law_new rests.time (λ c now. now) rests.no_more

pub keeps_leave : (old new : DiskState) → IsLawful old → IsLawful new → KeepsBytes old new → LeavesOnly old new old.images
keeps_leave old new law law_new keeps = called old new old.images law law_new keeps.time (λ c now. now) keeps.no_more

-- time goes on over a call after which there is each image that there was before it
passes : (old mid new : DiskState) → NoMore new.images mid.images → Elapses old mid → Elapses mid new → Elapses old new
passes old mid new same first second = record {
  later = omega (arith, first.later, second.later);
  nothing_else = λ t c le left.
      ⊎_elim
      (λ was. ⊎_elim (λ old_one. inl old_one) (λ then. inr (same c then)) (first.nothing_else t c le was))
      (λ now. inr now)
      (second.nothing_else t c (omega (arith, le, first.later)) left);
  keeps = λ t c le left. second.keeps t c (omega (arith, le, first.later)) (first.keeps t c le left);
}

-- reads after what only read, and after what wrote nothing
pub rests_on : (old mid new : DiskState) → Rests old mid → Rests mid new → Rests old new
rests_on old mid new first second = record {
  seen = second.seen ∙ first.seen;
  no_more = λ c left. first.no_more c (second.no_more c left);
  no_fewer = λ c left. second.no_fewer c (first.no_fewer c left);
  time = passes old mid new second.no_fewer first.time second.time;
}

pub keeps_on : (old mid new : DiskState) → KeepsBytes old mid → Rests mid new → KeepsBytes old new
keeps_on old mid new first second = record {
  seen = second.seen ∙ first.seen;
  no_more = λ c left. first.no_more c (second.no_more c left);
  time = passes old mid new second.no_fewer first.time second.time;
}

-- what a crash leaves alone it still does where a crash leaves no more
only_less : (told : Option (List ℕ)) (old new : List ℕ → Type 0) → Only told old → NoMore old new → Only told new
only_less None old new only less = tt
only_less (Some bytes) old new only less = λ c left. only c (less c left)

pub rests_synced : (old new : DiskState) → Rests old new → IsSynced old → IsSynced new
rests_synced old new rests synced =
    subst (λ (t : Option (List ℕ)). Only t new.images) (sym rests.seen) (only_less old.seen old.images new.images synced rests.no_more)
