-- How a disk goes on over calls that leave its bytes alone, and over one call behind another.
use Rattle.std.proofs.Common.{◌≡◌, ◌≤◌, ◌∙◌, ap, refl, arith, inl, ℕ, List}
use Rattle.std.specs.Prelude.{is_some}
use Rattle.log_seams.specs.Disk.{DiskState, Elapses, IsLawful, KeepsBytes, LeavesOnly}
use Rattle.log_seams.proofs.MomentLemmas.{called, joined, started, weaker}
use Rattle.command_refusals.specs.GoesOn.{DiskGoesOn}

pub DiskGoesOn-same : (d : DiskState) → IsLawful d → DiskGoesOn d d
DiskGoesOn-same d law = record { counts = omega arith; tells = refl; moments = started d _ law (λ c now. tt) }

pub KeepsBytes-same : (d : DiskState) → KeepsBytes d d
KeepsBytes-same d = record { seen = refl; no_more = λ c i. i; time = record { later = omega arith; nothing_else = λ t c p s. inl s; keeps = λ t c p s. s } }

-- the bytes are as they were
pub DiskGoesOn-seen : (old new : DiskState) → IsLawful old → IsLawful new → old.faults ≤ new.faults → new.seen ≡ old.seen → Elapses old new → DiskGoesOn old new
DiskGoesOn-seen old new law law_new counts same time = record { counts = counts; tells = ap is_some same; moments = called old new _ law law_new time (λ c now. tt) (λ c now. tt) }

-- only such images come as are told
pub DiskGoesOn-left : (old new : DiskState) (P : List ℕ → Type 0) → old.faults ≤ new.faults → is_some new.seen ≡ is_some old.seen → LeavesOnly old new P → DiskGoesOn old new
DiskGoesOn-left old new P counts tells left = record { counts = counts; tells = tells; moments = weaker old new P _ left (λ c p. tt) }

-- one call behind another
pub DiskGoesOn-joined : (old mid new : DiskState) → IsLawful new → DiskGoesOn old mid → DiskGoesOn mid new → DiskGoesOn old new
DiskGoesOn-joined old mid new law first second = record {
  counts = omega (arith, first.counts, second.counts);
  tells = second.tells ∙ first.tells;
  moments = joined old mid new _ _ _ law first.moments second.moments (λ c p. tt) (λ c p. tt);
}

-- two calls that write nothing
pub DiskGoesOn-kept : (old mid new : DiskState) → IsLawful old → IsLawful mid → IsLawful new → KeepsBytes old mid → old.faults ≤ mid.faults → KeepsBytes mid new → mid.faults ≤ new.faults → DiskGoesOn old new
DiskGoesOn-kept old mid new law law_mid law_new first counts second more =
    DiskGoesOn-joined old mid new law_new (DiskGoesOn-seen old mid law law_mid counts first.seen first.time) (DiskGoesOn-seen mid new law_mid law_new more second.seen second.time)
