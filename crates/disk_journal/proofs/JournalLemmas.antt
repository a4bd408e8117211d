-- How a walk along the records goes on from call to call.
use Rattle.std.proofs.Common.{◌≡◌, ℕ, ◌+◌, List, Option, sym, ◌∙◌, subst, arith}
use Rattle.log_seams.specs.Disk.{IsSynced}
use Rattle.log_seams.proofs.MomentLemmas.{rests_synced}
use Rattle.record_format.specs.Header.{header_bytes}
use Rattle.record_format.specs.declared.header.Header.{Header}
use Rattle.disk_journal.specs.Place.{Walked, AtEnd, Passed}
use Rattle.disk_journal.specs.State.{JournalState, IsWalked, IsAtFirst, IsAtEnd, BeginsWith}
use Rattle.disk_journal.specs.Calls.{OnlyReads, StaysAt, HasPassed, HasEnded}
use Rattle.disk_journal.specs.declared.walk.RecordPlace.{RecordPlace}
use Rattle.disk_journal.proofs.WalkLemmas.{walked_on, passed, walk_ends, end_stays}

-- a walk stands where these fields and these bytes say
walked_as : (old new : JournalState) → new.header ≡ old.header → new.place ≡ old.place → new.count ≡ old.count → new.disk.seen ≡ old.disk.seen → IsWalked old → IsWalked new
walked_as old new header place count seen walked =
    subst (λ (h : Header). Walked (header_bytes h) new.place new.count new.disk.seen) (sym header)
    (subst (λ (p : ℕ). Walked (header_bytes old.header) p new.count new.disk.seen) (sym place)
    (subst (λ (n : ℕ). Walked (header_bytes old.header) old.place n new.disk.seen) (sym count)
    (subst (λ (t : Option (List ℕ)). Walked (header_bytes old.header) old.place old.count t) (sym seen) walked)))

-- an opened journal is at the beginning of a walk
pub walk_starts : (j : JournalState) → IsAtFirst j → BeginsWith j.header j.disk → IsWalked j
walk_starts j first begins =
    subst (λ (p : ℕ). Walked (header_bytes j.header) p j.count j.disk.seen) (sym first.place)
    (subst (λ (n : ℕ). Walked (header_bytes j.header) 32 n j.disk.seen) (sym first.count) begins.walked)

-- a walk that passed a record goes on behind it
pub walk_passes : (p : RecordPlace) (at n : ℕ) (old new : JournalState) → OnlyReads at n old new → HasPassed p old new → IsWalked old → IsWalked new
walk_passes p at n old new reads past walked =
    let on = walked_on (header_bytes old.header) old.place old.count p.kind p.length old.disk.seen walked past.found in
    let place : old.place + 10 + p.length ≡ new.place = omega (arith, past.at, past.payload, past.place) in
    subst (λ (h : Header). Walked (header_bytes h) new.place new.count new.disk.seen) (sym reads.header)
    (subst (λ (k : ℕ). Walked (header_bytes old.header) k new.count new.disk.seen) place
    (subst (λ (k : ℕ). Walked (header_bytes old.header) (old.place + 10 + p.length) k new.disk.seen) (sym past.count)
    (subst (λ (t : Option (List ℕ)). Walked (header_bytes old.header) (old.place + 10 + p.length) (old.count + 1) t) (sym reads.rests.seen) on)))

-- and the record is the next of the disk's
pub record_passed : (p : RecordPlace) (old new : JournalState) → HasPassed p old new → IsWalked old → Passed old.disk.seen old.count p.kind p.payload p.length
record_passed p old new past walked =
    let payload : old.place + 10 ≡ p.payload = omega (arith, past.at, past.payload) in
    subst (λ (k : ℕ). Passed old.disk.seen old.count p.kind k p.length) payload
    (passed (header_bytes old.header) old.place old.count p.kind p.length old.disk.seen walked past.found)

-- a walk that stands still is still one, and a journal at its end is still there
pub walk_stays : (at n : ℕ) (old new : JournalState) → OnlyReads at n old new → StaysAt old new → IsWalked old → IsWalked new
walk_stays at n old new reads stays walked = walked_as old new reads.header stays.place stays.count reads.rests.seen walked

pub walk_at_gate : (at n : ℕ) (old new : JournalState) → OnlyReads at n old new → HasEnded old new → IsWalked old → IsWalked new
walk_at_gate at n old new reads ended walked = walked_as old new reads.header ended.place ended.count reads.rests.seen walked

pub end_rests : (at n : ℕ) (old new : JournalState) → OnlyReads at n old new → StaysAt old new → IsAtEnd old → IsAtEnd new
end_rests at n old new reads stays end = record {
  closed = stays.closed ∙ end.closed;
  ends =
      subst (λ (h : Header). AtEnd (header_bytes h) new.place new.count new.disk.seen new.disk.images) (sym reads.header)
      (subst (λ (p : ℕ). AtEnd (header_bytes old.header) p new.count new.disk.seen new.disk.images) (sym stays.place)
      (subst (λ (k : ℕ). AtEnd (header_bytes old.header) old.place k new.disk.seen new.disk.images) (sym stays.count)
      (subst (λ (t : Option (List ℕ)). AtEnd (header_bytes old.header) old.place old.count t new.disk.images) (sym reads.rests.seen)
      (end_stays (header_bytes old.header) old.place old.count old.disk.seen old.disk.images new.disk.images reads.rests.no_more end.ends))));
}

-- a disk of which a crash leaves what is read stays one
pub synced_rests : (at n : ℕ) (old new : JournalState) → OnlyReads at n old new → IsSynced old.disk → IsSynced new.disk
synced_rests at n old new reads synced = rests_synced old.disk new.disk reads.rests synced

-- a walk that has found the closed gate is at the end, where a crash leaves what is read
pub walk_halts : (at n : ℕ) (old new : JournalState) → OnlyReads at n old new → HasEnded old new → IsWalked old → IsSynced old.disk → IsAtEnd new
walk_halts at n old new reads ended walked synced =
    let end = walk_ends (header_bytes old.header) old.place old.count old.disk.seen old.disk.images walked ended.gate synced in record {
      closed = ended.closed;
      ends =
          subst (λ (h : Header). AtEnd (header_bytes h) new.place new.count new.disk.seen new.disk.images) (sym reads.header)
          (subst (λ (p : ℕ). AtEnd (header_bytes old.header) p new.count new.disk.seen new.disk.images) (sym ended.place)
          (subst (λ (k : ℕ). AtEnd (header_bytes old.header) old.place k new.disk.seen new.disk.images) (sym ended.count)
          (subst (λ (t : Option (List ℕ)). AtEnd (header_bytes old.header) old.place old.count t new.disk.images) (sym reads.rests.seen)
          (end_stays (header_bytes old.header) old.place old.count old.disk.seen old.disk.images new.disk.images reads.rests.no_more end))));
    }
