-- The opening of an archive that is to be added to, from the start of the call on.
use Rattle.std.proofs.Common.{◌≡◌, ◌≤◌, arith, subst, sym, ℕ, List, Option, Some, None}
use Rattle.log_seams.specs.Disk.{DiskState, IsLawful, IsSynced, KeepsBytes, Only, Rests}
use Rattle.log_seams.proofs.MomentLemmas.{keeps_on}
use Rattle.record_format.specs.Header.{header_bytes}
use Rattle.disk_journal.specs.Place.{AtEnd}
use Rattle.disk_journal.specs.State.{JournalState}
use Rattle.disk_seal.specs.Opening.{MayOpen}
use Rattle.command_refusals.specs.GoesOn.{DiskGoesOn}
use Rattle.command_answers.specs.Ingested.{FromArchive, TakesNothing}
use Rattle.command_refusals.proofs.GoingLemmas.{DiskGoesOn-joined, DiskGoesOn-seen, KeepsBytes-same}
use Rattle.file_outcomes.proofs.StepsLemmas.{Looked, looked_nothing, no_more}

-- a journal at its end was synced
pub held_synced : (j : JournalState) → MayOpen j → IsSynced j.disk
held_synced j may = go j.disk.seen may.ends.ends
  where
    go : (told : Option (List ℕ)) → AtEnd (header_bytes j.header) j.place j.count told j.disk.images → Only told j.disk.images
    go None ends = tt
    go (Some bytes) ends = ends.only

-- reads write nothing
pub rests_keep : (old new : DiskState) → Rests old new → KeepsBytes old new
rests_keep old new rests = record { seen = rests.seen; no_more = rests.no_more; time = rests.time }

-- the disk went on over the looks, and over the first of them
pub looked_goes : (old mid late : DiskState) → Looked old mid late → old.faults ≤ mid.faults → mid.faults ≤ late.faults → DiskGoesOn old late
looked_goes old mid late looked risen later =
    DiskGoesOn-joined old mid late looked.law_new (DiskGoesOn-seen old mid looked.law_old looked.law_mid risen looked.first.seen looked.first.time)
    (DiskGoesOn-seen mid late looked.law_mid looked.law_new later looked.second.seen looked.second.time)

pub looked_first : (old mid late : DiskState) → Looked old mid late → old.faults ≤ mid.faults → Looked old old mid
looked_first old mid late looked risen = record { law_old = looked.law_old; law_mid = looked.law_old; law_new = looked.law_mid; first = KeepsBytes-same old; second = looked.first; counts = risen }

-- The header was read, and the archive was opened by a journal behind it.
pub record OpenedOnce (old mid late : DiskState) : Type 0 where
  pub looked : Looked old mid late
  pub risen : old.faults ≤ mid.faults
  pub rests : Rests mid late
  pub later : mid.faults ≤ late.faults

-- by what the calls say, over the disk that the journal is begun over
pub opened_once : {D : Type 0} (state : D → DiskState) (law : (d : D) → IsLawful (state d)) (old started begun late : D)
    → begun ≡ started → KeepsBytes (state old) (state started) → (state old).faults ≤ (state started).faults
    → Rests (state begun) (state late) → (state begun).faults ≤ (state late).faults
    → OpenedOnce (state old) (state begun) (state late)
opened_once state law old started begun late same keeps risen rests later =
    let risen_begun = subst (λ d. (state old).faults ≤ (state d).faults) (sym same) risen in
    record {
      looked = record {
        law_old = law old;
        law_mid = law begun;
        law_new = law late;
        first = subst (λ d. KeepsBytes (state old) (state d)) (sym same) keeps;
        second = rests_keep (state begun) (state late) rests;
        counts = omega (arith, risen_begun, later);
      };
      risen = risen_begun;
      rests = rests;
      later = later;
    }

module _ {old mid late : DiskState} (once : OpenedOnce old mid late) where
  pub once_goes : DiskGoesOn old late
  once_goes = looked_goes old mid late once.looked once.risen once.later

  pub once_first : Looked old old mid
  once_first = looked_first old mid late once.looked once.risen

  pub once_keeps : KeepsBytes old late
  once_keeps = keeps_on old mid late once.looked.first once.rests

  pub once_nothing : FromArchive old (λ h before bytes stood. TakesNothing h before old late)
  once_nothing = looked_nothing old mid late once.looked
