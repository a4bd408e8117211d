-- One step of the walk, over what the calls left.
use Rattle.std.proofs.Common.{◌≡◌, inr, ℕ, suc, ◌+◌, List, Option, Some, None, refl, sym, ◌∙◌, subst, arith}
use Rattle.std.specs.Prelude.{IsNone}
use Rattle.log_seams.specs.Disk.{DiskState, IsSynced, Only, ReadsOnly, Rests}
use Rattle.record_format.specs.declared.header.Header.{Header}
use Rattle.record_format.specs.Header.{IsHeader, header_bytes}
use Rattle.disk_journal.specs.Place.{ClosedAt, IsDamaged, OpenAt, Walked}
use Rattle.disk_journal.specs.State.{IsWalked, JournalState}
use Rattle.disk_journal.specs.Calls.{HasDamage, HasEnded, HasPassed, OnlyReads, StaysAt}
use Rattle.disk_journal.specs.declared.walk.RecordPlace.{RecordPlace}
use Rattle.archive_open.specs.Shown.{Looks, RefusedAt, Spares}
use Rattle.archive_open.specs.StepsNext.{AreOpening, GoesOnTo, GoesWith}
use Rattle.archive_open.specs.Walk.{AreWhole, EndsWith, Keeping, KeepsTold, LastGateTold, NoneTold, ReadsOf, StandsWhole}
use Rattle.archive_open.proofs.AsideLemmas.{gate_spared, record_spared, spares_on}
use Rattle.archive_open.proofs.ReadLemmas.{Ranges, looks, looks_on}
use Rattle.disk_journal.proofs.JournalLemmas.{walk_halts, walk_passes}
use Rattle.archive_open.proofs.WalkLemmas.{Refuses, damaged_here, last_here, opening_on, refused_here, whole_here}

-- ---- told or not

abbrev pub RefusesTold : ℕ → Option (List ℕ) → Type 0
RefusesTold at None = Unit {0}
RefusesTold at (Some bytes) = Refuses at bytes

-- a place that the walk has come to is a gate
at_gate : (seen : Option (List ℕ)) (h : Header) (place count : ℕ) → IsHeader h → Walked (header_bytes h) place count seen → RefusesTold place seen → RefusedAt place seen
at_gate None h place count is walked refused = tt
at_gate (Some bytes) h place count is walked refused = record { none = refused.0; behind = refused.1; gate = inr (h, (is, (count, walked))) }

on_told : (seen : Option (List ℕ)) (b new : Keeping) (header : Header) (place count : ℕ) (p : RecordPlace) → AreOpening b header place count seen → p.at ≡ place → p.payload ≡ p.at + 10
    → OpenAt p.at p.kind p.length seen → KeepsTold p seen b new → AreOpening new header (p.payload + p.length) (suc count) seen
on_told None b new header place count p o here payload found keeps = tt
on_told (Some bytes) b new header place count p o here payload found keeps = opening_on b header place count bytes o p here payload found new keeps

end_told : (seen : Option (List ℕ)) (b : Keeping) (header : Header) (place count : ℕ) → AreOpening b header place count seen → ClosedAt place seen → AreWhole b header place count seen
end_told None b header place count o shut = tt
end_told (Some bytes) b header place count o shut = whole_here b header place count bytes o shut

last_told : (seen : Option (List ℕ)) (b : Keeping) (header : Header) (place count : ℕ) → AreOpening b header place count seen → IsHeader header → Walked (header_bytes header) place count seen
    → ClosedAt place seen → LastGateTold place seen
last_told None b header place count o is walked shut = tt
last_told (Some bytes) b header place count o is walked shut = last_here b header place count bytes o is walked shut

damaged_told : (seen : Option (List ℕ)) (b : Keeping) (header : Header) (place count : ℕ) → AreOpening b header place count seen → IsDamaged place seen → RefusesTold place seen
damaged_told None b header place count o damage = tt
damaged_told (Some bytes) b header place count o damage = damaged_here b header place count bytes o damage

refused_told : (seen : Option (List ℕ)) (b : Keeping) (header : Header) (place count : ℕ) (p : RecordPlace) → AreOpening b header place count seen → p.at ≡ place → p.payload ≡ p.at + 10
    → OpenAt p.at p.kind p.length seen → NoneTold p seen b → RefusesTold place seen
refused_told None b header place count p o here payload found none = tt
refused_told (Some bytes) b header place count p o here payload found none = refused_here b header place count bytes o p here payload found none

pub none_refused : (seen : Option (List ℕ)) (at : ℕ) → IsNone seen → RefusedAt at seen
none_refused None at none = tt
none_refused (Some bytes) at none = absurd (cc (none))

gate_told : (seen : Option (List ℕ)) (b : Keeping) (header : Header) (place count : ℕ) (old new : DiskState) → AreOpening b header place count seen → ReadsOnly place 10 old new
    → Spares seen old.ranges new.ranges
gate_told None b header place count old new o reads = tt
gate_told (Some bytes) b header place count old new o reads = gate_spared b header place count bytes o old new reads

record_told : (seen : Option (List ℕ)) (b : Keeping) (header : Header) (place count : ℕ) (p : RecordPlace) (old new : Ranges) → AreOpening b header place count seen → p.at ≡ place
    → p.payload ≡ p.at + 10 → OpenAt p.at p.kind p.length seen → ReadsOf p seen old new → Spares seen old new
record_told None b header place count p old new o here payload found reads = tt
record_told (Some bytes) b header place count p old new o here payload found reads = record_spared b header place count bytes o p here payload found old new reads

-- ---- the calls

only_before : (seen : Option (List ℕ)) (old new : List ℕ → Type 0) → ((c : List ℕ) → old c → new c) → Only seen new → Only seen old
only_before None old new kept only = tt
only_before (Some bytes) old new kept only = λ c is. only c (kept c is)

-- a disk that was only read, and of which a crash leaves what is read, was one before
synced_before : (old new : DiskState) → Rests old new → IsSynced new → IsSynced old
synced_before old new rests synced =
    only_before old.seen old.images new.images rests.no_fewer (subst (λ (t : Option (List ℕ)). Only t new.images) rests.seen synced)

still_walked : (old new : JournalState) → Looks old new → StaysAt old new → IsWalked old → IsWalked new
still_walked old new looks stays walked =
    subst (λ (h : Header). Walked (header_bytes h) new.place new.count new.disk.seen) (sym looks.header)
    (subst (λ (n : ℕ). Walked (header_bytes old.header) n new.count new.disk.seen) (sym stays.place)
    (subst (λ (n : ℕ). Walked (header_bytes old.header) old.place n new.disk.seen) (sym stays.count)
    (subst (λ (s : Option (List ℕ)). Walked (header_bytes old.header) old.place old.count s) (sym looks.rests.seen) walked)))

module _ (b : Keeping) (old mid : JournalState) (goes : GoesWith b old) (reads : OnlyReads old.place 10 old mid) where
  pub gate_read : Spares old.disk.seen old.disk.ranges mid.disk.ranges
  gate_read = gate_told old.disk.seen b old.header old.place old.count old.disk mid.disk goes.kept reads.ranges

  pub walk_damaged : (at : ℕ) → HasDamage at old → RefusedAt at old.disk.seen
  walk_damaged at damage =
      subst (λ n. RefusedAt n old.disk.seen) (sym damage.here)
      (at_gate old.disk.seen old.header old.place old.count goes.header goes.walked
      (damaged_told old.disk.seen b old.header old.place old.count goes.kept (subst (λ n. IsDamaged n old.disk.seen) damage.here damage.damaged)))

  pub walk_ended : HasEnded old mid → EndsWith b mid
  walk_ended ended = record {
    closed = ended.closed;
    ends = λ synced. walk_halts old.place 10 old mid reads ended goes.walked (synced_before old.disk mid.disk reads.rests synced);
    last =
        subst (λ n. LastGateTold n mid.disk.seen) (sym ended.place)
        (subst (λ s. LastGateTold old.place s) (sym reads.rests.seen)
        (last_told old.disk.seen b old.header old.place old.count goes.kept goes.header goes.walked ended.gate));
    whole =
        subst (λ h. AreWhole b h mid.place mid.count mid.disk.seen) (sym reads.header)
        (subst (λ n. AreWhole b old.header n mid.count mid.disk.seen) (sym ended.place)
        (subst (λ n. AreWhole b old.header old.place n mid.disk.seen) (sym ended.count)
        (subst (λ s. AreWhole b old.header old.place old.count s) (sym reads.rests.seen)
        (end_told old.disk.seen b old.header old.place old.count goes.kept ended.gate))));
  }

  module _ (p : RecordPlace) (passed : HasPassed p old mid) where
    found_at : OpenAt p.at p.kind p.length old.disk.seen
    found_at = subst (λ n. OpenAt n p.kind p.length old.disk.seen) (sym passed.at) passed.found

    pub stands_whole : StandsWhole p mid.disk.seen
    stands_whole = record {
      payload = passed.payload;
      found = subst (λ s. OpenAt p.at p.kind p.length s) (sym reads.rests.seen) found_at;
    }

    pub record_read : (new : JournalState) → ReadsOf p mid.disk.seen mid.disk.ranges new.disk.ranges → Spares old.disk.seen old.disk.ranges new.disk.ranges
    record_read new more =
        spares_on old.disk.seen old.disk.seen old.disk.ranges mid.disk.ranges new.disk.ranges refl gate_read
        (record_told old.disk.seen b old.header old.place old.count p mid.disk.ranges new.disk.ranges goes.kept passed.at passed.payload found_at
        (subst (λ s. ReadsOf p s mid.disk.ranges new.disk.ranges) reads.rests.seen more))

    pub walk_on : (next : Keeping) (new : JournalState) → Looks mid new → StaysAt mid new → KeepsTold p mid.disk.seen b next → GoesOnTo old next new
    walk_on next new looks_new stays keeps =
        let count : suc old.count ≡ new.count = omega (arith, stays.count, passed.count) in
        let told = on_told old.disk.seen b next old.header old.place old.count p goes.kept passed.at passed.payload found_at (subst (λ s. KeepsTold p s b next) reads.rests.seen keeps) in
        record {
          goes = record {
            kept =
                subst (λ h. AreOpening next h new.place new.count new.disk.seen) (sym (looks_new.header ∙ reads.header))
                (subst (λ n. AreOpening next old.header n new.count new.disk.seen) (sym (stays.place ∙ passed.place))
                (subst (λ n. AreOpening next old.header (p.payload + p.length) n new.disk.seen) count
                (subst (λ s. AreOpening next old.header (p.payload + p.length) (suc old.count) s) (sym (looks_new.rests.seen ∙ reads.rests.seen)) told)));
            walked = still_walked mid new looks_new stays (walk_passes p old.place 10 old mid reads passed goes.walked);
            header = subst IsHeader (sym (looks_new.header ∙ reads.header)) goes.header;
          };
          count = stays.count ∙ passed.count;
          place = omega (arith, stays.place, passed.place, passed.payload, passed.at);
        }

    pub walk_refused : NoneTold p mid.disk.seen b → RefusedAt p.at old.disk.seen
    walk_refused none =
        subst (λ n. RefusedAt n old.disk.seen) (sym passed.at)
        (at_gate old.disk.seen old.header old.place old.count goes.header goes.walked
        (refused_told old.disk.seen b old.header old.place old.count p goes.kept passed.at passed.payload found_at (subst (λ s. NoneTold p s b) reads.rests.seen none)))

  pub load_refused : (at : ℕ) → IsNone mid.disk.seen → RefusedAt at old.disk.seen
  load_refused at none = none_refused old.disk.seen at (subst (λ s. IsNone s) reads.rests.seen none)

  pub all_looks : (new : JournalState) → Looks mid new → Looks old new
  all_looks new more = looks_on old mid new (looks old.place 10 old mid reads) more
