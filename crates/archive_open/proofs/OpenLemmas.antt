-- How opening begins and ends.
use Rattle.std.proofs.Common.{◌≡◌, inr, ℕ, ◌+◌, ◌-◌, List, [], ◌++◌, Option, Some, None, sym, ◌∙◌, ap, subst, arith}
use Rattle.std.specs.Prelude.{IfSome}
use Rattle.std.specs.List.Sorted.{IsPermutation, IsNonDecreasingBy}
use Rattle.std.proofs.lemmas.List.{append-nil}
use Rattle.log_seams.specs.Disk.{DiskState, KeepsBytes, ReadsOnly}
use Rattle.record_format.specs.declared.header.Header.{Header}
use Rattle.record_format.specs.Header.{IsHeader, header_bytes}
use Rattle.disk_journal.specs.Place.{Walked}
use Rattle.disk_journal.specs.State.{BeginsWith, IsAtFirst, JournalState}
use Rattle.disk_journal.specs.Calls.{HasNoHeader}
use Rattle.archive_open.specs.Kept.{none_of}
use Rattle.archive_open.specs.Shown.{HasLastGate, IsLastGate, Looks, Opens, RefusedAt, Shown, Spares, StandsForNone, order_of}
use Rattle.archive_open.specs.StepsNext.{AreOpening, Builds, Built, GoesWith, IsBuilt}
use Rattle.archive_open.specs.Walk.{AreWhole, EndsWith, Keeping, LastGateTold}
use Rattle.disk_journal.proofs.JournalLemmas.{walk_starts}
use Rattle.archive_open.proofs.AsideLemmas.{header_aside, spares_on, within_aside}
use Rattle.archive_open.proofs.ReadLemmas.{Ranges, read_within}
use Rattle.archive_open.proofs.WalkLemmas.{no_header, opening_starts}

-- ---- the beginning

pub builds_none : (b : Built) (h : Header) → b.kept ≡ none_of h → b.files ≡ [] → b.segments ≡ [] → Builds b h []
builds_none b h kept files segments held run = subst (λ x. IsBuilt b h [] x) (sym run) (record { kept = kept; files = files; segments = segments })

starts_told : (seen : Option (List ℕ)) (b : Keeping) (h : Header) → IsHeader h → Walked (header_bytes h) 32 0 seen → b h [] → AreOpening b h 32 0 seen
starts_told None b h is walked kept = tt
starts_told (Some bytes) b h is walked kept =
    opening_starts b h bytes walked.rest is (walked.spells ∙ ap (λ (l : List ℕ). l ++ walked.rest) (append-nil (header_bytes h))) kept

pub goes_first : (b : Keeping) (j : JournalState) → IsAtFirst j → BeginsWith j.header j.disk → b j.header [] → GoesWith b j
goes_first b j first begins kept = record {
  kept =
      subst (λ n. AreOpening b j.header n j.count j.disk.seen) (sym first.place)
      (subst (λ n. AreOpening b j.header 32 n j.disk.seen) (sym first.count)
      (starts_told j.disk.seen b j.header begins.legal begins.walked kept));
  walked = walk_starts j first begins;
  header = begins.legal;
}

-- ---- the end

opens_told : (seen : Option (List ℕ)) (b : Built) (header : Header) (place count : ℕ) (a : Shown) → AreWhole (Builds b) header place count seen → a.header ≡ header → a.kept ≡ b.kept → a.files ≡ b.files
    → IsPermutation b.segments a.segments → IsNonDecreasingBy order_of a.segments → a.entries ≡ count → a.end ≡ place + 1 → Opens seen a
opens_told None b header place count a whole is_header kept files same sorted entries end = tt
opens_told (Some bytes) b header place count a whole is_header kept files same sorted entries end = λ h es stood.
    let w = whole h es stood in
    let built : IsBuilt b h es stood.legal.held = w.kept stood.legal.held stood.legal.run in
    record {
      header = is_header ∙ sym w.one;
      kept = kept ∙ built.kept;
      files = files ∙ built.files;
      segments = subst (λ l. IsPermutation l a.segments) built.segments same;
      sorted = sorted;
      entries = entries ∙ w.all;
      end = end ∙ ap (λ n. n + 1) w.gate;
    }

pub opens : (b : Built) (old new : JournalState) (a : Shown) → Looks old new → EndsWith (Builds b) new → a.header ≡ old.header → a.kept ≡ b.kept → a.files ≡ b.files
    → IsPermutation b.segments a.segments → IsNonDecreasingBy order_of a.segments → a.entries ≡ new.count → a.end ≡ new.place + 1 → Opens old.disk.seen a
opens b old new a looks ends is_header kept files same sorted entries end =
    opens_told old.disk.seen b new.header new.place new.count a (subst (λ s. AreWhole (Builds b) new.header new.place new.count s) looks.rests.seen ends.whole)
    (is_header ∙ sym looks.header) kept files same sorted entries end

last_gate_told : (seen : Option (List ℕ)) (place : ℕ) (a : Shown) → LastGateTold place seen → a.end ≡ place + 1 → HasLastGate seen a
last_gate_told None place a last end = tt
last_gate_told (Some bytes) place a last end =
    let same : place ≡ a.end - 1 = omega (arith, end) in
    subst (λ n. IsLastGate n bytes) same last

pub has_last_gate : (b : Keeping) (old new : JournalState) (a : Shown) → Looks old new → EndsWith b new → a.end ≡ new.place + 1 → HasLastGate old.disk.seen a
has_last_gate b old new a looks ends end =
    last_gate_told old.disk.seen new.place a (subst (λ s. LastGateTold new.place s) looks.rests.seen ends.last) end

-- where it turns out later that the bytes stand for no journal, the last gate may be told
pub refused_at_last : (seen later : Option (List ℕ)) (a : Shown) (at : ℕ) → later ≡ seen → HasLastGate seen a → at ≡ a.end - 1 → IfSome later StandsForNone → RefusedAt at seen
refused_at_last None later a at same last is none = tt
refused_at_last (Some bytes) later a at same last is none =
    subst (λ n. RefusedAt n (Some bytes)) (sym is) (record { none = subst (λ s. IfSome s StandsForNone) same none; behind = last.behind; gate = inr last.gate })

-- ---- the header

header_told : (seen : Option (List ℕ)) (old new : DiskState) → ReadsOnly 0 32 old new → Spares seen old.ranges new.ranges
header_told None old new reads = tt
header_told (Some bytes) old new reads = λ h es stood.
    within_aside h es 0 32 old.ranges new.ranges (read_within 0 32 32 old new (omega arith) reads) (λ x k low high. header_aside h es x k (omega (arith, high)))

pub header_spared : (old new : DiskState) → ReadsOnly 0 32 old new → Spares old.seen old.ranges new.ranges
header_spared old new reads = header_told old.seen old new reads

pub all_spared : (old mid : DiskState) (new : Ranges) → KeepsBytes old mid → ReadsOnly 0 32 old mid → Spares mid.seen mid.ranges new → Spares old.seen old.ranges new
all_spared old mid new keeps reads more = spares_on old.seen mid.seen old.ranges mid.ranges new keeps.seen (header_spared old mid reads) more

pub start_refused : (at : ℕ) (d : DiskState) → HasNoHeader at d → RefusedAt at d.seen
start_refused at d none = no_header at d.seen none.damaged none.first

pub opens_before : (old mid : DiskState) (a : Shown) → KeepsBytes old mid → Opens mid.seen a → Opens old.seen a
opens_before old mid a keeps is = subst (λ s. Opens s a) keeps.seen is

pub last_gate_before : (old mid : DiskState) (a : Shown) → KeepsBytes old mid → HasLastGate mid.seen a → HasLastGate old.seen a
last_gate_before old mid a keeps is = subst (λ s. HasLastGate s a) keeps.seen is

pub refused_before : (old mid : DiskState) (at : ℕ) → KeepsBytes old mid → RefusedAt at mid.seen → RefusedAt at old.seen
refused_before old mid at keeps is = subst (λ s. RefusedAt at s) keeps.seen is
