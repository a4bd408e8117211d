-- The journal of an archive that was just made, and what it leaves of the disk.
use Rattle.std.proofs.Common.{◌≡◌, ◌≤◌, refl, sym, ap, subst, ◌∙◌, ℕ, true, List, [], ◌∷◌, ◌++◌, length, Option, Some, None, arith}
use Rattle.std.specs.Prelude.{IfSome, is_some}
use Rattle.std.proofs.lemmas.List.{length-append}
use Rattle.log_seams.specs.Disk.{DiskState, IsLawful, IsSynced, Only, Reads}
use Rattle.log_seams.specs.Outside.{Rose}
use Rattle.record_format.specs.Header.{IsHeader, header_bytes}
use Rattle.record_format.specs.declared.header.Header.{Header}
use Rattle.record_format.specs.declared.header.TheConstants.{HEADER_LEN}
use Rattle.record_format.proofs.HeaderLemmas.{length-header_bytes}
use Rattle.disk_journal.specs.Created.{MakesEmpty}
use Rattle.disk_journal.specs.Place.{AtEnd, entries}
use Rattle.disk_journal.specs.State.{JournalState}
use Rattle.disk_journal.specs.declared.record.TheConstants.{CLOSED_GATE}
use Rattle.archive_meaning.specs.Held.{Held, nothing_held}
use Rattle.archive_meaning.specs.Legal.{Run}
use Rattle.archive_meaning.specs.Spelled.{end_of, records_of}
use Rattle.archive_meaning.specs.Stands.{IsLegal}
use Rattle.archive_meaning.specs.declared.entry.JournalEntry.{JournalEntry}
use Rattle.archive_meaning.proofs.RunLemmas.{one_held}
use Rattle.disk_seal.specs.Told.{journal_in}
use Rattle.ingest_workers.specs.Ingested.{told_entries}
use Rattle.name_records.proofs.LeftLemmas.{by_told}
use Rattle.command_refusals.specs.GoesOn.{DiskGoesOn}
use Rattle.command_answers.specs.Benched.{at_moment}
use Rattle.command_answers.specs.Ingested.{LeavesJournal}
use Rattle.command_answers.specs.Upgrading.{FromNew, header_for}
use Rattle.upgrade_command.specs.Filling.{IsNewJournal}

-- the limits of an archive with another version
pub header_new : (h : Header) → IsHeader h → IsHeader (header_for h)
header_new h is = record {
  least_version = omega arith;
  most_version = omega arith;
  least_types = is.least_types;
  most_types = is.most_types;
  least_words = is.least_words;
  most_words = is.most_words;
  least_length = is.least_length;
  most_length = is.most_length;
}

-- ---- the empty journal

abbrev made_of : Header → List ℕ
made_of h = header_bytes h ++ CLOSED_GATE ∷ []

size_none : (h : Header) → end_of h [] ≡ 33
size_none h = omega (arith, length-append (header_bytes h) [], length-header_bytes h)

legal_none : (h : Header) → IsHeader h → IsLegal h []
legal_none h is = record { held = nothing_held; run = refl; named = tt; short = omega (arith, size_none h, is.least_length) }

none_told : (told : Option (List ℕ)) → journal_in told 0 ≡ []
none_told None = refl
none_told (Some bytes) = refl

none_spelled : (told : Option (List ℕ)) → entries told 0 ≡ []
none_spelled None = refl
none_spelled (Some bytes) = refl

at_end : (h : Header) (told : Option (List ℕ)) (images : List ℕ → Type 0) → IfSome told (λ b. b ≡ made_of h) → Only told images → AtEnd (header_bytes h) HEADER_LEN 0 told images
unfolding header_bytes
at_end h None images reads only = tt
at_end h (Some bytes) images reads only = record {
  header = length-header_bytes h;
  stands = record { gate = CLOSED_GATE; rest = []; spells = reads; closed = λ e. absurd (cc (e)) };
  at = omega (arith, length-append (header_bytes h) [], length-header_bytes h);
  counted = refl;
  fit = tt;
  only = only;
}

pub new_journal : (j : JournalState) → IsHeader j.header → Reads (made_of j.header) j.disk → IsSynced j.disk → j.place ≡ HEADER_LEN → j.count ≡ 0 → j.closed ≡ true → IsNewJournal j
new_journal j header reads synced place count closed = record {
  opens = record {
    ends = record { closed = closed; ends = subst (λ n. AtEnd (header_bytes j.header) n j.count j.disk.seen j.disk.images) (sym place) (subst (λ n. AtEnd (header_bytes j.header) HEADER_LEN n j.disk.seen j.disk.images) (sym count) (at_end j.header j.disk.seen j.disk.images reads synced)) };
    header = header;
    spelled = spelled;
    legal = by_told (is_some j.disk.seen) (λ told. subst (IsLegal j.header) (sym none) (legal_none j.header header));
  };
  holds = by_told (is_some j.disk.seen) (λ told legal. held_none legal);
  entries = none;
}
  where
    none : told_entries j ≡ []
    none = ap (λ n. journal_in j.disk.seen n) count ∙ none_told j.disk.seen

    spelled : entries j.disk.seen j.count ≡ records_of (journal_in j.disk.seen j.count)
    spelled = ap (λ n. entries j.disk.seen n) count ∙ (none_spelled j.disk.seen ∙ sym (ap records_of none))

    held_none : (legal : IsLegal j.header (told_entries j)) → 0 ≡ length legal.held.names
    held_none legal =
        let same = one_held j.header nothing_held legal.held nothing_held (told_entries j) legal.run (subst (λ es. Run j.header nothing_held es nothing_held) (sym none) refl) in
        sym (ap (λ (x : Held). length x.names) same)

-- ---- from the moment on at which it was made

module _ (h : Header) (old mid : DiskState) (made : MakesEmpty h old mid) (tells : is_some mid.seen ≡ is_some old.seen) (later : old.clock ≤ mid.clock) (steady : mid.faults ≡ old.faults) (law : IsLawful mid) where
  pub from_new : (new : DiskState) → DiskGoesOn mid new → (P : DiskState → Type 0) → (is_some mid.seen ≡ true → P (at_moment mid.clock old)) → FromNew h old new P
  from_new new goes P holds = go old.seen mid.seen made.none made.made tells law.reads_as holds
    where
      go : (was now : Option (List ℕ)) → IfSome was (λ told. told ≡ []) → IfSome now (λ told. told ≡ made_of h) → is_some now ≡ is_some was → IfSome now mid.images → (is_some now ≡ true → P (at_moment mid.clock old))
          → IfSome was (λ w. (w ≡ []) × ((t : ℕ) × ((old.clock ≤ t) × new.since t (made_of h) × P (at_moment t old))))
      go None now none made tells reads holds = tt
      go (Some was) None none made tells reads holds = absurd (cc (tells))
      go (Some was) (Some bytes) none made tells reads holds =
          (none, (mid.clock, (later, goes.moments.keeps mid.clock (made_of h) (omega arith) (law.counts_now mid.clock (made_of h) (omega arith) (subst mid.images made reads)), holds refl)))

  pub leaves_from : (es : List JournalEntry) (new : DiskState) → LeavesJournal h [] es mid new → LeavesJournal h [] es (at_moment mid.clock old) new
  leaves_from es new leaves = record {
    tail = leaves.tail;
    one = leaves.one;
    none = λ calm. leaves.none (λ risen. calm (subst (λ n. Rose n new.faults) steady risen));
    reads = leaves.reads;
    now = leaves.now;
    since = leaves.since;
  }
