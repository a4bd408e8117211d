-- A record by what was loaded of it.
use Rattle.std.proofs.Common.{◌≡◌, ◌≢◌, ◌⊎◌, inl, inr, ℕ, ◌+◌, ◌<◌, List, [], ◌∷◌, ◌++◌, length, take, drop, get_or, set, Option, Some, None, sym, ap, subst, arith}
use Rattle.std.specs.Prelude.{IfSome}
use Rattle.std.proofs.lemmas.List.{length-drop, length-take-le}
use Rattle.log_seams.specs.Disk.{DiskState, ReadsOnly}
use Rattle.segment_format.specs.declared.head.Head.{Head}
use Rattle.disk_journal.specs.Record.{Saved}
use Rattle.disk_journal.specs.declared.walk.RecordPlace.{RecordPlace}
use Rattle.archive_meaning.specs.declared.entry.JournalEntry.{JournalEntry}
use Rattle.archive_meaning.specs.declared.entry.JournalEntry.TheVariants.{Files, Types, Words, Segment}
use Rattle.archive_meaning.specs.Spelled.{record_of, types_of}
use Rattle.archive_open.specs.declared.segments.SegmentPlace.{SegmentPlace}
use Rattle.archive_open.specs.Shown.{head_in}
use Rattle.archive_open.specs.StepsFiles.{GoesOn, file_with, no_file}
use Rattle.archive_open.specs.StepsNext.{Builds, BuildsNext, BuildsTold, Built, HeadTold, NoHeadTold, ReadsHead}
use Rattle.archive_open.specs.Walk.{IsNext, Keeping, KeepsNext, KeepsTold, NoneNext, NoneTold, ReadsOf, ReadsWithin, StandsWhole, payload_in, shown_len}
use Rattle.archive_open.proofs.NextLemmas.{is_segment, next_form, no_entry, no_head, no_segment, own_head, segment_built}
use Rattle.archive_open.proofs.ReadLemmas.{Ranges, nothing_read, read_within}

pub payload_size : (p : RecordPlace) (bytes : List ℕ) → StandsWhole p (Some bytes) → length (payload_in p bytes) ≡ p.length
payload_size p bytes whole =
    length-take-le p.length (drop p.payload bytes) (omega (arith, whole.found.within, whole.payload, length-drop p.payload bytes))

-- ---- segments

pub head_reads_of : (p : RecordPlace) (seen : Option (List ℕ)) (old new : Ranges) → p.kind ≡ 4 → ReadsHead p seen old new → ReadsOf p seen old new
head_reads_of p None old new four reads = tt
head_reads_of p (Some bytes) old new four reads = λ h es e next.
    let four_next : IsNext p.at 4 (payload_in p bytes) h es e = subst (λ k. IsNext p.at k (payload_in p bytes) h es e) four next in
    let is = is_segment (types_of es) e (payload_in p bytes) (next_form p.at 4 (payload_in p bytes) h es e four_next) four_next.saved in
    subst (λ f. ReadsWithin p.payload (shown_len (types_of es) f) old new) (sym is.1)
    (reads (head_in (types_of es) is.0) (own_head (types_of es) is.0 (payload_in p bytes) is.2 is.3))

pub none_without_head : (p : RecordPlace) (seen : Option (List ℕ)) (old : Keeping) → p.kind ≡ 4 → NoHeadTold p seen → NoneTold p seen old
none_without_head p None old four none = tt
none_without_head p (Some bytes) old four none =
    subst (λ k. NoneNext p.at k (payload_in p bytes) old) (sym four) (no_head p.at (payload_in p bytes) old none)

pub segment_told : (p : RecordPlace) (seen : Option (List ℕ)) (head : Head) (old new : Built) → StandsWhole p seen → p.kind ≡ 4 → HeadTold head p seen → new.kept ≡ old.kept
    → new.segments ≡ old.segments ++ (record { at = p.at; payload = p.payload; length = p.length; head = head }) ∷ []
    → new.files ≡ set old.files head.file (file_with (get_or old.files head.file no_file) head) → BuildsTold p seen old new
segment_told p None head old new whole four has kept segments files = tt
segment_told p (Some bytes) head old new whole four has kept segments files =
    let place : SegmentPlace = record { at = p.at; payload = p.payload; length = p.length; head = head } in
    let here : place ≡ record { at = p.at; payload = p.at + 10; length = length (payload_in p bytes); head = head } =
    λ i. record { at = p.at; payload = whole.payload i; length = sym (payload_size p bytes whole) i; head = head } in
    subst (λ k. BuildsNext p.at k (payload_in p bytes) old new) (sym four) (segment_built p.at (payload_in p bytes) head place old new has here kept segments files)

pub segment_not_told : (p : RecordPlace) (seen : Option (List ℕ)) (head : Head) (old : Built) → p.kind ≡ 4 → HeadTold head p seen
    → (head.file < length old.files → GoesOn (get_or old.files head.file no_file) head → ⊥) → NoneTold p seen (Builds old)
segment_not_told p None head old four has none = tt
segment_not_told p (Some bytes) head old four has none =
    subst (λ k. NoneNext p.at k (payload_in p bytes) (Builds old)) (sym four) (no_segment p.at (payload_in p bytes) head old has none)

-- ---- other records

listed_len : (types : List (List ℕ)) (e : JournalEntry) (kind : ℕ) (payload : List ℕ) → kind ≢ 4 → record_of types e ≡ record { kind = kind; payload = payload }
    → shown_len types e ≡ length payload
listed_len types (Files names) kind payload other is = ap (λ (r : Saved). length r.payload) is
listed_len types (Types first texts) kind payload other is = ap (λ (r : Saved). length r.payload) is
listed_len types (Words first texts) kind payload other is = ap (λ (r : Saved). length r.payload) is
listed_len types (Segment s) kind payload other is = absurd (other (sym (ap (λ (r : Saved). r.kind) is)))

pub loaded_reads_of : (p : RecordPlace) (seen : Option (List ℕ)) (old new : DiskState) → StandsWhole p seen → p.kind ≢ 4 → ReadsOnly p.payload p.length old new
    → ReadsOf p seen old.ranges new.ranges
loaded_reads_of p None old new whole other reads = tt
loaded_reads_of p (Some bytes) old new whole other reads = λ h es e next.
    let long : shown_len (types_of es) e ≡ length (payload_in p bytes) = listed_len (types_of es) e p.kind (payload_in p bytes) other next.saved in
    read_within p.payload p.length (shown_len (types_of es) e) old new (omega (arith, long, payload_size p bytes whole)) reads

pub none_reads_of : (p : RecordPlace) (seen : Option (List ℕ)) (old : Ranges) → ReadsOf p seen old old
none_reads_of p None old = tt
none_reads_of p (Some bytes) old = λ h es e next. nothing_read p.payload (shown_len (types_of es) e) old

pub loaded_told : (p : RecordPlace) (seen : Option (List ℕ)) (text : List ℕ) (old new : Keeping) → IfSome seen (λ bytes. text ≡ take p.length (drop p.payload bytes))
    → KeepsNext p.at p.kind text old new → KeepsTold p seen old new
loaded_told p None text old new these keeps = tt
loaded_told p (Some bytes) text old new these keeps = subst (λ l. KeepsNext p.at p.kind l old new) these keeps

pub loaded_not_told : (p : RecordPlace) (seen : Option (List ℕ)) (text : List ℕ) (old : Keeping) → IfSome seen (λ bytes. text ≡ take p.length (drop p.payload bytes))
    → NoneNext p.at p.kind text old → NoneTold p seen old
loaded_not_told p None text old these none = tt
loaded_not_told p (Some bytes) text old these none = subst (λ l. NoneNext p.at p.kind l old) these none

pub other_not_told : (p : RecordPlace) (seen : Option (List ℕ)) (old : Keeping) → (p.kind < 1) ⊎ (4 < p.kind) → NoneTold p seen old
other_not_told p None old other = tt
other_not_told p (Some bytes) old other = λ h es e next was.
    let within = no_entry (types_of es) e p.kind (payload_in p bytes) next.saved in
    elim other as (λ x. ⊥) [
      | inl low ↦ omega (arith, low, within.0)
      | inr high ↦ omega (arith, high, within.1)
    ]
