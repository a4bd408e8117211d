-- What grows with a record, by what is built of it.
use Rattle.std.proofs.Common.{◌≡◌, ◌≢◌, ℕ, ◌+◌, ◌<◌, List, [], ◌∷◌, ◌++◌, length, get_or, set, refl, sym, ◌∙◌, ap, arith}
use Rattle.std.proofs.lemmas.List.{append-nil}
use Rattle.disk_journal.specs.Record.{Saved}
use Rattle.record_format.specs.declared.header.Header.{Header}
use Rattle.segment_format.specs.declared.head.Head.{Head}
use Rattle.archive_meaning.specs.declared.entry.JournalEntry.{JournalEntry}
use Rattle.archive_meaning.specs.declared.entry.JournalEntry.TheVariants.{Files, Types, Words, Segment}
use Rattle.archive_meaning.specs.Spelled.{record_of, types_of}
use Rattle.archive_open.specs.declared.segments.SegmentPlace.{SegmentPlace}
use Rattle.archive_open.specs.Grown.{GrownView, Grows, GrowsNext, NoneGrows}
use Rattle.archive_open.specs.Shown.{places_of}
use Rattle.archive_open.specs.StepsFiles.{GoesOn, file_with, no_file}
use Rattle.archive_open.specs.StepsNext.{Builds, BuildsNext, Built, HasHead}
use Rattle.archive_open.specs.Walk.{NoneNext}
use Rattle.archive_open.proofs.NextLemmas.{follows, no_entry, no_segment, places_more, segment_built}

-- with places of segments beside
abbrev pub with_segments : GrownView → List SegmentPlace → Built
with_segments g ps = record { kept = g.kept; files = g.files; segments = ps }

-- without them
abbrev pub grown_in : Built → GrownView
grown_in b = record { kept = b.kept; files = b.files }

built_with : (g : GrownView) (h : Header) (es : List JournalEntry) → Grows g h es → Builds (with_segments g (places_of es)) h es
built_with g h es grows held run = let is = grows held run in record { kept = is.kept; files = is.files; segments = refl }

grown_by : (b : Built) (h : Header) (es : List JournalEntry) → Builds b h es → Grows (grown_in b) h es
grown_by b h es built held run = let is = built held run in record { kept = is.kept; files = is.files }

-- ---- from what is built

pub grows_next : (kind : ℕ) (payload : List ℕ) (old new : GrownView)
    → ((segments : List SegmentPlace) (at : ℕ) → BuildsNext at kind payload (with_segments old segments) (with_segments new segments)) → GrowsNext kind payload old new
grows_next kind payload old new builds at h es e next grows held run =
    let is = builds (places_of es) at h es e next (built_with old h es grows) held run in record { kept = is.kept; files = is.files }

pub none_grows : (kind : ℕ) (payload : List ℕ) (old : GrownView) → ((segments : List SegmentPlace) (at : ℕ) → NoneNext at kind payload (Builds (with_segments old segments))) → NoneGrows kind payload old
none_grows kind payload old none at h es e next grows = none (places_of es) at h es e next (built_with old h es grows)

pub head_grows : (payload : List ℕ) (head : Head) (old new : GrownView) → HasHead head payload → new.kept ≡ old.kept
    → new.files ≡ set old.files head.file (file_with (get_or old.files head.file no_file) head) → GrowsNext 4 payload old new
head_grows payload head old new has kept files at h es e next grows held run =
    let place : SegmentPlace = record { at = at; payload = at + 10; length = length payload; head = head } in
    let is = segment_built at payload head place (with_segments old (places_of es)) (with_segments new (places_of es ++ place ∷ [])) has refl kept refl files h es e next (built_with old h es grows) held run in
    record { kept = is.kept; files = is.files }

pub no_head_grows : (payload : List ℕ) (head : Head) (old : GrownView) → HasHead head payload
    → (head.file < length old.files → GoesOn (get_or old.files head.file no_file) head → ⊥) → NoneGrows 4 payload old
no_head_grows payload head old has none = none_grows 4 payload old (λ segments at. no_segment at payload head (with_segments old segments) has none)

-- a record of no kind
pub other_grows : (kind : ℕ) (payload : List ℕ) (old : GrownView) → kind ≢ 1 → kind ≢ 2 → kind ≢ 3 → kind ≢ 4 → NoneGrows kind payload old
other_grows kind payload old one two three four at h es e next grows =
    let within = no_entry (types_of es) e kind payload next.saved in omega (arith, within.0, within.1, one, two, three, four)

-- ---- to what is built

listed_places : (h : Header) (es : List JournalEntry) (e : JournalEntry) (kind : ℕ) (payload : List ℕ) → kind ≢ 4 → record_of (types_of es) e ≡ record { kind = kind; payload = payload }
    → places_of (es ++ e ∷ []) ≡ places_of es
listed_places h es (Files names) kind payload other is = places_more h es (Files names) ∙ append-nil (places_of es)
listed_places h es (Types first texts) kind payload other is = places_more h es (Types first texts) ∙ append-nil (places_of es)
listed_places h es (Words first texts) kind payload other is = places_more h es (Words first texts) ∙ append-nil (places_of es)
listed_places h es (Segment s) kind payload other is = absurd (other (sym (ap (λ (r : Saved). r.kind) is)))

pub builds_listed : (kind : ℕ) (payload : List ℕ) (old new : Built) → kind ≢ 4 → new.segments ≡ old.segments → GrowsNext kind payload (grown_in old) (grown_in new)
    → (at : ℕ) → BuildsNext at kind payload old new
builds_listed kind payload old new other segments grows at h es e next built held run =
    let is = grows at h es e next (grown_by old h es built) held run in
    let f = follows h es e held next.legal run in
    record {
      kept = is.kept;
      files = is.files;
      segments = segments ∙ (built f.held f.run).segments ∙ sym (listed_places h es e kind payload other next.saved);
    }

pub none_listed : (kind : ℕ) (payload : List ℕ) (old : Built) → NoneGrows kind payload (grown_in old) → (at : ℕ) → NoneNext at kind payload (Builds old)
none_listed kind payload old none at h es e next built = none at h es e next (grown_by old h es built)
