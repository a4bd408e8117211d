-- A segment that does not fit.
use Rattle.std.proofs.Common.{◌≡◌, ◌⊎◌, ⊎_elim, inl, inr, ℕ, ◌+◌, ◌<◌, List, ◌++◌, length, sym, ap, ◌∙◌, subst}
use Rattle.std.specs.Prelude.{is_some, min}
use mathlib.Core.List.{IsPrefix}
use Rattle.log_seams.specs.Disk.{DiskState}
use Rattle.turn_lock.specs.Words.{about, noted, number_of, seen}
use Rattle.turn_lock.proofs.FrontLemmas.{prefix_self, prefix_trans}
use Rattle.record_format.specs.declared.header.Header.{Header}
use Rattle.row_codec.specs.declared.namer.Which.{Which}
use Rattle.row_codec.specs.declared.namer.Which.TheVariants.{Types, Words}
use Rattle.row_codec.specs.Means.{AreCanonical}
use Rattle.archive_meaning.specs.declared.entry.JournalEntry.{JournalEntry}
use Rattle.archive_meaning.specs.declared.entry.SegmentEntry.{SegmentEntry}
use Rattle.archive_meaning.specs.Spelled.{end_of, words_named}
use Rattle.segment_format.specs.Layout.{sorted_set}
use Rattle.disk_seal.specs.declared.namer.LockNamer.{LockNamer}
use Rattle.disk_seal.specs.Draft.{journal_seen}
use Rattle.disk_seal.specs.Fixed.{KeeperPass}
use Rattle.disk_seal.specs.Planned.{segment_of}
use Rattle.disk_seal.specs.Prepare.{IsFullAt, need_behind}
use Rattle.disk_seal.proofs.ToldLemmas.{told_map}
use Rattle.ingest_workers.specs.declared.open_segment.OpenSegment.{OpenSegment}
use Rattle.ingest_workers.specs.Full.{Books, IsMore, book_of, books_by}
use Rattle.ingest_workers.specs.OpenSegment.{HasMessages}
use Rattle.ingest_workers.specs.MaySeal.{HasNoRoomFor}
use Rattle.ingest_workers.specs.Namer.{types_pass, types_seen, words_pass, words_seen}
use Rattle.ingest_workers.specs.NoRoom.{FoundNoRoom, IsBetween, WereKnown}
use Rattle.ingest_meaning.specs.Room.{HadNoRoom}
use Rattle.ingest_meaning.specs.Parts.{part_in}
use Rattle.ingest_meaning.specs.Parts.{IsCut, IsOpen}
use Rattle.ingest_workers.proofs.OpenSegmentLemmas.{same_numbers}
use Rattle.ingest_workers.proofs.JournalLemmas.{all_canonical, seen_front}
use Rattle.ingest_workers.proofs.SealLemmas.{if_told, of_told}

abbrev Texts : Type 0
Texts = List (List ℕ)

abbrev Entries : Type 0
Entries = List JournalEntry

-- ---- the same where more is told of less

module _ (h : Header) (limit version file : ℕ) (was was' : Entries → Type 0) (has has' : Entries → Which → Texts → Type 0) (follow follow' last last' : Texts → Type 0) where
  pub no_room_on : (sealed : Texts) (end need : ℕ) → ((es : Entries) → was es → was' es) → ((es : Entries) (book : Which) (texts : Texts) → has es book texts → has' es book texts) → ((ms : Texts) → follow ms → follow' ms) → ((ms : Texts) → last ms → last' ms)
      → HadNoRoom h limit version file was has follow last sealed end need → HadNoRoom h limit version file was' has' follow' last' sealed end need
  no_room_on sealed end need f g k l r = record {
    front = r.front;
    was_so = f r.front r.was_so;
    ends = r.ends;
    past = r.past;
    types = r.types;
    words = r.words;
    has_types = g r.front Types r.types r.has_types;
    has_words = g r.front Words r.words r.has_words;
    segment = r.segment;
    numbers = r.numbers;
    messages = r.messages;
    file_is = r.file_is;
    next = r.next;
    follows = k (sealed ++ r.messages) r.follows;
    cut = ⊎_elim (λ (cut : IsCut limit (part_in r.segment r.messages)). inl cut)
        (λ (open_end : IsOpen limit (part_in r.segment r.messages) × last (sealed ++ r.messages)). inr (open_end.0, l (sealed ++ r.messages) open_end.1)) r.cut;
    canonical = r.canonical;
    numbers_are = r.numbers_are;
    needs = r.needs;
  }

module _ {D : Type 0} (state : D → DiskState) (limit version : ℕ) (books books' : Books) (follow follow' last last' : Texts → Type 0) (p q : KeeperPass D) where
  pub found_on : ((book : Which) → IsMore (book_of books book) (book_of books' book)) → ((ms : Texts) → follow ms → follow' ms) → ((ms : Texts) → last ms → last' ms) → (sealed : Texts) (end need : ℕ)
      → FoundNoRoom state limit version books follow last p q sealed end need → FoundNoRoom state limit version books' follow' last' p q sealed end need
  found_on more k l sealed end need r = (
    r.0,
    λ a is. told_map (is_some (state a.fixed.opened).seen)
        (no_room_on a.fixed.header limit version (number_of p) _ _ (WereKnown books) (WereKnown books') follow follow' last last' sealed end need (λ es was. was)
        (λ es book texts on. prefix_trans texts (book_of books book).texts (book_of books' book).texts on (more book).front) k l) (r.1 a is),
  )

-- ---- an open segment that is not sealed

module _ {D R A B C : Type 0} (state : D → DiskState) (limit version : ℕ) (start p q : KeeperPass D) (m n : LockNamer R A B C) (segment : OpenSegment) (covered messages taken : Texts) (last : Texts → Type 0) where
  pub found_room : (end need : ℕ) → segment.draft.file ≡ number_of start → segment.draft.first ≡ length covered → about p ≡ about start → IsPrefix (seen start) (seen q) → IsPrefix (covered ++ messages) taken
      → IsCut limit (record { rows = segment.draft.columns.rows; messages = messages }) ⊎ (IsOpen limit (record { rows = segment.draft.columns.rows; messages = messages }) × last (covered ++ messages))
      → HasMessages version (types_seen m) (words_seen m) messages segment → HasNoRoomFor state segment end need p q m n
      → FoundNoRoom state limit version (books_by (types_pass n) (words_pass n)) (λ first. IsPrefix first taken) last start q covered end need
  found_room end need file first same on follows cut has room = (
    λ a is. room.no_room.full.past a (same ∙ is),
    λ a is. if_told (is_some (state a.fixed.opened).seen) _ (λ told. found a.fixed.header (room.no_room.full.past a (same ∙ is))
        (of_told (is_some (state a.fixed.opened).seen) _ told (room.no_room.full.ends a (same ∙ is))) (of_told (is_some (state a.fixed.opened).seen) _ told (room.no_room.full.needs a (same ∙ is)))),
  )
    where
      full : IsFullAt state room.draft end need room.no_room.types room.no_room.words (types_seen m) (words_seen m) p q
      full = room.no_room.full

      types : Texts
      types = noted room.no_room.types

      words : Texts
      words = noted room.no_room.words

      rows_are : room.draft.columns.rows ≡ segment.draft.columns.rows
      rows_are = ap (λ (s : SegmentEntry). s.rows) room.is

      found : (h : Header) → h.length_limit < end + need → end ≡ end_of h (journal_seen (seen q)) → need ≡ min (need_behind room.draft (journal_seen (seen q)) types words) 18446744073709551615
          → HadNoRoom h limit version (number_of start) (IsBetween (journal_seen (seen start)) (journal_seen (seen q))) (WereKnown (books_by (types_pass n) (words_pass n))) (λ first. IsPrefix first taken) last covered end need
      found h past ends needs = record {
        front = journal_seen (seen q);
        was_so = (seen_front (seen start) (seen q) on, prefix_self (journal_seen (seen q)));
        ends = ends;
        past = past;
        types = types;
        words = words;
        has_types = room.no_room.types_on;
        has_words = room.no_room.words_on;
        segment = segment_of room.draft;
        numbers = room.draft.words;
        messages = messages;
        file_is = ap (λ (s : SegmentEntry). s.file) room.is ∙ file;
        next = ap (λ (s : SegmentEntry). s.first) room.is ∙ first;
        follows = follows;
        cut = subst (λ rows. IsCut limit (record { rows = rows; messages = messages }) ⊎ (IsOpen limit (record { rows = rows; messages = messages }) × last (covered ++ messages))) (sym rows_are) cut;
        canonical = subst (λ rows. AreCanonical version rows types words messages) (sym rows_are)
            (all_canonical version segment.draft.columns.rows (types_seen m) (words_seen m) types words messages full.types_on full.words_on has.canonical);
        numbers_are = room.words ∙ (ap sorted_set (has.used ∙ same_numbers version segment.draft.columns.rows (types_seen m) (words_seen m) types messages full.types_on has.canonical) ∙ ap (words_named types) (sym rows_are));
        needs = needs;
      }
