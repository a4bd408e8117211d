-- The last segment of a file.
use Rattle.std.proofs.Common.{◌≡◌, ◌⊎◌, inl, inr, ℕ, zero, suc, ◌<◌, ◌≤◌, List, [], ◌∷◌, ◌++◌, Bool, true, false, length, refl, sym, ap, ap₂, ◌∙◌, subst, arith, append-nil, length-append, Option, None, Some}
use Rattle.std.specs.Prelude.{is_some, ◌&&◌}
use Rattle.log_seams.specs.Disk.{DiskState}
use Rattle.turn_lock.specs.Words.{seen, about, number_of}
use mathlib.Core.List.{IsPrefix}
use Rattle.turn_lock.proofs.FrontLemmas.{prefix_self, prefix_trans}
use Rattle.column_store.specs.Columns.{ColumnsState, IsFull}
use Rattle.column_store.specs.declared.row.Row.{Row}
use Rattle.archive_meaning.specs.declared.entry.SegmentEntry.{SegmentEntry}
use Rattle.archive_meaning.specs.declared.TheConstants.{MAX_ROWS, MAX_MESSAGES}
use Rattle.archive_meaning.specs.Held.{last_is_open}
use Rattle.disk_seal.specs.declared.namer.LockNamer.{LockNamer}
use Rattle.disk_seal.specs.Draft.{journal_seen}
use Rattle.disk_seal.specs.Fixed.{KeeperPass}
use Rattle.disk_seal.specs.Planned.{segment_of}
use Rattle.ingest_workers.specs.declared.open_segment.OpenSegment.{OpenSegment}
use Rattle.ingest_workers.specs.declared.outcome.Cause.{Cause}
use Rattle.ingest_workers.specs.declared.outcome.Cause.TheVariants.{ReadFault, LineTooLong, TooManyLines, Full, DiskFault, ArchiveFull, OutOfMemory}
use Rattle.ingest_workers.specs.Causes.{HasSealCause}
use Rattle.ingest_workers.specs.Doing.{Covering, Doing}
use Rattle.ingest_workers.specs.Done.{IsOutcome}
use Rattle.ingest_workers.specs.Full.{Books, books_by}
use Rattle.ingest_workers.specs.OpenSegment.{SameRows}
use Rattle.ingest_workers.specs.Journal.{FrontHolds, Holds}
use Rattle.ingest_workers.specs.MaySeal.{HasNoRoomFor, MaySeal, IsEmptied}
use Rattle.ingest_workers.specs.Namer.{types_pass, types_seen, words_pass, words_seen}
use Rattle.ingest_workers.specs.NoRoom.{FoundNoRoom, HasNoRoomBy}
use Rattle.ingest_meaning.specs.Parts.{IsOpen, Part, columns_of, front, messages_in, rest_of, segments_from}
use Rattle.ingest_workers.specs.Sealed.{HasNotSealed, HasSealed, NowHas}
use Rattle.ingest_workers.specs.FileEnd.{refused_by}
use Rattle.ingest_workers.proofs.CauseLemmas.{seal_cause}
use Rattle.ingest_workers.proofs.MaySealLemmas.{nothing_sealed}
use Rattle.ingest_workers.proofs.DoingLemmas.{covering, few_in_hand, has_room, rows_same}
use Rattle.ingest_workers.proofs.NoRoomLemmas.{found_room}
use Rattle.ingest_workers.proofs.PartLemmas.{added_on, sealed_joined}
use Rattle.ingest_workers.proofs.SealLemmas.{if_told, of_told}

abbrev Texts : Type 0
Texts = List (List ℕ)

at_most_one : (why : Option Cause) → refused_by why ≤ 1
at_most_one None = omega arith
at_most_one (Some ReadFault) = omega arith
at_most_one (Some (LineTooLong line)) = omega arith
at_most_one (Some TooManyLines) = omega arith
at_most_one (Some (Full book count)) = omega arith
at_most_one (Some (DiskFault opened now)) = omega arith
at_most_one (Some (ArchiveFull end need)) = omega arith
at_most_one (Some OutOfMemory) = omega arith

-- the open segment with the marks of the last segment
abbrev pub marked : Bool → OpenSegment → OpenSegment
marked ended segment = record segment { draft = record segment.draft { last = true; ended = ended } }

module _ {D R A B C : Type 0} (state : D → DiskState) (limit : ℕ) (start p : KeeperPass D) (m : LockNamer R A B C) (segment : OpenSegment) (taken : Texts) (ended : Bool) (d : Doing state limit start p m segment taken) where
  abbrev part : Part
  part = record { rows = segment.draft.columns.rows; messages = d.messages }

  pub may_seal_last : limit ≤ MAX_ROWS → length taken ≤ MAX_MESSAGES → (ended ≡ false → last_is_open taken ≡ true) → MaySeal state p m (marked ended segment)
  may_seal_last most few at_end = record {
    covered = messages_in d.closed;
    messages = d.messages;
    worker = d.worker;
    file = d.file;
    first = d.first;
    so_far = d.so_far;
    has = rows_same m.version (types_seen m) (words_seen m) d.messages segment (marked ended segment) (record { columns = refl; used = refl }) d.has;
    each = d.each;
    few = omega (arith, (has_room state limit start p m segment taken d most).rows);
    most = omega (arith, few, ap length d.taken_is, length-append (messages_in d.closed) d.messages, d.first, d.not_yet.even);
    some = λ is. absurd (cc (is));
    ended = λ is. refl;
    end = λ last open_end. ap last_is_open (sym d.taken_is) ∙ at_end open_end;
  }

  -- the rest does not fit
  pub rest_found : (at : OpenSegment) (q : KeeperPass D) (now : LockNamer R A B C) (cause : Cause) → SameRows segment at → at.draft.file ≡ segment.draft.file → at.draft.first ≡ segment.draft.first → HasNotSealed state p q
      → ((end need : ℕ) → cause ≡ ArchiveFull end need → HasNoRoomFor state at end need p q m now) → HasSealCause state (HasNoRoomBy p) p q cause
      → HasSealCause state (FoundNoRoom state limit m.version (books_by (types_pass now) (words_pass now)) (λ first. IsPrefix first taken) (λ all. all ≡ taken) start q (messages_in d.closed)) start q cause
  rest_found at q now cause same file first none room has = seal_cause state start p q d.added.still.about_is _ _ cause
      (λ end need is. found_room state limit m.version start p q m now at (messages_in d.closed) d.messages taken (λ all. all ≡ taken) end need (file ∙ (d.file ∙ d.added.still.number)) (first ∙ d.first) d.added.still.about_is
      (prefix_trans (seen start) (seen p) (seen q) d.added.seen_on none.added.seen_on) ([], append-nil (messages_in d.closed ++ d.messages) ∙ sym d.taken_is)
      (inr (subst (λ (c : ColumnsState). IsOpen limit (record { rows = c.rows; messages = d.messages })) (sym same.columns) d.not_yet, sym d.taken_is))
      (rows_same m.version (types_seen m) (words_seen m) d.messages segment at same d.has) (room end need is)) has

  told_now : (a : _) → about start ≡ Some a → about p ≡ Some a
  told_now a is = d.added.still.about_is ∙ is

  pub all_done : (version : ℕ) (books : Books) (q : KeeperPass D) (new : OpenSegment) → IsEmptied (marked ended segment) new → HasSealed state (marked ended segment).draft p q
      → NowHas state (marked ended segment).draft m.version (types_seen m) (words_seen m) p q → IsOutcome state limit version books start q taken (λ all. all ≡ taken) ended None (record { messages = new.draft.first; whole = true; cause = None })
  all_done version books q new empty sealed has_now = record {
    covered = taken;
    front = prefix_self taken;
    few = omega arith;
    all = λ is. refl;
    whole_none = λ is. refl;
    caused = inl (refl, refl);
    count = omega (arith, empty.first, d.first, d.not_yet.even, ap length d.taken_is, length-append (messages_in d.closed) d.messages);
    done = record {
      closed = d.closed;
      rest = part;
      more = d.more ++ sealed.more;
      covered_is = d.taken_is;
      cut = d.cut;
      not_yet = d.not_yet;
      added = added_on start p q d.more sealed.more d.added sealed.added;
      segments = λ a is. if_told (is_some (state a.fixed.opened).seen) _ (λ told.
          sealed_joined d.more sealed.more
          ∙ ap₂ (λ l k. l ++ k) (of_told (is_some (state a.fixed.opened).seen) _ told (d.segments a is))
          (of_told (is_some (state a.fixed.opened).seen) _ told (sealed.segments a (told_now a is)) ∙ ap (λ s. s ∷ []) segment_is));
      held = λ a is. if_told (is_some (state a.fixed.opened).seen) _ (λ told.
          let holds = of_told (is_some (state a.fixed.opened).seen) _ told
          (has_now (messages_in d.closed) d.messages d.first d.so_far (λ b there. if_told (is_some (state b.fixed.opened).seen) _ (λ _. (d.worker.namer.version b there, d.has.canonical))) a (told_now a is)) in
          let found : FrontHolds a.fixed.header (journal_seen (seen q)) (number_of start) taken true ended = record {
            front = journal_seen (seen q);
            begins = prefix_self (journal_seen (seen q));
            holds = subst (λ f. Holds a.fixed.header (journal_seen (seen q)) f taken true ended) (d.file ∙ d.added.still.number)
                (subst (λ ms. Holds a.fixed.header (journal_seen (seen q)) segment.draft.file ms true ended) (sym d.taken_is) holds);
          } in found);
    };
  }
    where
      segment_is : segment_of (marked ended segment).draft ≡ record { file = number_of start; first = length (messages_in d.closed); last = true; ended = ended; rows = segment.draft.columns.rows }
      segment_is = λ i. record { file = (d.file ∙ d.added.still.number) i; first = d.first i; last = true; ended = ended; rows = segment.draft.columns.rows }

  pub none_done : (version : ℕ) (books : Books) (q : KeeperPass D) (new : OpenSegment) (why cause : Option Cause) → HasNotSealed state p q → new.draft.first ≡ segment.draft.first
      → ((cause ≡ why) × (messages_in d.closed ≡ taken)) ⊎ ((c : Cause) × (cause ≡ Some c) × HasSealCause state (FoundNoRoom state limit version books (λ first. IsPrefix first taken) (λ all. all ≡ taken) start q (messages_in d.closed)) start q c)
      → IsOutcome state limit version books start q taken (λ all. all ≡ taken) ended why (record { messages = new.draft.first; whole = false; cause = cause })
  none_done version books q new why cause none first caused =
      let c : Covering state limit start q new (taken ++ [] ∷ []) = covering state limit start p m segment taken d q new [] none first in
      record {
        covered = messages_in c.closed;
        front = (d.messages, sym d.taken_is);
        few = omega (arith, c.few, length-append taken ([] ∷ []), at_most_one why);
        all = λ is. absurd (cc (is));
        whole_none = λ is. absurd (cc (is));
        caused = caused;
        count = c.first;
        done = record {
          closed = c.closed;
          rest = record { rows = []; messages = [] };
          more = c.more;
          covered_is = sym (append-nil (messages_in c.closed));
          cut = c.cut;
          not_yet = record { even = refl; not_yet = λ k le. nothing_full k };
          added = c.added;
          segments = λ a is. if_told (is_some (state a.fixed.opened).seen) _ (λ told.
              of_told (is_some (state a.fixed.opened).seen) _ told (c.segments a is) ∙ sym (append-nil (segments_from (number_of start) 0 c.closed)));
          held = c.held;
        };
      }
    where
      none_in : (k : ℕ) → columns_of (front k (record { rows = []; messages = [] })) ≡ columns_of (front 0 part)
      none_in zero = refl
      none_in (suc k) = refl

      nothing_full : (k : ℕ) → ¬ IsFull (columns_of (front k (record { rows = []; messages = [] }))) limit
      nothing_full k full = d.not_yet.not_yet 0 (omega arith) (subst (λ c. IsFull c limit) (none_in k) full)

-- without rows in the open segment all messages are sealed
none_left : (messages : Texts) → length messages ≡ 0 → messages ≡ []
none_left [] is = refl
none_left (m ∷ messages) is = absurd (omega (arith, is))

module _ {D R A B C : Type 0} (state : D → DiskState) (limit : ℕ) (start p : KeeperPass D) (m : LockNamer R A B C) (segment : OpenSegment) (taken : Texts) (ended : Bool) (d : Doing state limit start p m segment taken) where
  pub all_sealed : length segment.draft.columns.rows ≡ 0 → messages_in d.closed ≡ taken
  all_sealed none = sym (d.taken_is ∙ (ap (λ l. messages_in d.closed ++ l) (none_left d.messages (omega (arith, none, d.not_yet.even))) ∙ append-nil (messages_in d.closed)))

  pub empty_done : (version : ℕ) (books : Books) (cause : Option Cause) → length segment.draft.columns.rows ≡ 0 → IsOutcome state limit version books start p taken (λ all. all ≡ taken) ended cause (record { messages = segment.draft.first; whole = false; cause = cause })
  empty_done version books cause none = none_done state limit start p m segment taken ended d version books p segment cause cause (nothing_sealed state p d.worker.ready) refl (inl (refl, all_sealed none))

-- the segment of a rest with messages, in a file that is not whole
rest_rows : (file first : ℕ) (ended : Bool) (rows : List Row) (messages : Texts) → 0 < length rows
    → (let s : SegmentEntry = record { file = file; first = first; last = false; ended = false; rows = rows } in s) ∷ [] ≡ rest_of file first false ended (record { rows = rows; messages = messages })
rest_rows file first ended [] messages some = absurd (omega (arith, some))
rest_rows file first ended (r ∷ rows) messages some = refl

module _ {D R A B C : Type 0} (state : D → DiskState) (limit : ℕ) (start p : KeeperPass D) (m : LockNamer R A B C) (segment : OpenSegment) (taken : Texts) (ended : Bool) (d : Doing state limit start p m segment taken) (some : 0 < length segment.draft.columns.rows) where
  pub may_seal_part : limit ≤ MAX_ROWS → length taken ≤ MAX_MESSAGES → MaySeal state p m segment
  may_seal_part most few = record {
    covered = messages_in d.closed;
    messages = d.messages;
    worker = d.worker;
    file = d.file;
    first = d.first;
    so_far = d.so_far;
    has = d.has;
    each = d.each;
    few = omega (arith, (has_room state limit start p m segment taken d most).rows);
    most = omega (arith, few, ap length d.taken_is, length-append (messages_in d.closed) d.messages, d.first, d.not_yet.even);
    some = λ is. some;
    ended = λ is. absurd (cc (is, d.not_ended));
    end = λ last open_end. absurd (cc (last, d.not_last));
  }

  pub part_done : (version : ℕ) (books : Books) (q : KeeperPass D) (new : OpenSegment) (cause : Option Cause) → IsEmptied segment new → HasSealed state segment.draft p q
      → NowHas state segment.draft m.version (types_seen m) (words_seen m) p q → IsOutcome state limit version books start q taken (λ all. all ≡ taken) ended cause (record { messages = new.draft.first; whole = false; cause = cause })
  part_done version books q new cause empty sealed has_now = record {
    covered = taken;
    front = prefix_self taken;
    few = omega (arith, few_in_hand state limit start p m segment taken d, at_most_one cause);
    all = λ is. refl;
    whole_none = λ is. absurd (cc (is));
    caused = inl (refl, refl);
    count = omega (arith, empty.first, d.first, d.not_yet.even, ap length d.taken_is, length-append (messages_in d.closed) d.messages);
    done = record {
      closed = d.closed;
      rest = record { rows = segment.draft.columns.rows; messages = d.messages };
      more = d.more ++ sealed.more;
      covered_is = d.taken_is;
      cut = d.cut;
      not_yet = d.not_yet;
      added = added_on start p q d.more sealed.more d.added sealed.added;
      segments = λ a is. if_told (is_some (state a.fixed.opened).seen) _ (λ told.
          sealed_joined d.more sealed.more
          ∙ ap₂ (λ l k. l ++ k) (of_told (is_some (state a.fixed.opened).seen) _ told (d.segments a is))
          (of_told (is_some (state a.fixed.opened).seen) _ told (sealed.segments a (d.added.still.about_is ∙ is))
          ∙ (ap (λ s. s ∷ []) segment_is ∙ rest_rows (number_of start) (length (messages_in d.closed)) ended segment.draft.columns.rows d.messages some)));
      held = λ a is. if_told (is_some (state a.fixed.opened).seen) _ (λ told.
          let holds = of_told (is_some (state a.fixed.opened).seen) _ told
          (has_now (messages_in d.closed) d.messages d.first d.so_far (λ b there. if_told (is_some (state b.fixed.opened).seen) _ (λ _. (d.worker.namer.version b there, d.has.canonical))) a (d.added.still.about_is ∙ is)) in
          let by_last = subst (λ l. Holds a.fixed.header (journal_seen (seen q)) segment.draft.file (messages_in d.closed ++ d.messages) l (l && segment.draft.ended)) d.not_last holds in
          let found : FrontHolds a.fixed.header (journal_seen (seen q)) (number_of start) taken false false = record {
            front = journal_seen (seen q);
            begins = prefix_self (journal_seen (seen q));
            holds = subst (λ f. Holds a.fixed.header (journal_seen (seen q)) f taken false false) (d.file ∙ d.added.still.number)
                (subst (λ ms. Holds a.fixed.header (journal_seen (seen q)) segment.draft.file ms false false) (sym d.taken_is) by_last);
          } in found);
    };
  }
    where
      segment_is : segment_of segment.draft ≡ record { file = number_of start; first = length (messages_in d.closed); last = false; ended = false; rows = segment.draft.columns.rows }
      segment_is = λ i. record { file = (d.file ∙ d.added.still.number) i; first = d.first i; last = d.not_last i; ended = d.not_ended i; rows = segment.draft.columns.rows }
