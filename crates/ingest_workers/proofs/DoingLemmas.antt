-- A worker at its file, a message further.
use Rattle.std.proofs.Common.{◌≡◌, inl, inr, ℕ, zero, suc, ◌+◌, ◌<◌, ◌≤◌, List, [], ◌∷◌, ◌++◌, false, length, refl, sym, ap, ap₂, ◌∙◌, subst, arith, append-nil, append_assoc, length-append, Some, All}
use Rattle.std.specs.Prelude.{is_some, ◌&&◌, Result, Ok, Err, IfErr, IsErrOf, OnOk}
use Rattle.std.specs.List.{flat_map}
use Rattle.row_codec.specs.Numbers.{numbers_of_row}
use Rattle.std.proofs.lemmas.List.Elements.{All-nil, All-push}
use mathlib.Core.List.{IsPrefix}
use Rattle.log_seams.specs.Disk.{DiskState}
use Rattle.turn_lock.specs.Words.{seen, about, number_of}
use Rattle.turn_lock.proofs.FrontLemmas.{prefix_length, prefix_trans}
use Rattle.column_store.specs.declared.row.Row.{Row}
use Rattle.column_store.specs.Row.{variable_count}
use Rattle.column_store.specs.Columns.{ColumnsState, IsFull}
use Rattle.row_codec.specs.Means.{AreCanonical}
use Rattle.row_codec.specs.Messages.{IsMessage}
use Rattle.archive_meaning.specs.declared.TheConstants.{MAX_ROWS, MAX_MESSAGES}
use Rattle.disk_seal.specs.declared.entry.StoreEntry.{StoreEntry}
use Rattle.disk_seal.specs.declared.namer.LockNamer.{LockNamer}
use Rattle.disk_seal.specs.Draft.{journal_seen}
use Rattle.disk_seal.specs.Fixed.{KeeperPass}
use Rattle.disk_seal.specs.Planned.{segment_of}
use Rattle.ingest_workers.specs.declared.open_segment.OpenSegment.{OpenSegment}
use Rattle.ingest_workers.specs.declared.outcome.Cause.{Cause}
use Rattle.ingest_workers.specs.declared.file_end.FileEnd.{FileEnd}
use Rattle.ingest_workers.specs.declared.file_end.FileEnd.TheVariants.{Part as PartStop, Lost}
use Rattle.ingest_workers.specs.Adding.{BothStill}
use Rattle.ingest_workers.specs.Stopping.{IsAtStop}
use Rattle.row_codec.specs.declared.namer.Which.{Which}
use Rattle.ingest_workers.specs.declared.outcome.Cause.TheVariants.{Full}
use Rattle.ingest_workers.specs.Full.{WasFullFor, books_by}
use Rattle.ingest_workers.specs.FileEnd.{IsNameStop}
use Rattle.ingest_workers.proofs.CauseLemmas.{full_cause, lost_cause}
use Rattle.ingest_workers.proofs.MaySealLemmas.{nothing_sealed}
use Rattle.ingest_workers.specs.Doing.{Covering, Doing}
use Rattle.ingest_workers.specs.OpenSegment.{HasMessages, HasRoom, SameMarks, SameRows}
use Rattle.ingest_workers.specs.Journal.{FrontHolds, HasAdded, Holds, WhereTold}
use Rattle.ingest_workers.specs.MaySeal.{HasNoRoomFor, IsEmptied, IsWorker, MaySeal}
use Rattle.ingest_workers.specs.Namer.{HasOnlySeen, HasSamePasses, types_pass, words_pass, types_seen, words_seen}
use Rattle.ingest_workers.specs.NoRoom.{FoundNoRoom}
use Rattle.ingest_meaning.specs.Parts.{Part, IsCut, IsOpen, columns_of, front, messages_in, segments_from}
use Rattle.ingest_workers.specs.Sealed.{HasNotSealed, HasSealed, NowHas}
use Rattle.ingest_workers.proofs.JournalLemmas.{seen_front}
use Rattle.ingest_workers.proofs.OpenSegmentLemmas.{in_hand_on}
use Rattle.ingest_workers.proofs.NoRoomLemmas.{found_room}
use Rattle.ingest_workers.proofs.PartLemmas.{added_on, segment_at, cut_more, messages_more, open_all, open_more, sealed_joined, segments_more}
use Rattle.ingest_workers.proofs.SealLemmas.{if_told, of_told}

abbrev Texts : Type 0
Texts = List (List ℕ)

lt_of : (a b : ℕ) → ((b ≤ a) → ⊥) → a < b
lt_of zero zero high = absurd (high (omega arith))
lt_of zero (suc b) high = omega arith
lt_of (suc a) zero high = absurd (high (omega arith))
lt_of (suc a) (suc b) high = omega (arith, lt_of a b (λ le. high (omega (arith, le))))

-- ---- the worker

module _ {R A B C : Type 0} where
  pub passes_of : (m n : LockNamer R A B C) → n.version ≡ m.version → BothStill (types_pass m) (types_pass n) (words_pass m) (words_pass n) → HasSamePasses m n
  passes_of m n version still = record { version = version; types_lock = still.of_types.lock; words_lock = still.of_words.lock; types_number = still.of_types.number; words_number = still.of_words.number }

-- what holds at an answer that is `Ok`
pub ok_by : {X Y : Type 0} {P : Type 0} (r : Result X Y) (x : X) → r ≡ Ok x → OnOk r P → P
ok_by (Ok y) x is p = p
ok_by (Err y) x is p = absurd (cc (is))

module _ {D R A B C : Type 0} where
  pub same_worker : (p : KeeperPass D) (m n : LockNamer R A B C) → HasSamePasses m n → IsWorker p m → IsWorker p n
  same_worker p m n same w = record {
    ready = w.ready;
    opening = w.opening;
    namer = record {
      types = λ a is. same.types_lock ∙ w.namer.types a is;
      words = λ a is. same.words_lock ∙ w.namer.words a is;
      version = λ a is. same.version ∙ w.namer.version a is;
    };
  }

  pub next_worker : (p q : KeeperPass D) (more : List (ℕ × StoreEntry)) (m n : LockNamer R A B C) → HasOnlySeen m n → HasAdded p q more → IsWorker p m → IsWorker q n
  next_worker p q more m n only added w = record {
    ready = added.ready;
    opening = λ a is. omega (arith, w.opening a (sym added.still.about_is ∙ is), prefix_length (seen p) (seen q) added.seen_on);
    namer = record {
      types = λ a is. only.types.still.lock ∙ w.namer.types a (sym added.still.about_is ∙ is);
      words = λ a is. only.words.still.lock ∙ w.namer.words a (sym added.still.about_is ∙ is);
      version = λ a is. only.version ∙ w.namer.version a (sym added.still.about_is ∙ is);
    };
  }

pub rows_same : (version : ℕ) (types words messages : Texts) (segment new : OpenSegment) → SameRows segment new → HasMessages version types words messages segment → HasMessages version types words messages new
rows_same version types words messages segment new same has = record {
  canonical = subst (λ (c : ColumnsState). AreCanonical version c.rows types words messages) (sym same.columns) has.canonical;
  used = same.used ∙ (has.used ∙ ap (λ (c : ColumnsState). flat_map (numbers_of_row types) c.rows) (sym same.columns));
  bytes = ap (λ (c : ColumnsState). c.bytes) same.columns ∙ has.bytes;
}

module _ {D R A B C : Type 0} (state : D → DiskState) (limit : ℕ) (start p : KeeperPass D) (m : LockNamer R A B C) (segment : OpenSegment) (taken : Texts) (d : Doing state limit start p m segment taken) where
  abbrev part : Part
  part = record { rows = segment.draft.columns.rows; messages = d.messages }

  pub few_in_hand : length segment.draft.columns.rows < limit
  few_in_hand = lt_of (length segment.draft.columns.rows) limit (λ le. open_all limit part d.not_yet (inl le))

  pub has_room : limit ≤ MAX_ROWS → HasRoom segment
  has_room most =
      record {
        rows = omega (arith, few_in_hand, most);
        variables = lt_of (variable_count segment.draft.columns.rows) 1048576 (λ le. open_all limit part d.not_yet (inr (inl le)));
      }

  -- what is held, told from the start
  pub held_front : (q : KeeperPass D) → IsPrefix (seen p) (seen q) → WhereTold state start (λ h. FrontHolds h (journal_seen (seen q)) (number_of start) (messages_in d.closed) false false)
  held_front q on a is =
      if_told (is_some (state a.fixed.opened).seen) _ (λ told.
      let holds : Holds a.fixed.header (journal_seen (seen p)) (number_of p) (messages_in d.closed) false false = of_told (is_some (state a.fixed.opened).seen) _ told (d.so_far a (d.added.still.about_is ∙ is)) in
      let found : FrontHolds a.fixed.header (journal_seen (seen q)) (number_of start) (messages_in d.closed) false false = record {
        front = journal_seen (seen p);
        begins = seen_front (seen p) (seen q) on;
        holds = subst (λ n. Holds a.fixed.header (journal_seen (seen p)) n (messages_in d.closed) false false) d.added.still.number holds;
      } in found)

  -- nothing more is sealed
  abbrev pub covering : (q : KeeperPass D) (new : OpenSegment) (line : List ℕ) → HasNotSealed state p q → new.draft.first ≡ segment.draft.first → Covering state limit start q new (taken ++ line ∷ [])
  covering q new line none first = record {
    closed = d.closed;
    more = d.more ++ none.more;
    front = (d.messages ++ line ∷ [], sym (append_assoc (messages_in d.closed) d.messages (line ∷ [])) ∙ ap (λ l. l ++ line ∷ []) (sym d.taken_is));
    few = omega (arith, few_in_hand, d.not_yet.even, ap length d.taken_is, length-append (messages_in d.closed) d.messages, length-append taken (line ∷ []));
    cut = d.cut;
    first = first ∙ d.first;
    added = added_on start p q d.more none.more d.added none.added;
    segments = λ a is. if_told (is_some (state a.fixed.opened).seen) _ (λ told.
        sealed_joined d.more none.more
        ∙ (ap₂ (λ l k. l ++ k) (of_told (is_some (state a.fixed.opened).seen) _ told (d.segments a is)) (of_told (is_some (state a.fixed.opened).seen) _ told (none.segments a (d.added.still.about_is ∙ is)))
        ∙ append-nil (segments_from (number_of start) 0 d.closed)));
    held = held_front q none.added.seen_on;
  }

  -- a message was not named, and all is as it was
  pub doing_kept : (n : LockNamer R A B C) (new : OpenSegment) → HasSamePasses m n → IsPrefix (types_seen m) (types_seen n) → IsPrefix (words_seen m) (words_seen n) → SameMarks segment new → SameRows segment new → Doing state limit start p n new taken
  doing_kept n new same a b marks rows = record {
    closed = d.closed;
    messages = d.messages;
    more = d.more;
    taken_is = d.taken_is;
    cut = d.cut;
    not_yet = subst (λ (c : ColumnsState). IsOpen limit (record { rows = c.rows; messages = d.messages })) (sym rows.columns) d.not_yet;
    has = subst (λ v. HasMessages v (types_seen n) (words_seen n) d.messages new) (sym same.version)
        (rows_same m.version (types_seen n) (words_seen n) d.messages segment new rows (in_hand_on m.version (types_seen m) (words_seen m) (types_seen n) (words_seen n) d.messages segment a b d.has));
    each = subst (λ v. All (IsMessage v) d.messages) (sym same.version) d.each;
    first = marks.first ∙ d.first;
    file = marks.file ∙ d.file;
    not_last = marks.last ∙ d.not_last;
    not_ended = marks.ended ∙ d.not_ended;
    worker = same_worker p m n same d.worker;
    added = d.added;
    segments = d.segments;
    so_far = d.so_far;
  }

  -- a message was not taken
  pub not_taken : (n : LockNamer R A B C) (new : OpenSegment) (line : List ℕ) (y : FileEnd) → HasSamePasses m n → IsPrefix (types_seen m) (types_seen n) → IsPrefix (words_seen m) (words_seen n) → SameMarks segment new
      → ((cause : Cause) → y ≡ PartStop cause → SameRows segment new) → IsNameStop y → ((book : Which) (count : ℕ) → y ≡ PartStop (Full book count) → WasFullFor n.version (λ m. m ≡ line) (books_by (types_pass n) (words_pass n)) book count)
      → IsAtStop state limit start p n new taken line y
  not_taken n new line (PartStop cause) same a b marks rows named full = (doing_kept n new same a b marks (rows cause refl), full_cause (WasFullFor n.version (λ m. m ≡ line) (books_by (types_pass n) (words_pass n))) cause named (λ book count is. full book count (ap PartStop is)))
  not_taken n new line (Lost cause) same a b marks rows named full = record { covering = covering p new line (nothing_sealed state p d.worker.ready) marks.first; caused = lost_cause state start p _ cause named }

  module _ (n : LockNamer R A B C) (new : OpenSegment) (row : Row) (line : List ℕ) (same : HasSamePasses m n) (marks : SameMarks segment new) (pushed : new.draft.columns.rows ≡ segment.draft.columns.rows ++ row ∷ [])
      (has : HasMessages m.version (types_seen n) (words_seen n) (d.messages ++ line ∷ []) new) (is_message : IsMessage m.version line) where
    abbrev grown : Part
    grown = record { rows = segment.draft.columns.rows ++ row ∷ []; messages = d.messages ++ line ∷ [] }

    now_has_it : HasMessages n.version (types_seen n) (words_seen n) (d.messages ++ line ∷ []) new
    now_has_it = subst (λ v. HasMessages v (types_seen n) (words_seen n) (d.messages ++ line ∷ []) new) (sym same.version) has

    each_now : All (IsMessage n.version) (d.messages ++ line ∷ [])
    each_now = subst (λ v. All (IsMessage v) (d.messages ++ line ∷ [])) (sym same.version) (All-push (IsMessage m.version) d.messages line d.each is_message)

    columns_now : new.draft.columns ≡ columns_of grown
    columns_now = λ i. record { rows = pushed i; bytes = has.bytes i }

    taken_now : taken ++ line ∷ [] ≡ messages_in d.closed ++ (d.messages ++ line ∷ [])
    taken_now = ap (λ l. l ++ line ∷ []) d.taken_is ∙ append_assoc (messages_in d.closed) d.messages (line ∷ [])

    pub doing_more : ¬ IsFull new.draft.columns limit → Doing state limit start p n new (taken ++ line ∷ [])
    doing_more not_full = record {
      closed = d.closed;
      messages = d.messages ++ line ∷ [];
      more = d.more;
      taken_is = taken_now;
      cut = d.cut;
      not_yet = subst (λ rows. IsOpen limit (record { rows = rows; messages = d.messages ++ line ∷ [] })) (sym pushed)
          (open_more limit part row line d.not_yet (λ full. not_full (subst (λ c. IsFull c limit) (sym columns_now) full)));
      has = now_has_it;
      each = each_now;
      first = marks.first ∙ d.first;
      file = marks.file ∙ d.file;
      not_last = marks.last ∙ d.not_last;
      not_ended = marks.ended ∙ d.not_ended;
      worker = same_worker p m n same d.worker;
      added = d.added;
      segments = d.segments;
      so_far = d.so_far;
    }

    size : length new.draft.columns.rows ≡ length d.messages + 1
    size = omega (arith, ap length pushed, length-append segment.draft.columns.rows (row ∷ []), d.not_yet.even)

    pub may_seal : limit ≤ MAX_ROWS → length taken < MAX_MESSAGES → MaySeal state p n new
    may_seal most few = record {
      covered = messages_in d.closed;
      messages = d.messages ++ line ∷ [];
      worker = same_worker p m n same d.worker;
      file = marks.file ∙ d.file;
      first = marks.first ∙ d.first;
      so_far = d.so_far;
      has = now_has_it;
      each = each_now;
      few = omega (arith, ap length pushed, length-append segment.draft.columns.rows (row ∷ []), (has_room most).rows);
      most = omega (arith, size, few, ap length d.taken_is, length-append (messages_in d.closed) d.messages, marks.first, d.first);
      some = λ not. omega (arith, size);
      ended = λ is. absurd (cc (is, marks.ended, d.not_ended));
      end = λ is open_end. absurd (cc (is, marks.last, d.not_last));
    }

    new_file : new.draft.file ≡ number_of p
    new_file = marks.file ∙ d.file

    segment_is : segment_of new.draft ≡ segment_at (number_of start) (0 + length (messages_in d.closed)) grown
    segment_is =
        let none : length (messages_in d.closed) ≡ 0 + length (messages_in d.closed) = omega arith in
        λ i. record {
          file = (new_file ∙ d.added.still.number) i;
          first = (marks.first ∙ (d.first ∙ none)) i;
          last = (marks.last ∙ d.not_last) i;
          ended = (marks.ended ∙ d.not_ended) i;
          rows = pushed i;
        }

    -- it is full, and its segment does not fit
    pub full_found : (q : KeeperPass D) (now : LockNamer R A B C) (end need : ℕ) → HasOnlySeen n now → HasNotSealed state p q → IsFull new.draft.columns limit → HasNoRoomFor state new end need p q n now
        → FoundNoRoom state limit now.version (books_by (types_pass now) (words_pass now)) (λ first. IsPrefix first (taken ++ line ∷ [])) (λ all. ⊥) start q (messages_in d.closed) end need
    full_found q now end need only none full room =
        found_room state limit now.version start p q n now new (messages_in d.closed) (d.messages ++ line ∷ []) (taken ++ line ∷ []) (λ all. ⊥) end need (new_file ∙ d.added.still.number) (marks.first ∙ d.first) d.added.still.about_is
        (prefix_trans (seen start) (seen p) (seen q) d.added.seen_on none.added.seen_on) ([], append-nil (messages_in d.closed ++ (d.messages ++ line ∷ [])) ∙ sym taken_now)
        (inl (subst (λ rows. IsCut limit (record { rows = rows; messages = d.messages ++ line ∷ [] })) (sym pushed) (cut_more limit part row line d.not_yet (subst (λ c. IsFull c limit) columns_now full))))
        (subst (λ v. HasMessages v (types_seen n) (words_seen n) (d.messages ++ line ∷ []) new) (sym only.version) now_has_it) room

    pub doing_sealed : (q : KeeperPass D) (now : LockNamer R A B C) (emptied : OpenSegment) → HasOnlySeen n now → IsEmptied new emptied → HasSealed state new.draft p q
        → NowHas state new.draft n.version (types_seen n) (words_seen n) p q → IsFull new.draft.columns limit → Doing state limit start q now emptied (taken ++ line ∷ [])
    doing_sealed q now emptied only empty sealed has_now full = record {
      closed = d.closed ++ grown ∷ [];
      messages = [];
      more = d.more ++ sealed.more;
      taken_is = taken_now ∙ (sym (messages_more d.closed grown) ∙ sym (append-nil (messages_in (d.closed ++ grown ∷ []))));
      cut = All-push (IsCut limit) d.closed grown d.cut (cut_more limit part row line d.not_yet (subst (λ c. IsFull c limit) columns_now full));
      not_yet = record { even = ap length empty.rows; not_yet = λ k le. nothing_full k };
      has = record {
        canonical = subst (λ rows. AreCanonical now.version rows (types_seen now) (words_seen now) []) (sym empty.rows) tt;
        used = empty.used ∙ ap (flat_map (numbers_of_row (types_seen now))) (sym empty.rows);
        bytes = empty.bytes;
      };
      each = All-nil (IsMessage now.version);
      first = omega (arith, empty.first, size, marks.first, d.first, ap length (messages_more d.closed grown), length-append (messages_in d.closed) (d.messages ++ line ∷ []), length-append d.messages (line ∷ []));
      file = empty.file ∙ (new_file ∙ sym sealed.added.still.number);
      not_last = empty.last ∙ (marks.last ∙ d.not_last);
      not_ended = empty.ended ∙ (marks.ended ∙ d.not_ended);
      worker = next_worker p q sealed.more n now only sealed.added (same_worker p m n same d.worker);
      added = added_on start p q d.more sealed.more d.added sealed.added;
      segments = λ a is. if_told (is_some (state a.fixed.opened).seen) _ (λ told.
          sealed_joined d.more sealed.more
          ∙ (ap₂ (λ l k. l ++ k) (of_told (is_some (state a.fixed.opened).seen) _ told (d.segments a is))
          (of_told (is_some (state a.fixed.opened).seen) _ told (sealed.segments a (d.added.still.about_is ∙ is)) ∙ ap (λ s. s ∷ []) segment_is)
          ∙ sym (segments_more (number_of start) 0 d.closed grown)));
      so_far = λ a is. if_told (is_some (state a.fixed.opened).seen) _ (λ told.
          let at : about p ≡ Some a = sym sealed.added.still.about_is ∙ is in
          let holds = of_told (is_some (state a.fixed.opened).seen) _ told
          (has_now (messages_in d.closed) (d.messages ++ line ∷ []) (marks.first ∙ d.first) d.so_far
          (λ b there. if_told (is_some (state b.fixed.opened).seen) _ (λ _. ((same_worker p m n same d.worker).namer.version b there, now_has_it.canonical))) a at) in
          let by_last = subst (λ l. Holds a.fixed.header (journal_seen (seen q)) new.draft.file (messages_in d.closed ++ (d.messages ++ line ∷ [])) l (l && new.draft.ended)) (marks.last ∙ d.not_last) holds in
          subst (λ f. Holds a.fixed.header (journal_seen (seen q)) f (messages_in (d.closed ++ grown ∷ [])) false false) (new_file ∙ sym sealed.added.still.number)
          (subst (λ ms. Holds a.fixed.header (journal_seen (seen q)) new.draft.file ms false false) (sym (messages_more d.closed grown)) by_last));
    }
      where
        none_in : (k : ℕ) → columns_of (front k (record { rows = emptied.draft.columns.rows; messages = [] })) ≡ columns_of (front 0 part)
        none_in zero = refl
        none_in (suc k) = ap (λ rows. columns_of (front (suc k) (record { rows = rows; messages = [] }))) empty.rows

        nothing_full : (k : ℕ) → ¬ IsFull (columns_of (front k (record { rows = emptied.draft.columns.rows; messages = [] }))) limit
        nothing_full k full = d.not_yet.not_yet 0 (omega arith) (subst (λ c. IsFull c limit) (none_in k) full)

pub each_err : {T E : Type 0} (r : Result T E) (P : E → Type 0) → ((y : E) → IsErrOf r y → P y) → IfErr r P
each_err (Ok x) P f = tt
each_err (Err e) P f = f e refl
