-- What is in hand becomes the next segment.
use Rattle.std.proofs.Common.{◌≡◌, ℕ, ◌<◌, ◌≤◌, ◌^◌, List, [], ◌∷◌, ◌++◌, All, arith, refl, suc, sym, ap, ◌∙◌, subst, length, length-append}
use Rattle.std.specs.Prelude.{◌&&◌, Err, IfErr, Ok, Option, Result, false, is_some}
use Rattle.std.specs.List.{flat_map}
use Rattle.log_seams.specs.Disk.{DiskState}
use Rattle.turn_lock.specs.Words.{IsReady, number_of, seen}
use Rattle.turn_lock.proofs.FrontLemmas.{prefix_length}
use Rattle.dict_lock.specs.Shared.{BookPass, GoesOn, OwnsBehind}
use Rattle.column_store.specs.declared.row.Row.{Row}
use Rattle.column_store.specs.Row.{IsRow, variable_count}
use Rattle.row_codec.specs.declared.namer.NameRefusal.{NameRefusal}
use Rattle.row_codec.specs.declared.namer.Which.{Which}
use Rattle.row_codec.specs.declared.namer.Which.TheVariants.{Types, Words}
use Rattle.row_codec.specs.Means.{AreCanonical}
use Rattle.row_codec.specs.Messages.{IsMessage}
use Rattle.row_codec.specs.Numbers.{numbers_of_row}
use Rattle.row_rename.specs.Causes.{IsFull}
use Rattle.row_rename.specs.Paths.{HasNamedMore}
use Rattle.row_rename.specs.Renamed.{used_in}
use Rattle.row_rename.proofs.PathLemmas.{path_keeps}
use Rattle.row_rename.proofs.TableLemmas.{log_types_stay, table_stays}
use Rattle.segment_format.specs.Layout.{sorted_set}
use Rattle.archive_meaning.specs.declared.entry.SegmentEntry.{SegmentEntry}
use Rattle.archive_meaning.specs.Held.{is_whole, last_is_open, messages_of}
use Rattle.archive_meaning.specs.Legal.{AddsSegment}
use Rattle.archive_meaning.specs.Spelled.{words_named}
use Rattle.archive_meaning.specs.Sums.{open_after}
use Rattle.archive_meaning.proofs.SumsLemmas.{open_joined}
use Rattle.archive_open.specs.declared.segments.SegmentPlace.{SegmentPlace}
use Rattle.disk_seal.specs.declared.draft.Draft.{Draft}
use Rattle.disk_seal.specs.declared.namer.LockNamer.{LockNamer}
use Rattle.disk_seal.specs.Draft.{MayFollow, journal_seen}
use Rattle.disk_seal.specs.Fixed.{KeeperPass}
use Rattle.disk_seal.specs.Naming.{NamesIn}
use Rattle.disk_seal.specs.Planned.{segment_of}
use Rattle.disk_seal.specs.Prepare.{MayBeNext}
use Rattle.disk_seal.proofs.ToldLemmas.{told_map}
use Rattle.ingest_workers.specs.declared.outcome.Cause.{Cause}
use Rattle.ingest_workers.specs.declared.outcome.Cause.TheVariants.{ArchiveFull, DiskFault, Full, LineTooLong, OutOfMemory, ReadFault, TooManyLines}
use Rattle.ingest_workers.specs.Causes.{HasSealCause}
use Rattle.ingest_workers.specs.Journal.{HasSoFar, Holds, WhereTold}
use Rattle.ingest_workers.specs.MaySeal.{IsWorker}
use Rattle.ingest_workers.specs.Namer.{HasNoRoom, HasOnlySeen, types_pass, types_seen, words_pass, words_seen}
use Rattle.ingest_workers.specs.Sealed.{HasSealed, NowHas}
use Rattle.ingest_workers.proofs.DoingLemmas.{same_worker}
use Rattle.ingest_workers.proofs.SealLemmas.{if_told, of_told}
use Rattle.archive_merge.specs.declared.cause.MergeCause.TheVariants.{SecondDamaged, SecondFault}
use Rattle.archive_merge.specs.declared.hand.Hand.{Hand}
use Rattle.archive_merge.specs.declared.stop.Stop.{Stop}
use Rattle.archive_merge.specs.declared.stop.Stop.TheVariants.{Full as StopFull, SecondDamaged as StopDamaged, SecondFault as StopFault, OutOfMemory as StopOutOfMemory}
use Rattle.archive_merge.specs.declared.taker.Taker.{Taker}
use Rattle.archive_merge.specs.Causes.{HasMoveCause, HasNoRoomNow, IsOfSealing, cause_by, cause_of_sealing}
use Rattle.archive_merge.specs.InHand.{HasInHand, Texts}
use Rattle.archive_merge.specs.Needed.{IsNeeded, IsTextThere}
use Rattle.archive_merge.specs.Runs.{IsReached}
use Rattle.archive_merge.specs.Next.{TakesNext}
use Rattle.archive_merge.specs.PassLaws.{adds_none, adds_then, adds_wider, goes_self, goes_then, owns_none, owns_then}
use Rattle.archive_merge.specs.Sealing.{AddsTexts, IsEmptied, LacksRoom, MaySeal, MovesSegment, StandsBehind, books_in, texts_seen}
use Rattle.archive_merge.specs.Taken.{Books, KnowsMore, Serves}

-- ---- what stays of a namer, whatever it names

-- ---- what a pass keeps and adds

-- the pass goes on, and added only behind what it had seen
pub record Continues (p q : BookPass) : Type 0 where
  pub goes : GoesOn p q
  pub own : OwnsBehind p q

continues_self : (p : BookPass) → IsReady p → Continues p p
continues_self p ready = record { goes = goes_self p ready; own = owns_none p p refl }

continues_then : (p q r : BookPass) → Continues p q → Continues q r → Continues p r
continues_then p q r one two = record {
  goes = goes_then p q r one.goes two.goes;
  own = owns_then p q r (prefix_length (seen p) (seen q) one.goes.seen_on) one.own two.own;
}

-- what is reached by some messages is reached by more
reached_more : (version : ℕ) (old : Texts) (places : List SegmentPlace) (told : Option (List ℕ)) (done more : ℕ) → done ≤ more → (book : Which) (t : List ℕ)
    → IsNeeded old told (IsReached version old places told done) book t → IsNeeded old told (IsReached version old places told more) book t
reached_more version old places told done more le book t (place, reached, is) = (
  place,
  record { there = reached.there; within = λ bytes all told_is run. let low = reached.within bytes all told_is run in omega (arith, low, le) },
  is,
)

module _ {R A B C : Type 0} where
  -- both passes go on
  pub record BothGoOn (m n : LockNamer R A B C) : Type 0 where
    pub types : Continues (types_pass m) (types_pass n)
    pub words : Continues (words_pass m) (words_pass n)

  both_self : (n : LockNamer R A B C) → BothGoOn n n
  both_self n = record { types = continues_self (types_pass n) n.types.ready; words = continues_self (words_pass n) n.words.ready }

  both_then : (a b c : LockNamer R A B C) → BothGoOn a b → BothGoOn b c → BothGoOn a c
  both_then a b c one two = record {
    types = continues_then (types_pass a) (types_pass b) (types_pass c) one.types two.types;
    words = continues_then (words_pass a) (words_pass b) (words_pass c) one.words two.words;
  }

  one_naming : (book : Which) (texts : List (List ℕ)) (refusal : Option NameRefusal) (m n : LockNamer R A B C) → NamesIn book texts refusal m n → BothGoOn m n
  one_naming Types texts refusal m n named = record {
    types = record { goes = named.4; own = named.2 };
    words = subst (λ (p : BookPass). Continues (words_pass m) p) (sym named.3) (continues_self (words_pass m) m.words.ready);
  }
  one_naming Words texts refusal m n named = record {
    types = subst (λ (p : BookPass). Continues (types_pass m) p) (sym named.3) (continues_self (types_pass m) m.types.ready);
    words = record { goes = named.4; own = named.2 };
  }

  -- namings keep both passes
  pub stays : (m n : LockNamer R A B C) → HasNamedMore NamesIn m n → BothGoOn m n
  stays m n path = path_keeps NamesIn BothGoOn both_self both_then one_naming m n path

  pub worker_named : {D : Type 0} (p : KeeperPass D) (m n : LockNamer R A B C) → n.version ≡ m.version → BothGoOn m n → IsWorker p m → IsWorker p n
  worker_named p m n version both worker = same_worker p m n
      (record {
        version = version;
        types_lock = both.types.goes.still.lock;
        words_lock = both.words.goes.still.lock;
        types_number = both.types.goes.still.number;
        words_number = both.words.goes.still.number;
      }) worker

  -- ---- what both passes add

  pub adds_named : (P : Which → List ℕ → Type 0) (m n : LockNamer R A B C) → BothGoOn m n → KnowsMore P (books_in m) (books_in n) → AddsTexts P m n
  adds_named P m n both more = record {
    types = record { goes = both.types.goes; grown = more.types; own = both.types.own };
    words = record { goes = both.words.goes; grown = more.words; own = both.words.own };
  }

  pub adds_self : (P : Which → List ℕ → Type 0) (n : LockNamer R A B C) → AddsTexts P n n
  adds_self P n = record {
    types = adds_none (P Types) (types_pass n) (types_pass n) (goes_self (types_pass n) n.types.ready) refl;
    words = adds_none (P Words) (words_pass n) (words_pass n) (goes_self (words_pass n) n.words.ready) refl;
  }

  pub adds_seen : (P : Which → List ℕ → Type 0) (m n : LockNamer R A B C) → HasOnlySeen m n → AddsTexts P m n
  adds_seen P m n only = record {
    types = adds_none (P Types) (types_pass m) (types_pass n) only.types only.own_types;
    words = adds_none (P Words) (words_pass m) (words_pass n) only.words only.own_words;
  }

  pub texts_then : (P : Which → List ℕ → Type 0) (a b c : LockNamer R A B C) → AddsTexts P a b → AddsTexts P b c → AddsTexts P a c
  texts_then P a b c one two = record {
    types = adds_then (P Types) (types_pass a) (types_pass b) (types_pass c) one.types two.types;
    words = adds_then (P Words) (words_pass a) (words_pass b) (words_pass c) one.words two.words;
  }

  -- what was named for a segment was named for one at such places
  pub adds_at : (old : Texts) (told told_now : Option (List ℕ)) (among : SegmentPlace → Type 0) (place : SegmentPlace) (m n : LockNamer R A B C) → told_now ≡ told → among place
      → AddsTexts (IsTextThere old told_now place) m n → AddsTexts (IsNeeded old told among) m n
  adds_at old told told_now among place m n same is_one adds = record {
    types = adds_wider (IsTextThere old told_now place Types) (IsNeeded old told among Types) (λ t there. (place, is_one, subst (λ o. IsTextThere old o place Types t) same there)) (types_pass m) (types_pass n) adds.types;
    words = adds_wider (IsTextThere old told_now place Words) (IsNeeded old told among Words) (λ t there. (place, is_one, subst (λ o. IsTextThere old o place Words t) same there)) (words_pass m) (words_pass n) adds.words;
  }

  pub adds_reached : (version : ℕ) (old : Texts) (places : List SegmentPlace) (told : Option (List ℕ)) (done more : ℕ) (m n : LockNamer R A B C) → done ≤ more
      → AddsTexts (IsNeeded old told (IsReached version old places told done)) m n → AddsTexts (IsNeeded old told (IsReached version old places told more)) m n
  adds_reached version old places told done more m n le adds = record {
    types = adds_wider (IsNeeded old told (IsReached version old places told done) Types) (IsNeeded old told (IsReached version old places told more) Types) (reached_more version old places told done more le Types) (types_pass m) (types_pass n) adds.types;
    words = adds_wider (IsNeeded old told (IsReached version old places told done) Words) (IsNeeded old told (IsReached version old places told more) Words) (reached_more version old places told done more le Words) (words_pass m) (words_pass n) adds.words;
  }

  pub serves_seen : (version : ℕ) (old : Texts) (m n : LockNamer R A B C) (taker : Taker) → HasOnlySeen m n → Serves version old (books_in m) taker → Serves version old (books_in n) taker
  serves_seen version old m n taker only serves = record {
    version_is = serves.version_is;
    judge_is = serves.judge_is;
    tables_are = record {
      log_types = log_types_stay old.types (types_seen m) (types_seen n) _ only.types.seen_on serves.tables_are.log_types;
      words_are = table_stays old.words (words_seen m) (words_seen n) _ only.words.seen_on serves.tables_are.words_are;
    };
  }

-- ---- the hand may be sealed

pub canonical_long : (version : ℕ) (rows : List Row) (types words ms : List (List ℕ)) → AreCanonical version rows types words ms → length ms ≡ length rows
canonical_long version [] types words [] are = refl
canonical_long version [] types words (m ∷ ms) are = absurd are
canonical_long version (r ∷ rows) types words [] are = absurd are
canonical_long version (r ∷ rows) types words (m ∷ ms) are = ap suc (canonical_long version rows types words ms are.1)

module _ {D R A B C : Type 0} (state : D → DiskState) where
  -- what is in hand, with its words, may be the next segment
  pub next_of : (p : KeeperPass D) (n : LockNamer R A B C) (hand : Hand) (d : Draft) → MaySeal state p n hand → segment_of d ≡ segment_of hand.draft → d.words ≡ sorted_set (used_in hand.renamed)
      → All IsRow hand.draft.columns.rows → variable_count hand.draft.columns.rows < 2 ^ 32 → MayBeNext state d p (types_seen n) (words_seen n)
  next_of p n hand d may same words fit variables a is =
      if_told (is_some (state a.fixed.opened).seen) _ (λ told.
      let holds : Holds a.fixed.header (journal_seen (seen p)) (number_of p) may.covered false false = of_told (is_some (state a.fixed.opened).seen) _ told (may.so_far a is) in
      let messages_are = ap (λ f. messages_of f holds.held.pieces) may.file ∙ holds.messages_are in
      let adds : AddsSegment a.fixed.header.version (record holds.held { types = types_seen n; words = words_seen n }) (segment_of hand.draft) may.messages = record {
        first = may.first ∙ sym (ap length messages_are);
        goes_on = ap (λ f. is_whole f holds.held.pieces) may.file ∙ holds.whole_is;
        most = may.most;
        rows = may.few;
        variables = variables;
        fit = fit;
        some = may.some;
        ended = may.ended;
        end = λ last open_end. ap (λ l. last_is_open (l ++ may.messages)) messages_are ∙ may.end last open_end;
        canonical = subst (λ v. AreCanonical v hand.draft.columns.rows (types_seen n) (words_seen n) may.messages) (may.worker.namer.version a is) may.has.canonical;
        each = subst (λ v. All (IsMessage v) may.messages) (may.worker.namer.version a is) may.each;
      } in
      let may_follow : MayFollow a.fixed.header (journal_seen (seen p)) (types_seen n) (words_seen n) (segment_of hand.draft) d.words = record {
        held = holds.held;
        run = holds.run;
        named = subst (λ f. f < length holds.held.names) (sym may.file) holds.named;
        messages = may.messages;
        adds = adds;
        are = words ∙ ap sorted_set may.has.used;
      } in
      subst (λ s. MayFollow a.fixed.header (journal_seen (seen p)) (types_seen n) (words_seen n) s d.words) (sym same) may_follow)

  pub lacks_for : (hand : Hand) (d : Draft) (end need : ℕ) (p q : KeeperPass D) (m n : LockNamer R A B C) → segment_of d ≡ segment_of hand.draft → d.words ≡ sorted_set (used_in hand.renamed) → HasNoRoom state d end need p q m n → LacksRoom state hand end need p q m n
  lacks_for hand d end need p q m n is words room = record { draft = d; is = is; words = words; no_room = room }

  -- ---- a segment that was taken over

  module _ (version : ℕ) (old before : Texts) (place : SegmentPlace) (told : Option (List ℕ)) (p : KeeperPass D) (n : LockNamer R A B C) (hand new : Hand)
      (worker : IsWorker p n) (version_is : n.version ≡ version) (took : TakesNext version old before (texts_seen n) place told hand new) where
    goes_on : hand.draft.last ≡ false
    goes_on = took.follows.goes_on

    module _ (covered : List (List ℕ)) (stands : StandsBehind state covered p hand) where
      nothing : HasInHand version before [] hand
      nothing = record {
        canonical = subst (λ (l : List Row). AreCanonical version l before.types before.words []) (sym stands.empty.rows) tt;
        used = stands.empty.used ∙ sym (ap (λ (l : List Row). flat_map (numbers_of_row before.types) l) stands.empty.rows);
      }

      pub in_hand : HasInHand version (texts_seen n) took.messages new
      in_hand = took.takes.goes version [] took.messages took.source.0 nothing

      pub so_far : HasSoFar state p covered
      so_far a is = told_map (is_some (state a.fixed.opened).seen)
          (λ holds. subst (λ f. Holds a.fixed.header (journal_seen (seen p)) f covered false false) stands.file
          (subst (λ b. Holds a.fixed.header (journal_seen (seen p)) hand.draft.file covered b (b && hand.draft.ended)) goes_on holds)) (stands.holds a is)

      pub may_seal : MaySeal state p n new
      may_seal = record {
        covered = covered;
        messages = took.messages;
        worker = worker;
        file = took.marks.file ∙ stands.file;
        first = took.marks.first ∙ stands.first;
        so_far = so_far;
        has = subst (λ v. HasInHand v (texts_seen n) took.messages new) (sym version_is) in_hand;
        each = subst (λ v. All (IsMessage v) took.messages) (sym version_is) took.source.1;
        few = took.follows.count;
        most = omega (arith, took.follows.most, took.follows.first, took.marks.first);
        some = λ last. took.follows.some (sym took.marks.last ∙ last);
        ended = λ is. took.marks.last ∙ took.follows.ended (sym took.marks.ended ∙ is);
        end = λ last not_ended. open_joined covered took.messages
            ∙ (ap (λ b. open_after b took.messages) (sym stands.open_is) ∙ (sym took.open_is ∙ took.end (sym took.marks.last ∙ last) (sym took.marks.ended ∙ not_ended)));
      }

      -- ---- and sealed

      module _ (q : KeeperPass D) (last : Hand) (emptied : IsEmptied new last) (sealed : HasSealed state new.draft p q)
          (now : NowHas state new.draft n.version (types_seen n) (words_seen n) p q) where
        rows_are : WhereTold state p (λ h. (n.version ≡ h.version) × AreCanonical n.version new.draft.columns.rows (types_seen n) (words_seen n) took.messages)
        rows_are a is = if_told (is_some (state a.fixed.opened).seen) _ (λ told.
            (worker.namer.version a is, subst (λ v. AreCanonical v new.draft.columns.rows (types_seen n) (words_seen n) took.messages) (sym version_is) in_hand.canonical))

        pub stands_next : StandsBehind state (covered ++ took.messages) q last
        stands_next = record {
          empty = emptied.empty;
          file = emptied.file ∙ (took.marks.file ∙ (stands.file ∙ sym sealed.added.still.number));
          first = omega (
            arith,
            emptied.first,
            took.marks.first,
            stands.first,
            took.takes.rows_long,
            ap length stands.empty.rows,
            canonical_long version took.rows old.types old.words took.messages took.source.0,
            length-append covered took.messages,
          );
          open_is = emptied.open_is ∙ (took.open_is ∙ (ap (λ b. open_after b took.messages) stands.open_is ∙ sym (open_joined covered took.messages)));
          holds = λ a is. told_map (is_some (state a.fixed.opened).seen)
              (λ (holds : Holds a.fixed.header (journal_seen (seen q)) new.draft.file (covered ++ took.messages) new.draft.last (new.draft.last && new.draft.ended)).
              subst (λ f. Holds a.fixed.header (journal_seen (seen q)) f (covered ++ took.messages) last.draft.last (last.draft.last && last.draft.ended)) (sym emptied.file)
              (subst (λ b. Holds a.fixed.header (journal_seen (seen q)) new.draft.file (covered ++ took.messages) b (b && last.draft.ended)) (sym emptied.last)
              (subst (λ b. Holds a.fixed.header (journal_seen (seen q)) new.draft.file (covered ++ took.messages) new.draft.last (new.draft.last && b)) (sym emptied.ended) holds)))
              (now covered took.messages (took.marks.first ∙ stands.first) so_far rows_are a (sym sealed.added.still.about_is ∙ is));
        }

      -- where it does not fit
      pub no_room_now : (end need : ℕ) (q : KeeperPass D) (l : LockNamer R A B C) → LacksRoom state new end need p q n l → HasNoRoomNow state version old (place ∷ []) told hand.draft.first end need p q (books_in l)
      no_room_now end need q l lacks =
          let rows_same : lacks.draft.columns.rows ≡ new.draft.columns.rows = ap (λ (s : SegmentEntry). s.rows) lacks.is in
          record {
            place = place;
            there = (0, (omega arith), refl);
            rows = took.rows;
            rows_are = took.told;
            next = ap (λ (s : SegmentEntry). s.first) lacks.is ∙ took.marks.first;
            at = ap (λ (s : SegmentEntry). s.first) lacks.is ∙ (took.marks.first ∙ sym took.follows.first);
            marks = (ap (λ (s : SegmentEntry). s.last) lacks.is ∙ took.marks.last, ap (λ (s : SegmentEntry). s.ended) lacks.is ∙ took.marks.ended);
            messages = took.messages;
            source = took.source;
            draft = lacks.draft;
            before = texts_seen n;
            file = ap (λ (s : SegmentEntry). s.file) lacks.is ∙ (took.marks.file ∙ stands.file);
            canonical = subst (λ (rows : List Row). AreCanonical version rows (types_seen n) (words_seen n) took.messages) (sym rows_same) in_hand.canonical;
            numbers = lacks.words ∙ (ap sorted_set in_hand.used ∙ ap (words_named (types_seen n)) (sym rows_same));
            types = lacks.no_room.types;
            words = lacks.no_room.words;
            full = lacks.no_room.full;
            types_on = lacks.no_room.types_on;
            words_on = lacks.no_room.words_on;
          }

    pub moves_segment : hand.draft.columns.rows ≡ [] → (q : KeeperPass D) (last : Hand) → IsEmptied new last → HasSealed state new.draft p q → NowHas state new.draft n.version (types_seen n) (words_seen n) p q
        → MovesSegment state version old place told hand last p q
    moves_segment none q last emptied sealed now = record {
      rows = took.rows;
      messages = took.messages;
      source = took.source;
      rows_are = took.told;
      draft = new.draft;
      file = took.marks.file;
      at = took.marks.first ∙ sym took.follows.first;
      counted = omega (arith, took.takes.rows_long, ap length none, canonical_long version took.rows old.types old.words took.messages took.source.0);
      begun = took.follows.goes_on;
      marks = (took.marks.last, took.marks.ended);
      sealed = sealed;
      last = emptied.last ∙ took.marks.last;
      ended = emptied.ended ∙ took.marks.ended;
      goes = λ covered stands. stands_next covered stands q last emptied sealed now;
    }

-- ---- causes

module _ {D : Type 0} (state : D → DiskState) (version : ℕ) (old : Texts) (places : List SegmentPlace) (told : Option (List ℕ)) (done : ℕ) (p q : KeeperPass D) (books : Books) where
  pub stop_cause : (stop : Stop) → ((book : Which) (count : ℕ) → stop ≡ StopFull book count → IsFull book old.types old.words books.types books.words count) → HasMoveCause state version old places told done p q books (cause_by stop)
  stop_cause (StopFull book count) full = full book count refl
  stop_cause StopDamaged full = tt
  stop_cause StopFault full = tt
  stop_cause StopOutOfMemory full = tt

  pub seal_cause : (no_room : ℕ → ℕ → Type 0) (cause : Cause) → HasSealCause state no_room p q cause → ((end need : ℕ) → cause ≡ ArchiveFull end need → HasNoRoomNow state version old places told done end need p q books) → HasMoveCause state version old places told done p q books (cause_of_sealing cause)
  seal_cause no_room (ArchiveFull end need) has full = full end need refl
  seal_cause no_room (DiskFault opened now) has full = has
  seal_cause no_room OutOfMemory has full = tt
  seal_cause no_room ReadFault has full = absurd has
  seal_cause no_room (LineTooLong line) has full = absurd has
  seal_cause no_room TooManyLines has full = absurd has
  seal_cause no_room (Full book count) has full = absurd has

  pub of_sealing_cause : (no_room : ℕ → ℕ → Type 0) (cause : Cause) → HasSealCause state no_room p q cause → IsOfSealing cause
  of_sealing_cause no_room (ArchiveFull end need) has = tt
  of_sealing_cause no_room (DiskFault opened now) has = tt
  of_sealing_cause no_room OutOfMemory has = tt
  of_sealing_cause no_room ReadFault has = absurd has
  of_sealing_cause no_room (LineTooLong line) has = absurd has
  of_sealing_cause no_room TooManyLines has = absurd has
  of_sealing_cause no_room (Full book count) has = absurd has

pub stop_damaged : (stop : Stop) → cause_by stop ≡ SecondDamaged → stop ≡ StopDamaged
stop_damaged (StopFull book count) is = absurd (cc (is))
stop_damaged StopDamaged is = refl
stop_damaged StopFault is = absurd (cc (is))
stop_damaged StopOutOfMemory is = absurd (cc (is))

-- sealing says nothing of the second archive
pub sealing_apart : (cause : Cause) → (cause_of_sealing cause ≡ SecondDamaged → ⊥) × (cause_of_sealing cause ≡ SecondFault → ⊥)
sealing_apart (ArchiveFull end need) = (λ is. absurd (cc (is)), λ is. absurd (cc (is)))
sealing_apart (DiskFault opened now) = (λ is. absurd (cc (is)), λ is. absurd (cc (is)))
sealing_apart OutOfMemory = (λ is. absurd (cc (is)), λ is. absurd (cc (is)))
sealing_apart ReadFault = (λ is. absurd (cc (is)), λ is. absurd (cc (is)))
sealing_apart (LineTooLong line) = (λ is. absurd (cc (is)), λ is. absurd (cc (is)))
sealing_apart TooManyLines = (λ is. absurd (cc (is)), λ is. absurd (cc (is)))
sealing_apart (Full book count) = (λ is. absurd (cc (is)), λ is. absurd (cc (is)))

pub if_err : {T E : Type 0} (r : Result T E) (P : E → Type 0) (e : E) → r ≡ Err e → P e → IfErr r P
if_err (Ok x) P e is p = tt
if_err (Err y) P e is p = let same : e ≡ y = cc (is) in subst P same p
