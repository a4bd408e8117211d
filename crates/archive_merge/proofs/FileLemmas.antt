-- A file, a segment more at a time.
use Rattle.std.proofs.Common.{◌≡◌, ℕ, ◌+◌, ◌<◌, ◌≤◌, zero, suc, List, [], ◌∷◌, ◌++◌, All, Bool, true, false, append_assoc, arith, refl, sym, ap, ap₂, ◌∙◌, subst, length, length-append, drop, get_or}
use Rattle.std.specs.Prelude.{◌&&◌, ◌||◌, Err, Ok, Option, Result, Some, is_ok, is_some}
use Rattle.std.specs.List.{Contains, list_any, sum_by}
use Rattle.std.proofs.lemmas.List.{append-nil, drop_all}
use Rattle.std.proofs.lemmas.List.Elements.{All-append, All-nil, Contains-get_or}
use Rattle.std.proofs.lemmas.List.Sums.{sum_by-append, sum_by-cons}
use mathlib.Core.List.{IsPrefix}
use Rattle.log_seams.specs.Disk.{DiskState}
use Rattle.logtype_text.specs.Fair.{IsFairType, IsFairWord}
use Rattle.turn_lock.specs.Words.{IsReady, number_of, seen}
use Rattle.column_store.specs.declared.row.Row.{Row}
use Rattle.row_codec.specs.Means.{AreCanonical}
use Rattle.record_format.specs.declared.header.Header.{Header}
use Rattle.archive_meaning.specs.declared.entry.SegmentEntry.{SegmentEntry}
use Rattle.archive_meaning.specs.declared.sums.FileSum.{FileSum}
use Rattle.archive_meaning.specs.Sums.{AddsRows}
use Rattle.archive_meaning.proofs.RunLemmas.{one_messages}
use Rattle.archive_core.specs.Part.{segment_of}
use Rattle.archive_open.specs.declared.segments.SegmentPlace.{SegmentPlace}
use Rattle.disk_seal.specs.declared.entry.StoreEntry.{StoreEntry}
use Rattle.disk_seal.specs.Draft.{journal_seen}
use Rattle.disk_seal.specs.Fixed.{KeeperPass}
use Rattle.disk_seal.specs.Planned.{segment_of as segment_in}
use Rattle.disk_seal.proofs.ToldLemmas.{told_both, told_map}
use Rattle.ingest_workers.specs.Journal.{FrontHolds, HasAdded, Holds, WhereTold, sealed_by}
use Rattle.ingest_workers.specs.Sealed.{HasNotSealed}
use Rattle.ingest_workers.proofs.JournalLemmas.{seen_front}
use Rattle.ingest_workers.proofs.MaySealLemmas.{nothing_added}
use Rattle.ingest_workers.proofs.PartLemmas.{added_on, sealed_joined}
use Rattle.ingest_workers.proofs.SealLemmas.{if_told}
use Rattle.archive_merge.specs.declared.cause.MergeCause.{MergeCause}
use Rattle.archive_merge.specs.declared.cause.MergeCause.TheVariants.{ArchiveFull, FirstFault, Full, OutOfMemory, SecondDamaged, SecondFault}
use Rattle.archive_merge.specs.declared.file.Merged.{Merged}
use Rattle.archive_merge.specs.declared.hand.Hand.{Hand}
use Rattle.archive_merge.specs.Causes.{HasMoveCause}
use Rattle.archive_merge.specs.Files.{AreCutAs, CameOver, IsCutAs, IsNewFile}
use Rattle.archive_merge.specs.InHand.{IsEmpty, Texts, sum_in}
use Rattle.archive_merge.specs.Next.{HoldsNext, part_of}
use Rattle.archive_merge.specs.Runs.{HoldRun, IsReached, SoFar, nothing_so_far, so_far_with, sum_of}
use Rattle.archive_merge.specs.Sealing.{MovesSegment, StandsBehind}
use Rattle.archive_merge.specs.Taken.{Books}
use Rattle.archive_merge.proofs.SealingLemmas.{canonical_long}

-- ---- runs

-- the messages of before are the first of all
run_front : (version : ℕ) (old : Texts) (bytes : List ℕ) (places : List SegmentPlace) (now all : SoFar) → HoldRun version old bytes places now all → IsPrefix now.messages all.messages
run_front version old bytes [] now all run = ([], append-nil now.messages ∙ sym (ap (λ (s : SoFar). s.messages) run))
run_front version old bytes (p ∷ ps) now all (rows, messages, holds, adds, run) =
    let rest = run_front version old bytes ps (so_far_with now p.head messages) all run in
    (messages ++ rest.0, sym (append_assoc now.messages messages rest.0) ∙ rest.1)

dropped : (places : List SegmentPlace) (i : ℕ) (place : SegmentPlace) → i < length places → place ≡ get_or places i place → drop i places ≡ place ∷ drop (i + 1) places
dropped [] i place within is = absurd (omega (arith, within))
dropped (p ∷ places) zero place within is = ap (λ q. q ∷ places) (sym is)
dropped (p ∷ places) (suc i) place within is =
    let next : suc i + 1 ≡ suc (i + 1) = omega arith in
    dropped places i place (omega (arith, within)) is ∙ ap (λ n. place ∷ drop n (p ∷ places)) (sym next)

pub contains_place : (places : List SegmentPlace) (i : ℕ) (place : SegmentPlace) → i < length places → place ≡ get_or places i place → Contains places place
contains_place places i place within is = subst (Contains places) (sym is) (Contains-get_or places i place within)

-- what holds of one holds of it alone
one_alone : {X : Type 0} (P : X → Type 0) (x : X) → P x → All P (x ∷ [])
one_alone P x holds zero d lt = holds
one_alone P x holds (suc i) d lt = absurd (omega (arith, lt))

abbrev rows_of : SegmentEntry → ℕ
rows_of s = length s.rows

-- ---- cuts

-- a segment more, by the next place
cut_more : (number : ℕ) (places : List SegmentPlace) (ss : List SegmentEntry) (p : SegmentPlace) (rest : List SegmentPlace) (s : SegmentEntry) → drop (length ss) places ≡ p ∷ rest → AreCutAs number places ss → IsCutAs number p s
    → AreCutAs number places (ss ++ s ∷ [])
cut_more number places [] p rest s left are is = subst (λ l. AreCutAs number l (s ∷ [])) (sym left) (is, tt)
cut_more number [] (t ∷ ss) p rest s left are is = absurd are
cut_more number (q ∷ places) (t ∷ ss) p rest s left are is = (are.0, cut_more number places ss p rest s left are.1 is)

-- ---- marks

abbrev last_of : SegmentEntry → Bool
last_of s = s.last

abbrev ended_of : SegmentEntry → Bool
ended_of s = s.last && s.ended

both_false : (a b : Bool) → (a || b) ≡ false → (a ≡ false) × (b ≡ false)
both_false true b is = absurd (cc (is))
both_false false b is = (refl, is)

or_none : (a : Bool) → (a || false) ≡ a
or_none true = refl
or_none false = refl

-- a segment behind others that have no mark
any_behind : (f : SegmentEntry → Bool) (ss : List SegmentEntry) (s : SegmentEntry) → list_any f ss ≡ false → list_any f (ss ++ s ∷ []) ≡ f s
any_behind f [] s none = or_none (f s)
any_behind f (t ∷ ss) s none = let both = both_false (f t) (list_any f ss) none in ap (λ b. b || list_any f (ss ++ s ∷ [])) both.0 ∙ any_behind f ss s both.1

-- what the file in hand has
abbrev so_far_in : List (List ℕ) → Hand → SoFar
so_far_in covered hand = record { messages = covered; whole = hand.draft.last; ended = hand.draft.last && hand.draft.ended }

sum_same : (m n : ℕ) (a b c d : Bool) → m ≡ n → a ≡ b → c ≡ d → (let x : FileSum = record { messages = m; whole = a; open_end = c } in x) ≡ record { messages = n; whole = b; open_end = d }
sum_same m n a b c d same_m same_a same_c = λ i. record { messages = same_m i; whole = same_a i; open_end = same_c i }

so_far_same : (m n : List (List ℕ)) (a b c d : Bool) → m ≡ n → a ≡ b → c ≡ d → (let x : SoFar = record { messages = m; whole = a; ended = c } in x) ≡ record { messages = n; whole = b; ended = d }
so_far_same m n a b c d same_m same_a same_c = λ i. record { messages = same_m i; whole = same_a i; ended = same_c i }

module _ {D : Type 0} (state : D → DiskState) (version : ℕ) (old : Texts) (places : List SegmentPlace) (told : Option (List ℕ)) (start : KeeperPass D) where
  -- So many places were done: their messages are sealed, and where the bytes are told, the others go on with them.
  pub record FileUnderWay (k : ℕ) (p : KeeperPass D) (file : Merged) (hand : Hand) : Type 0 where
    pub covered : List (List ℕ)
    pub more : List (ℕ × StoreEntry)
    pub added : HasAdded start p more
    pub segments : List SegmentEntry
    pub mine : All (λ (s : SegmentEntry). s.file ≡ number_of start) segments
    pub sealed : WhereTold state start (λ h. sealed_by more ≡ segments)
    pub rows_count : sum_by (λ (s : SegmentEntry). length s.rows) segments ≡ length covered
    pub last_is : list_any (λ (s : SegmentEntry). s.last) segments ≡ hand.draft.last
    pub ended_is : list_any (λ (s : SegmentEntry). s.last && s.ended) segments ≡ (hand.draft.last && hand.draft.ended)
    pub stands : StandsBehind state covered p hand
    pub number : file.file ≡ number_of start
    pub count : file.messages ≡ length covered
    pub whole : file.whole ≡ hand.draft.last
    pub left : (bytes : List ℕ) (all : SoFar) → told ≡ Some bytes → HoldRun version old bytes places nothing_so_far all → HoldRun version old bytes (drop k places) (so_far_in covered hand) all
    pub counted : length segments ≡ k
    pub cuts : (bytes : List ℕ) (all : SoFar) → told ≡ Some bytes → HoldRun version old bytes places nothing_so_far all → AreCutAs (number_of start) places segments

  pub way_begins : (file : Merged) (hand : Hand) → IsNewFile state file start → IsReady start → hand.draft.file ≡ file.file → IsEmpty hand → sum_in hand ≡ record { messages = 0; whole = false; open_end = false }
      → FileUnderWay 0 start file hand
  way_begins file hand new ready number empty sum = record {
    covered = [];
    more = [];
    added = nothing_added start ready;
    segments = [];
    mine = All-nil (λ (s : SegmentEntry). s.file ≡ number_of start);
    sealed = λ a is. if_told (is_some (state a.fixed.opened).seen) _ (λ t. refl);
    rows_count = refl;
    last_is = sym not_last;
    ended_is = sym (ap (λ b. b && hand.draft.ended) not_last);
    stands = record {
      empty = empty;
      file = number ∙ new.number;
      first = ap (λ (s : FileSum). s.messages) sum;
      open_is = ap (λ (s : FileSum). s.open_end) sum;
      holds = λ a is. told_map (is_some (state a.fixed.opened).seen)
          (λ holds. subst (λ f. Holds a.fixed.header (journal_seen (seen start)) f [] hand.draft.last (hand.draft.last && hand.draft.ended)) (sym (number ∙ new.number))
          (subst (λ b. Holds a.fixed.header (journal_seen (seen start)) (number_of start) [] b (b && hand.draft.ended)) (sym not_last) holds)) (new.so_far a is);
    };
    number = new.number;
    count = new.messages_none;
    whole = new.not_whole ∙ sym not_last;
    left = λ bytes all told_is run. subst (λ s. HoldRun version old bytes places s all) (so_far_same [] [] _ _ _ _ refl (sym not_last) (ap (λ b. b && hand.draft.ended) (sym not_last))) run;
    counted = refl;
    cuts = λ bytes all told_is run. tt;
  }
    where
      not_last : hand.draft.last ≡ false
      not_last = ap (λ (s : FileSum). s.whole) sum

  module _ (k : ℕ) (p : KeeperPass D) (file : Merged) (hand : Hand) (way : FileUnderWay k p file hand) where
    number_is : number_of p ≡ number_of start
    number_is = way.added.still.number

    sum_is : sum_of (so_far_in way.covered hand) ≡ sum_in hand
    sum_is = sum_same _ _ _ _ _ _ (sym way.stands.first) refl (sym way.stands.open_is)

    module _ (place : SegmentPlace) (within : k < length places) (place_is : place ≡ get_or places k place) where
      -- what comes next, where the bytes are told
      next_run : (bytes : List ℕ) (all : SoFar) → told ≡ Some bytes → HoldRun version old bytes places nothing_so_far all → HoldRun version old bytes (place ∷ drop (k + 1) places) (so_far_in way.covered hand) all
      next_run bytes all told_is run = subst (λ l. HoldRun version old bytes l (so_far_in way.covered hand) all) (dropped places k place within place_is) (way.left bytes all told_is run)

      pub holds_next : (bytes : List ℕ) (all : SoFar) → told ≡ Some bytes → All IsFairType old.types → All IsFairWord old.words → HoldRun version old bytes places nothing_so_far all → HoldsNext version old place bytes hand
      holds_next bytes all told_is fair_types fair_words run =
          let next = next_run bytes all told_is run in record {
            rows = next.0;
            messages = next.1;
            holds = next.2;
            adds = subst (λ s. AddsRows version s old.types old.words (segment_of (part_of place.head) next.0) next.1) sum_is next.3;
            fair_types = fair_types;
            fair_words = fair_words;
          }

      -- the next segment is reached by the messages that are there
      pub next_reached : IsReached version old places told file.messages place
      next_reached = record {
        there = contains_place places k place within place_is;
        within = λ bytes all told_is run. let adds = (next_run bytes all told_is run).3 in let first = adds.first in let count = way.count in omega (arith, first, count);
      }

      -- and by those with its own
      pub moved_reached : (q : KeeperPass D) (hand_new : Hand) (messages : ℕ) → MovesSegment state version old place told hand hand_new p q → messages ≡ hand_new.draft.first → file.messages ≤ messages
      moved_reached q hand_new messages moved count =
          let stands = moved.goes way.covered way.stands in
          omega (arith, way.count, count, stands.first, length-append way.covered moved.messages)

      pub way_moves : (q : KeeperPass D) (file_new : Merged) (hand_new : Hand) → MovesSegment state version old place told hand hand_new p q → file_new.file ≡ file.file → file_new.messages ≡ hand_new.draft.first → file_new.whole ≡ hand_new.draft.last
          → FileUnderWay (k + 1) q file_new hand_new
      way_moves q file_new hand_new moved number count whole = record {
        covered = way.covered ++ moved.messages;
        more = way.more ++ moved.sealed.more;
        added = added_on start p q way.more moved.sealed.more way.added moved.sealed.added;
        segments = way.segments ++ segment_in moved.draft ∷ [];
        mine = All-append (λ (s : SegmentEntry). s.file ≡ number_of start) way.segments (segment_in moved.draft ∷ []) way.mine
            (one_alone (λ (s : SegmentEntry). s.file ≡ number_of start) (segment_in moved.draft) (moved.file ∙ (way.stands.file ∙ number_is)));
        sealed = λ a is. told_both (is_some (state a.fixed.opened).seen)
            (λ one two. sealed_joined way.more moved.sealed.more ∙ (ap (λ l. l ++ sealed_by moved.sealed.more) one ∙ ap (λ l. way.segments ++ l) two)) (way.sealed a is) (moved.sealed.segments a (way.added.still.about_is ∙ is));
        rows_count = omega (arith, sum_by-append rows_of way.segments (segment_in moved.draft ∷ []), sum_by-cons rows_of (segment_in moved.draft) [], way.rows_count, moved.counted, length-append way.covered moved.messages);
        last_is = any_behind last_of way.segments (segment_in moved.draft) (way.last_is ∙ moved.begun) ∙ (moved.marks.0 ∙ sym moved.last);
        ended_is = any_behind ended_of way.segments (segment_in moved.draft) (way.ended_is ∙ ap (λ b. b && hand.draft.ended) moved.begun)
            ∙ ap₂ (λ a b. a && b) (moved.marks.0 ∙ sym moved.last) (moved.marks.1 ∙ sym moved.ended);
        stands = next_stands;
        number = number ∙ way.number;
        count = count ∙ next_stands.first;
        whole = whole;
        left = λ bytes all told_is run. next_left bytes all told_is (next_run bytes all told_is run);
        counted = omega (arith, length-append way.segments (segment_in moved.draft ∷ []), way.counted);
        cuts = λ bytes all told_is run. cut_more (number_of start) places way.segments place (drop (k + 1) places) (segment_in moved.draft)
            (ap (λ n. drop n places) way.counted ∙ dropped places k place within place_is) (way.cuts bytes all told_is run) (next_cut bytes all told_is (next_run bytes all told_is run));
      }
        where
          next_cut : (bytes : List ℕ) (all : SoFar) → told ≡ Some bytes → HoldRun version old bytes (place ∷ drop (k + 1) places) (so_far_in way.covered hand) all → IsCutAs (number_of start) place (segment_in moved.draft)
          next_cut bytes all told_is (rows, messages, holds, adds, run) = record {
            file = moved.file ∙ (way.stands.file ∙ number_is);
            first = moved.at;
            rows = omega (
              arith,
              moved.counted,
              canonical_long version moved.rows old.types old.words moved.messages moved.source.0,
              ap length (moved.rows_are bytes rows told_is holds),
              holds.holds.behind.count,
            );
            marks = moved.marks;
          }

          next_stands : StandsBehind state (way.covered ++ moved.messages) q hand_new
          next_stands = moved.goes way.covered way.stands

          next_left : (bytes : List ℕ) (all : SoFar) → told ≡ Some bytes → HoldRun version old bytes (place ∷ drop (k + 1) places) (so_far_in way.covered hand) all → HoldRun version old bytes (drop (k + 1) places) (so_far_in (way.covered ++ moved.messages) hand_new) all
          next_left bytes all told_is (rows, messages, holds, adds, run) =
              let canonical : AreCanonical version moved.rows old.types old.words messages = subst (λ (l : List Row). AreCanonical version l old.types old.words messages) (moved.rows_are bytes rows told_is holds) adds.canonical in
              let same : messages ≡ moved.messages = one_messages version moved.rows old.types old.words messages moved.messages canonical moved.source.0 in
              subst (λ s. HoldRun version old bytes (drop (k + 1) places) s all)
              (so_far_same _ _ _ _ _ _ (ap (λ l. way.covered ++ l) same) (sym moved.last) (ap₂ (λ a b. a && b) (sym moved.last) (sym moved.ended))) run

    -- what the file came to, where nothing more is sealed
    pub came_over : (file_old : Merged) (q : KeeperPass D) (all_done : Bool) → IsNewFile state file_old start → HasNotSealed state p q → (all_done ≡ true → length places ≤ k)
        → (all_done ≡ false → (place : SegmentPlace) × (k < length places) × (place ≡ get_or places k place)) → CameOver state version old places told all_done start q file_old file
    came_over file_old q all_done new nothing far near = record {
      same_file = way.number ∙ sym new.number;
      covered = way.covered;
      ended = hand.draft.ended;
      count = way.count;
      more = way.more ++ nothing.more;
      added = added_on start p q way.more nothing.more way.added nothing.added;
      segments = way.segments;
      mine = way.mine;
      sealed = λ a is. told_both (is_some (state a.fixed.opened).seen)
          (λ one two. sealed_joined way.more nothing.more ∙ (ap (λ l. l ++ sealed_by nothing.more) one ∙ (ap (λ l. way.segments ++ l) two ∙ append-nil way.segments))) (way.sealed a is) (nothing.segments a (way.added.still.about_is ∙ is));
      rows_count = way.rows_count;
      last_is = way.last_is ∙ sym way.whole;
      ended_is = way.ended_is ∙ ap (λ b. b && hand.draft.ended) (sym way.whole);
      held = λ a is. told_map (is_some (state a.fixed.opened).seen)
          (λ (holds : Holds a.fixed.header (journal_seen (seen p)) hand.draft.file way.covered hand.draft.last (hand.draft.last && hand.draft.ended)).
          front_of a.fixed.header
          (subst (λ f. Holds a.fixed.header (journal_seen (seen p)) f way.covered file.whole (file.whole && hand.draft.ended)) (way.stands.file ∙ number_is)
          (subst (λ b. Holds a.fixed.header (journal_seen (seen p)) hand.draft.file way.covered b (b && hand.draft.ended)) (sym way.whole) holds)))
          (way.stands.holds a (way.added.still.about_is ∙ is));
      first = λ bytes all told_is run. run_front version old bytes (drop k places) (so_far_in way.covered hand) all (way.left bytes all told_is run);
      all = λ yes bytes all told_is run.
          let none : all ≡ so_far_in way.covered hand = subst (λ l. HoldRun version old bytes l (so_far_in way.covered hand) all) (drop_all k places (far yes)) (way.left bytes all told_is run) in
          none ∙ so_far_same _ _ _ _ _ _ refl (sym way.whole) (ap (λ b. b && hand.draft.ended) (sym way.whole));
      cuts = way.cuts;
      not_done = λ no bytes all told_is run.
          let at = near no in
          let next = next_run at.0 at.1 at.2 bytes all told_is run in
          let adds = next.3 in record {
            part = way.whole ∙ adds.goes_on;
            place = at.0;
            there = contains_place places k at.0 at.1 at.2;
            next = adds.first ∙ sym way.count;
          };
    }
      where
        front_of : (h : Header) → Holds h (journal_seen (seen p)) (number_of start) way.covered file.whole (file.whole && hand.draft.ended) → FrontHolds h (journal_seen (seen q)) (number_of start) way.covered file.whole (file.whole && hand.draft.ended)
        front_of h holds = record { front = journal_seen (seen p); begins = seen_front (seen p) (seen q) nothing.added.seen_on; holds = holds }

-- ---- causes

-- what a list of one has is that one
one_there : (p q : SegmentPlace) → Contains (p ∷ []) q → p ≡ q
one_there p q (zero, within, is) = is
one_there p q (suc i, within, is) = absurd (omega (arith, within))

-- the same to the pass that the file began with
pub cause_since : {D : Type 0} (state : D → DiskState) (version : ℕ) (old : Texts) (places : List SegmentPlace) (told : Option (List ℕ)) (done : ℕ) (place : SegmentPlace) (first : ℕ) (start p q : KeeperPass D) (more : List (ℕ × StoreEntry)) (books : Books) (cause : MergeCause)
    → Contains places place → first ≡ done → HasAdded start p more → HasMoveCause state version old (place ∷ []) told first p q books cause → HasMoveCause state version old places told done start q books cause
cause_since state version old places told done place first start p q more books (Full book count) there same added has = has
cause_since state version old places told done place first start p q more books (ArchiveFull end need) there same added has =
    let about_is = added.still.about_is in record {
      place = has.place;
      there = subst (Contains places) (one_there place has.place has.there) there;
      rows_are = has.rows_are;
      next = has.next ∙ same;
      at = has.at;
      marks = has.marks;
      rows = has.rows;
      messages = has.messages;
      source = has.source;
      draft = has.draft;
      before = has.before;
      file = has.file ∙ added.still.number;
      canonical = has.canonical;
      numbers = has.numbers;
      types = has.types;
      words = has.words;
      full = record {
        locks = λ a is. has.full.locks a (about_is ∙ is);
        types_on = has.full.types_on;
        words_on = has.full.words_on;
        past = λ a is. has.full.past a (about_is ∙ is);
        ends = λ a is. has.full.ends a (about_is ∙ is);
        needs = λ a is. has.full.needs a (about_is ∙ is);
      };
      types_on = has.types_on;
      words_on = has.words_on;
    }
cause_since state version old places told done place first start p q more books (FirstFault opened now) there same added has = record {
  fault = record { opened = λ a is. has.fault.opened a (added.still.about_is ∙ is); rose = has.fault.rose };
  mark = has.mark;
}
cause_since state version old places told done place first start p q more books SecondFault there same added has = tt
cause_since state version old places told done place first start p q more books SecondDamaged there same added has = tt
cause_since state version old places told done place first start p q more books OutOfMemory there same added has = tt

pub err_not_ok : {T E : Type 0} (r : Result T E) (e : E) → r ≡ Err e → is_ok r ≡ true → ⊥
err_not_ok (Ok x) e is ok = absurd (cc (is))
err_not_ok (Err y) e is ok = absurd (cc (ok))
