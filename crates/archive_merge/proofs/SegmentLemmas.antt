-- Rows of a segment, a page more at a time.
use Rattle.std.proofs.Common.{◌≡◌, ℕ, suc, ◌+◌, ◌<◌, ◌≤◌, List, [], ◌∷◌, ◌++◌, All, append_assoc, arith, refl, sym, ap, ◌∙◌, subst, length, length-append}
use Rattle.std.specs.Prelude.{Bool, Option, Some, slice_get}
use Rattle.std.proofs.lemmas.List.{append-nil}
use Rattle.std.proofs.lemmas.List.Elements.{All-append, All-cons, All-head, All-nil, All-tail, Contains-append_left, Contains-append_right}
use Rattle.std.specs.List.{Contains}
use Rattle.std.proofs.lemmas.List.Sums.{sum_by-append}
use Rattle.column_store.specs.declared.row.Row.{Row}
use Rattle.row_codec.specs.Means.{AreCanonical}
use Rattle.row_codec.specs.Messages.{IsMessage}
use Rattle.row_codec.proofs.MeansLemmas.{prefix_keeps}
use Rattle.row_codec.specs.declared.namer.Which.{Which}
use Rattle.row_codec.specs.declared.namer.Which.TheVariants.{Types, Words}
use Rattle.row_rename.proofs.TableLemmas.{grown_weaker}
use Rattle.segment_pages.specs.declared.refusal.PageRefusal.{PageRefusal}
use Rattle.segment_format.specs.Pages.{page_rows}
use Rattle.segment_pages.specs.Laws.{NoneAreLeft}
use Rattle.segment_pages.specs.Paged.{AreNextTold, HoldsLeft, HoldsNoneTold, HoldsSegment, Paged, paged_after, paged_first}
use Rattle.archive_meaning.specs.declared.TheConstants.{MAX_ROWS}
use Rattle.archive_meaning.specs.Sums.{open_after}
use Rattle.archive_meaning.proofs.SumsLemmas.{open_joined}
use Rattle.archive_core.specs.Rows.{AreMessages}
use Rattle.archive_open.specs.declared.segments.SegmentPlace.{SegmentPlace}
use Rattle.archive_merge.specs.declared.hand.Hand.{Hand}
use Rattle.archive_merge.specs.declared.stop.Stop.TheVariants.{SecondDamaged, SecondFault}
use Rattle.archive_merge.specs.declared.taker.Taker.{Taker}
use Rattle.archive_merge.specs.Stops.{stop_by_page}
use Rattle.archive_merge.specs.InHand.{HasInHand, MayTakeAll, TakesAll, TakesRows, Texts}
use Rattle.archive_merge.specs.Needed.{IsTextOfRows, IsTextThere}
use Rattle.archive_merge.specs.Taken.{Books, HasNamed, MayTakeSegment, Serves, TakesSegment}
use Rattle.archive_merge.proofs.HandLemmas.{both_none, both_then, takes_none}

-- ---- rows behind rows

-- rows in two parts are the encodings of messages in two parts
record CanonicalBoth (version : ℕ) (rows others : List Row) (types words ms : List (List ℕ)) : Type 0 where
  first : List (List ℕ)
  rest : List (List ℕ)
  are : ms ≡ first ++ rest
  canonical : AreCanonical version rows types words first
  canonical_rest : AreCanonical version others types words rest

canonical_both : (version : ℕ) (rows others : List Row) (types words ms : List (List ℕ)) → AreCanonical version (rows ++ others) types words ms → CanonicalBoth version rows others types words ms
canonical_both version [] others types words ms are = record { first = []; rest = ms; are = refl; canonical = tt; canonical_rest = are }
canonical_both version (r ∷ rows) others types words [] are = absurd are
canonical_both version (r ∷ rows) others types words (m ∷ ms) are =
    let later = canonical_both version rows others types words ms are.1 in
    record { first = m ∷ later.first; rest = later.rest; are = ap (λ l. m ∷ l) later.are; canonical = (are.0, later.canonical); canonical_rest = later.canonical_rest }

canonical_joined : (version : ℕ) (rows others : List Row) (types words ms ns : List (List ℕ)) → AreCanonical version rows types words ms → AreCanonical version others types words ns → AreCanonical version (rows ++ others) types words (ms ++ ns)
canonical_joined version [] others types words [] ns one two = two
canonical_joined version [] others types words (m ∷ ms) ns one two = absurd one
canonical_joined version (r ∷ rows) others types words [] ns one two = absurd one
canonical_joined version (r ∷ rows) others types words (m ∷ ms) ns one two = (one.0, canonical_joined version rows others types words ms ns one.1 two)

all_first : {A : Type 0} (P : A → Type 0) (xs ys : List A) → All P (xs ++ ys) → All P xs
all_first P [] ys h = All-nil P
all_first P (x ∷ xs) ys h = All-cons P x xs (All-head P x (xs ++ ys) h) (all_first P xs ys (All-tail P x (xs ++ ys) h))

all_rest : {A : Type 0} (P : A → Type 0) (xs ys : List A) → All P (xs ++ ys) → All P ys
all_rest P [] ys h = h
all_rest P (x ∷ xs) ys h = all_rest P xs ys (All-tail P x (xs ++ ys) h)

open_then : (before : Bool) (ms ns : List (List ℕ)) → open_after (open_after before ms) ns ≡ open_after before (ms ++ ns)
open_then before [] ns = refl
open_then before (m ∷ ms) ns = sym (open_joined (m ∷ ms) ns)

all_then : (old before middle after : Texts) (rows others : List Row) (hand mid new : Hand) → TakesAll old before middle rows hand mid → TakesAll old middle after others mid new → TakesAll old before after (rows ++ others) hand new
all_then old before middle after rows others hand mid new one two = record {
  goes = λ version messages more are has.
      let both = canonical_both version rows others old.types old.words more are in
      subst (λ l. HasInHand version after l new) (append_assoc messages both.first both.rest ∙ ap (λ l. messages ++ l) (sym both.are))
      (two.goes version (messages ++ both.first) both.rest both.canonical_rest (one.goes version messages both.first both.canonical has));
  rows_long = omega (arith, one.rows_long, two.rows_long, length-append rows others);
  words_long = omega (arith, one.words_long, two.words_long, sum_by-append (λ (r : Row). length r.words) rows others);
}

rows_then : (version : ℕ) (old before middle after : Texts) (rows others : List Row) (hand mid new : Hand) (a b c : Bool)
    → TakesRows version old before middle rows hand mid a b → TakesRows version old middle after others mid new b c → TakesRows version old before after (rows ++ others) hand new a c
rows_then version old before middle after rows others hand mid new a b c one two = record {
  more = one.more ++ two.more;
  source = (
    canonical_joined version rows others old.types old.words one.more two.more one.source.0 two.source.0,
    All-append (IsMessage version) one.more two.more one.source.1 two.source.1,
  );
  takes = all_then old before middle after rows others hand mid new one.takes two.takes;
  open_is = two.open_is ∙ (ap (λ o. open_after o two.more) one.open_is ∙ open_then a one.more two.more);
}

rows_none : (version : ℕ) (old texts : Texts) (hand : Hand) (a : Bool) → TakesRows version old texts texts [] hand hand a a
rows_none version old texts hand a = record {
  more = [];
  source = (tt, All-nil (IsMessage version));
  takes = takes_none old texts hand;
  open_is = refl;
}

-- ---- rows among rows

get_behind : (rows others : List Row) (place : ℕ) (row : Row) → slice_get others place ≡ Some row → slice_get (rows ++ others) (length rows + place) ≡ Some row
get_behind [] others place row at =
    let none : place ≡ 0 + place = omega arith in
    subst (λ n. slice_get others n ≡ Some row) none at
get_behind (r ∷ rows) others place row at =
    let step : suc (length rows + place) ≡ length (r ∷ rows) + place = omega arith in
    subst (λ n. slice_get (r ∷ (rows ++ others)) n ≡ Some row) step (get_behind rows others place row at)

-- rows that may be taken over behind others that were
may_part : (old before middle : Texts) (rows page rest : List Row) (hand mid : Hand) → TakesAll old before middle rows hand mid → MayTakeAll old.types old.words (rows ++ (page ++ rest)) hand → MayTakeAll old.types old.words page mid
may_part old before middle rows page rest hand mid takes may = record {
  each = λ place row at. may.each (length rows + place) row (get_behind rows (page ++ rest) place row (prefix_keeps page (page ++ rest) place row (rest, refl) at));
  few = omega (arith, may.few, takes.words_long, sum_by-append (λ (r : Row). length r.words) rows (page ++ rest), sum_by-append (λ (r : Row). length r.words) page rest);
}

-- ---- under way

module _ (version : ℕ) (old before : Texts) (place : SegmentPlace) (seen : Option (List ℕ)) (hand : Hand) (open_before : Bool) where
  -- the first rows came behind those in hand, and where the bytes are told, they hold the others from the next page on
  pub record IsUnderWay (p : Paged) (now : Texts) (hand_now : Hand) (open_now : Bool) : Type 0 where
    pub rows : List Row
    pub takes : TakesRows version old before now rows hand hand_now open_before open_now
    pub left : (bytes : List ℕ) (all : List Row) → seen ≡ Some bytes → HoldsSegment place.payload place.length place.head bytes all → (rest : List Row) × (all ≡ rows ++ rest) × HoldsLeft p bytes rest
    pub here : p.pages.row ≡ length rows
    pub most : p.pages.rows ≡ place.head.rows

  pub way_first : (p : Paged) → p ≡ paged_first place.payload place.head → ((bytes : List ℕ) (rows : List Row) → HoldsSegment place.payload place.length place.head bytes rows → HoldsLeft p bytes rows)
      → IsUnderWay p before hand open_before
  way_first p is holds = record {
    rows = [];
    takes = rows_none version old before hand open_before;
    left = λ bytes all told has. (all, refl, holds bytes all has);
    here = ap (λ (q : Paged). q.pages.row) is;
    most = ap (λ (q : Paged). q.pages.rows) is;
  }

  -- what is left behind a page, where the bytes are told
  next_left : (p next : Paged) (rows page : List Row) (bytes : List ℕ) (all : List Row) → seen ≡ Some bytes → AreNextTold seen p next page
      → (rest : List Row) × (all ≡ rows ++ rest) × HoldsLeft p bytes rest → (rest : List Row) × (all ≡ rows ++ (page ++ rest)) × HoldsLeft next bytes rest
  next_left p next rows page bytes all told page_is was =
      let at = (subst (λ s. AreNextTold s p next page) told page_is) was.0 was.2 in
      (at.0, was.1 ∙ ap (λ l. rows ++ l) at.1, at.2)

  pub way_on : (p next : Paged) (middle now : Texts) (page : List Row) (mid new : Hand) (b c : Bool) → AreNextTold seen p next page → next ≡ paged_after p page → length page ≡ page_rows p.pages
      → TakesRows version old middle now page mid new b c → IsUnderWay p middle mid b → IsUnderWay next now new c
  way_on p next middle now page mid new b c page_is next_is count takes way = record {
    rows = way.rows ++ page;
    takes = rows_then version old before middle now way.rows page hand mid new open_before b c way.takes takes;
    left = λ bytes all told has.
        let at = next_left p next way.rows page bytes all told page_is (way.left bytes all told has) in
        (at.0, at.1 ∙ sym (append_assoc way.rows page at.0), at.2);
    here = ap (λ (q : Paged). q.pages.row) next_is ∙ (let sum : p.pages.row + page_rows p.pages ≡ length (way.rows ++ page) = omega (arith, way.here, count, length-append way.rows page) in sum);
    most = ap (λ (q : Paged). q.pages.rows) next_is ∙ way.most;
  }

  -- the page fits in hand behind them
  pub way_room : (p : Paged) (middle : Texts) (page : List Row) (mid : Hand) (b : Bool) → hand.draft.columns.rows ≡ [] → place.head.rows ≤ 65536 → p.pages.row < p.pages.rows → length page ≡ page_rows p.pages → IsUnderWay p middle mid b
      → length mid.draft.columns.rows + length page ≤ 65536
  way_room p middle page mid b none few more count way =
      omega (arith, ap length none, few, more, count, way.here, way.most, way.takes.takes.rows_long)

  -- where reading stops, the bytes hold no such segment
  pub way_none : (p : Paged) (middle : Texts) (mid : Hand) (b : Bool) (bytes : List ℕ) → seen ≡ Some bytes → HoldsNoneTold seen p → IsUnderWay p middle mid b → MayTakeSegment version old place bytes hand → ⊥
  way_none p middle mid b bytes told none way may =
      let at = way.left bytes may.rows told may.holds in
      (subst (λ s. HoldsNoneTold s p) told none) at.0 at.2

  -- a page that is not taken over is of none
  pub way_not : (p next : Paged) (middle : Texts) (page : List Row) (mid : Hand) (b : Bool) (bytes : List ℕ) → seen ≡ Some bytes → AreNextTold seen p next page
      → ((messages : List (List ℕ)) → AreMessages version old.types old.words page messages → ¬ MayTakeAll old.types old.words page mid)
      → IsUnderWay p middle mid b → MayTakeSegment version old place bytes hand → ⊥
  way_not p next middle page mid b bytes told page_is not_taken way may =
      let at = next_left p next way.rows page bytes may.rows told page_is (way.left bytes may.rows told may.holds) in
      let canonical = subst (λ (l : List Row). AreCanonical version l old.types old.words may.messages) at.1 may.are.0 in
      let one = canonical_both version way.rows (page ++ at.0) old.types old.words may.messages canonical in
      let two = canonical_both version page at.0 old.types old.words one.rest one.canonical_rest in
      let each = all_first (IsMessage version) two.first two.rest (subst (λ l. All (IsMessage version) l) two.are (all_rest (IsMessage version) one.first one.rest (subst (λ l. All (IsMessage version) l) one.are may.are.1))) in
      not_taken two.first (two.canonical, each)
      (may_part old before middle way.rows page at.0 hand mid way.takes.takes (subst (λ (l : List Row). MayTakeAll old.types old.words l hand) at.1 may.may))

  -- what the rows of a page need, rows of the segment need
  pub way_named : (p next : Paged) (middle : Texts) (page : List Row) (mid : Hand) (b : Bool) (books books_new : Books) (taker : Taker) → AreNextTold seen p next page → IsUnderWay p middle mid b
      → HasNamed (IsTextOfRows old page) version old books books_new taker → HasNamed (IsTextThere old seen place) version old books books_new taker
  way_named p next middle page mid b books books_new taker page_is way named = record {
    more = record {
      types = grown_weaker (IsTextOfRows old page Types) (IsTextThere old seen place Types) (there Types) books.types books_new.types named.more.types;
      words = grown_weaker (IsTextOfRows old page Words) (IsTextThere old seen place Words) (there Words) books.words books_new.words named.more.words;
    };
    serves = named.serves;
  }
    where
      there : (book : Which) (text : List ℕ) → IsTextOfRows old page book text → IsTextThere old seen place book text
      there book text (row, in_page, needs) = record {
        row = row;
        there = λ bytes all told has.
            let at = next_left p next way.rows page bytes all told page_is (way.left bytes all told has) in
            subst (λ l. Contains l row) (sym at.1) (Contains-append_right way.rows (page ++ at.0) row (Contains-append_left page at.0 row in_page));
        needs = needs;
      }

  -- behind the last page they are all
  pub way_done : (p : Paged) (now : Texts) (new : Hand) (c : Bool) → NoneAreLeft → p.pages.rows ≤ p.pages.row → IsUnderWay p now new c → TakesSegment version old before now place seen hand new open_before c
  way_done p now new c law last way = record {
    rows = way.rows;
    takes = way.takes;
    told = λ bytes all told has.
        let at = way.left bytes all told has in
        at.1 ∙ (ap (λ l. way.rows ++ l) (law p bytes at.0 last at.2) ∙ append-nil way.rows);
  }

-- a segment with more rows than a segment may have
pub way_many : (version : ℕ) (old : Texts) (place : SegmentPlace) (bytes : List ℕ) (hand : Hand) → MAX_ROWS < place.head.rows → MayTakeSegment version old place bytes hand → ⊥
way_many version old place bytes hand many may = omega (arith, many, may.few, may.holds.holds.behind.count)

-- ---- what is named

pub named_none : (P : Which → List ℕ → Type 0) (version : ℕ) (old : Texts) (books : Books) (taker : Taker) → Serves version old books taker → HasNamed P version old books books taker
named_none P version old books taker serves =
    let both = both_none P old.types old.words books.types books.words taker.tables serves.tables_are in
    record { more = record { types = both.types_grown; words = both.words_grown }; serves = serves }

pub named_then : (P : Which → List ℕ → Type 0) (version : ℕ) (old : Texts) (before middle after : Books) (mid new : Taker) → HasNamed P version old before middle mid → HasNamed P version old middle after new → HasNamed P version old before after new
named_then P version old before middle after mid new one two =
    let both = both_then P old.types old.words before.types middle.types after.types before.words middle.words after.words mid.tables new.tables
    (record { types_grown = one.more.types; words_grown = one.more.words; kept = one.serves.tables_are })
    (record { types_grown = two.more.types; words_grown = two.more.words; kept = two.serves.tables_are }) in
    record { more = record { types = both.types_grown; words = both.words_grown }; serves = two.serves }

-- ---- why a page was not read

pub page_fault : (r : PageRefusal) → stop_by_page r ≡ SecondFault → r ≡ PageRefusal.DiskFault
page_fault PageRefusal.DiskFault is = refl
page_fault PageRefusal.Damaged is = absurd (cc (is))
page_fault PageRefusal.OutOfMemory is = absurd (cc (is))

pub page_damaged : (r : PageRefusal) → stop_by_page r ≡ SecondDamaged → r ≡ PageRefusal.Damaged
page_damaged PageRefusal.DiskFault is = absurd (cc (is))
page_damaged PageRefusal.Damaged is = refl
page_damaged PageRefusal.OutOfMemory is = absurd (cc (is))
