-- Rows that are counted by their columns, and messages that are all found.
use Rattle.std.proofs.Common.{◌≡◌, ◌≢◌, ◌==◌, inl, inr, slice_get, ℕ, zero, suc, ◌+◌, ◌-◌, ◌<◌, ◌≤◌, ℤ, Bool, false, is_some, IsTrue, ◌↔◌, List, [], ◌∷◌, ◌++◌, length, map, take, drop, Option, Some, None, refl, sym, ◌∙◌, ap, ap₂, subst, arith}
use Rattle.std.specs.Prelude.{Result, Ok, Err, OnOk}
use Rattle.std.proofs.lemmas.List.{append-nil, append_assoc, length-map, take_all}
use Rattle.std.proofs.Math.Seq.{take-add}
use Rattle.log_seams.specs.Disk.{DiskState}
use Rattle.column_store.specs.declared.row.Row.{Row}
use Rattle.column_store.specs.Range.{Holds, Within}
use Rattle.column_store.specs.declared.range.Range.{Range}
use Rattle.query_plan.specs.Laws.{IsPlain}
use Rattle.std.proofs.lemmas.Bool.{false≢true}
use Rattle.row_codec.specs.Means.{AreCanonical}
use Rattle.wild_match.specs.Matches.{Match, OfSomeRest}
use Rattle.wild_match.specs.declared.pattern.Item.{Item}
use Rattle.wild_match.specs.declared.pattern.Item.TheVariants.{Byte, Many, One}
use Rattle.segment_pages.specs.Paged.{HoldsLeft, HoldsNoneTold, OfRows, Paged, ReadsColumns, columns_size, moments_in, paged_end, part, patterns_in}
use Rattle.segment_pages.specs.Laws.{LeftAreCounted}
use Rattle.segment_pages.proofs.ReadLemmas.{none_within, reads_on}
use Rattle.printed_lines.specs.Lines.{Picks, Placed, numbered}
use Rattle.search_meaning.specs.Scan.{Asked, IsFound}
use Rattle.search_walk.specs.Held.{AreRowsOf, Named}
use Rattle.search_walk.specs.Walked.{PagesGone, PastTold}
use Rattle.search_walk.proofs.PagesReadLemmas.{rests_same}
use Rattle.search_walk.proofs.RowLemmas.{in_range}
use Rattle.search_meaning.specs.Grouped.{IsExpanded, messages_of}
use Rattle.group_count.specs.Laws.{minutes_of}
use Rattle.group_count.specs.StepsCounted.{Adds, Counted, Passes, Sofar}
use Rattle.group_count.specs.StepsServed.{FindsAll, IsWay}
use Rattle.group_count.specs.declared.way.Way.{Way}
use Rattle.group_count.specs.StepsWay.{AreMany}
use Rattle.group_count.specs.Tables.{AreMinutes, MinuteState, minute_at, minutes_at}

pub on_ok : {T E : Type 0} (r : Result T E) (P : Type 0) → P → OnOk r P
on_ok (Ok t) P p = p
on_ok (Err e) P p = tt

-- ---- a pattern that matches any text

any_end : (text : List ℕ) → OfSomeRest (λ rest. rest ≡ []) text
any_end [] = refl
any_end (b ∷ text) = inr (any_end text)

at_once : (P : List ℕ → Type 0) → ((text : List ℕ) → P text) → (text : List ℕ) → OfSomeRest P text
at_once P has [] = has []
at_once P has (b ∷ text) = inl (has (b ∷ text))

pub many_match : (items : List Item) → AreMany items → items ≢ [] → (text : List ℕ) → Match items text
many_match [] are some text = absurd (some refl)
many_match (Byte b ∷ items) are some text = absurd are
many_match (One ∷ items) are some text = absurd are
many_match (Many ∷ []) are some text = any_end text
many_match (Many ∷ (x ∷ items)) are some text =
    at_once (Match (x ∷ items)) (many_match (x ∷ items) are (λ none. cc (none))) text

pub some_items : (items : List Item) → (length items == 0) ≡ false → items ≢ []
some_items items some none = false≢true (sym some ∙ ap (λ (l : List Item). length l == 0) none)

-- ---- no bound, and which messages are found

within_none : (from to : Option ℤ) → is_some from ≡ false → is_some to ≡ false → (k : ℕ) (moment : ℤ) → Within from to k moment
within_none None None a b k moment = tt
within_none (Some x) to a b k moment = absurd (cc (a))
within_none None (Some y) a b k moment = absurd (cc (b))

pub no_bound : (range : Range) → is_some range.from ≡ false → is_some range.to ≡ false → (k : ℕ) (moment : ℤ) → Holds range k moment
no_bound range a b k moment = within_none range.from range.to a b k moment

pub not_all : (q : Asked) (way : Way) → (IsTrue way.plain ↔ IsPlain q.pattern) → way.all ≡ false → IsWay q way
not_all q way plain none = record { plain = plain; all = λ is. absurd (false≢true (sym none ∙ is)) }

-- ---- a list a place further

pub further : {X A : Type 0} (Count : A → List X → Type 0) (a b c : A) (xs : List X) (i : ℕ) (x : X) → i < length xs → take (i + 1) xs ≡ take i xs ++ x ∷ []
    → ((before : List X) → Count a before → Count b (before ++ take i xs)) → ((before : List X) → Count b before → Count c (before ++ x ∷ []))
    → (before : List X) → Count a before → Count c (before ++ take (i + 1) xs)
further {X} Count a b c xs i x lt is one two before has =
    subst (Count c) (append_assoc before (take i xs) (x ∷ []) ∙ ap (λ (l : List X). before ++ l) (sym is)) (two (before ++ take i xs) (one before has))

pub all_taken : {X A : Type 0} (Count : A → List X → Type 0) (a b : A) (xs : List X) (i : ℕ) → length xs ≤ i → ((before : List X) → Count a before → Count b (before ++ take i xs))
    → (before : List X) → Count a before → Count b (before ++ xs)
all_taken Count a b xs i le one before has = subst (λ l. Count b (before ++ l)) (take_all i xs le) (one before has)

pub none_taken : {X A : Type 0} (Count : A → List X → Type 0) (a : A) → (before : List X) → Count a before → Count a (before ++ [])
none_taken Count a before has = subst (Count a) (sym (append-nil before)) has

-- ---- patterns and moments at their places

pub length_minutes : (micro : Bool) (patterns : List ℕ) (moments : List ℤ) → length patterns ≡ length moments → length (minutes_at micro patterns moments) ≡ length patterns
length_minutes micro [] moments long = refl
length_minutes micro (k ∷ patterns) [] long = absurd (omega (arith, long))
length_minutes micro (k ∷ patterns) (m ∷ moments) long = ap suc (length_minutes micro patterns moments (omega (arith, long)))

minutes_next : (micro : Bool) (patterns : List ℕ) (moments : List ℤ) (i : ℕ) (k : ℕ) (moment : ℤ) → slice_get patterns i ≡ Some k → slice_get moments i ≡ Some moment
    → take (suc i) (minutes_at micro patterns moments) ≡ take i (minutes_at micro patterns moments) ++ minute_at micro k moment ∷ []
minutes_next micro [] moments i k moment one two = absurd (cc (one))
minutes_next micro (p ∷ patterns) [] i k moment one two = absurd (cc (two))
minutes_next micro (p ∷ patterns) (m ∷ moments) zero k moment one two =
    let same : p ≡ k = cc (one) in
    let also : m ≡ moment = cc (two) in
    ap₂ (λ (x : ℕ) (y : ℤ). minute_at micro x y ∷ []) same also
minutes_next micro (p ∷ patterns) (m ∷ moments) (suc i) k moment one two =
    ap (λ (l : List (Option ℤ)). minute_at micro p m ∷ l) (minutes_next micro patterns moments i k moment one two)

pub minutes_further : (micro : Bool) (patterns : List ℕ) (moments : List ℤ) (i : ℕ) (k : ℕ) (moment : ℤ) → slice_get patterns i ≡ Some k → slice_get moments i ≡ Some moment
    → take (i + 1) (minutes_at micro patterns moments) ≡ take i (minutes_at micro patterns moments) ++ minute_at micro k moment ∷ []
minutes_further micro patterns moments i k moment one two =
    let on : i + 1 ≡ suc i = omega arith in
    ap (λ (n : ℕ). take n (minutes_at micro patterns moments)) on ∙ minutes_next micro patterns moments i k moment one two

minutes_same : (micro : Bool) (rows : List Row) → minutes_at micro (patterns_in rows) (moments_in rows) ≡ minutes_of micro rows
minutes_same micro [] = refl
minutes_same micro (r ∷ rows) = ap (λ (l : List (Option ℤ)). minute_at micro r.pattern r.moment ∷ l) (minutes_same micro rows)

drop_map : {X : Type 0} (f : Row → X) (s : ℕ) (rows : List Row) → drop s (map f rows) ≡ map f (drop s rows)
drop_map f zero rows = refl
drop_map f (suc s) [] = refl
drop_map f (suc s) (r ∷ rows) = drop_map f s rows

take_map : {X : Type 0} (f : Row → X) (s : ℕ) (rows : List Row) → take s (map f rows) ≡ map f (take s rows)
take_map f zero rows = refl
take_map f (suc s) [] = refl
take_map {X} f (suc s) (r ∷ rows) = ap (λ (l : List X). f r ∷ l) (take_map f s rows)

part_map : {X : Type 0} (f : Row → X) (s c : ℕ) (rows : List Row) → part s c (map f rows) ≡ map f (part s c rows)
part_map f s c rows = ap (take c) (drop_map f s rows) ∙ take_map f c (drop s rows)

-- the minutes of a part of the rows are those of their patterns and moments
minutes_part : (micro : Bool) (s c : ℕ) (rows : List Row) → minutes_at micro (part s c (patterns_in rows)) (part s c (moments_in rows)) ≡ part s c (minutes_of micro rows)
minutes_part micro s c rows =
    ap₂ (minutes_at micro) (part_map (λ r. r.pattern) s c rows) (part_map (λ r. r.moment) s c rows)
    ∙ minutes_same micro (part s c rows) ∙ sym (part_map (λ r. minute_at micro r.pattern r.moment) s c rows)

-- ---- runs of rows

-- a part of the rows was read, and counted
pub read_part : {X A : Type 0} (Count : A → List X → Type 0) (f : Row → X) (b c : A) (seen : Option (List ℕ)) (p : Paged) (s k : ℕ) (out text : List X) → OfRows seen p (λ rows. out ≡ part s k (map f rows)) → text ≡ out
    → ((before : List X) → Count b before → Count c (before ++ text)) → OfRows seen p (λ rows. (before : List X) → Count b before → Count c (before ++ part s k (map f rows)))
read_part Count f b c None p s k out text read same counts = tt
read_part Count f b c (Some bytes) p s k out text read same counts = λ rows holds before has. subst (λ l. Count c (before ++ l)) (same ∙ read rows holds) (counts before has)

-- the patterns and moments of a part were
pub read_minutes : {A : Type 0} (Count : A → List (Option ℤ) → Type 0) (micro : Bool) (b c : A) (seen later : Option (List ℕ)) (p : Paged) (s k : ℕ) (patterns ks : List ℕ) (moments ms : List ℤ) → later ≡ seen
    → OfRows seen p (λ rows. patterns ≡ part s k (patterns_in rows)) → OfRows later p (λ rows. moments ≡ part s k (moments_in rows))
    → ks ≡ patterns → ms ≡ moments → ((before : List (Option ℤ)) → Count b before → Count c (before ++ minutes_at micro ks ms))
    → OfRows seen p (λ rows. (before : List (Option ℤ)) → Count b before → Count c (before ++ part s k (minutes_of micro rows)))
read_minutes Count micro b c None later p s k patterns ks moments ms same one two is also counts = tt
read_minutes Count micro b c (Some bytes) later p s k patterns ks moments ms same one two is also counts = λ rows holds before has.
    let here = subst (λ x. OfRows x p (λ rows. moments ≡ part s k (moments_in rows))) same two in
    subst (λ l. Count c (before ++ l)) (ap₂ (minutes_at micro) (is ∙ one rows holds) (also ∙ here rows holds) ∙ minutes_part micro s k rows) (counts before has)

-- how far a count by columns has come
pub record RunsPast {X A : Type 0} (Count : A → List X → Type 0) (f : Row → X) (p : Paged) (old now : DiskState) (a b : A) (m : ℕ) : Type 0 where
  pub reads : ReadsColumns p old now
  pub faults : now.faults ≡ old.faults
  pub counted : OfRows old.seen p (λ rows. (before : List X) → Count a before → Count b (before ++ take m (map f rows)))

of_rows : (seen : Option (List ℕ)) (p : Paged) (P : List Row → Type 0) → ((rows : List Row) → P rows) → OfRows seen p P
of_rows None p P has = tt
of_rows (Some bytes) p P has = λ rows holds. has rows

pub runs_first : {X A : Type 0} (Count : A → List X → Type 0) (f : Row → X) (p : Paged) (d : DiskState) (a : A) (m : ℕ) → m ≡ 0 → RunsPast Count f p d d a a m
runs_first {X} Count f p d a m none = record {
  reads = record { rests = rests_same d; ranges = none_within (p.at + p.pages.start) (columns_size p.pages) d.ranges d.ranges refl };
  faults = refl;
  counted = of_rows d.seen p (λ rows. (before : List X) → Count a before → Count a (before ++ take m (map f rows))) (λ rows before has. subst (λ j. Count a (before ++ take j (map f rows))) (sym none) (none_taken Count a before has));
}

pub runs_reads : {X A : Type 0} (Count : A → List X → Type 0) (f : Row → X) (p : Paged) (old mid new : DiskState) (a b : A) (m : ℕ) → RunsPast Count f p old mid a b m → ReadsColumns p mid new → ReadsColumns p old new
runs_reads Count f p old mid new a b m past reads = reads_on (p.at + p.pages.start) (columns_size p.pages) old mid new past.reads reads

pub runs_none : {X A : Type 0} (Count : A → List X → Type 0) (f : Row → X) (p : Paged) (old mid : DiskState) (a b : A) (m : ℕ) → RunsPast Count f p old mid a b m → HoldsNoneTold mid.seen p → HoldsNoneTold old.seen p
runs_none Count f p old mid a b m past none = subst (λ s. HoldsNoneTold s p) past.reads.rests.seen none

next_part : {X A : Type 0} (Count : A → List X → Type 0) (f : Row → X) (p : Paged) (a b c : A) (seen later : Option (List ℕ)) (s k m : ℕ) → later ≡ seen → m ≡ s + k
    → OfRows seen p (λ rows. (before : List X) → Count a before → Count b (before ++ take s (map f rows))) → OfRows later p (λ rows. (before : List X) → Count b before → Count c (before ++ part s k (map f rows)))
    → OfRows seen p (λ rows. (before : List X) → Count a before → Count c (before ++ take m (map f rows)))
next_part Count f p a b c None later s k m same is one two = tt
next_part {X} Count f p a b c (Some bytes) later s k m same is one two = λ rows holds before has.
    let here = subst (λ x. OfRows x p (λ rows. (before : List X) → Count b before → Count c (before ++ part s k (map f rows)))) same two in
    let xs : List X = map f rows in
    subst (Count c) (append_assoc before (take s xs) (part s k xs) ∙ ap (λ (l : List X). before ++ l) (sym (ap (λ (j : ℕ). take j xs) is ∙ take-add s k xs)))
    (here rows holds (before ++ take s xs) (one rows holds before has))

pub runs_next : {X A : Type 0} (Count : A → List X → Type 0) (f : Row → X) (p : Paged) (old mid new : DiskState) (a b c : A) (s t k m : ℕ) → s ≡ t → m ≡ t + k → RunsPast Count f p old mid a b s → ReadsColumns p mid new → new.faults ≡ mid.faults
    → OfRows mid.seen p (λ rows. (before : List X) → Count b before → Count c (before ++ part t k (map f rows))) → RunsPast Count f p old new a c m
runs_next Count f p old mid new a b c s t k m same is past reads faults counted =
    let here = subst (RunsPast Count f p old mid a b) same past in
    record {
      reads = runs_reads Count f p old mid new a b t here reads;
      faults = faults ∙ past.faults;
      counted = next_part Count f p a b c old.seen mid.seen t k m past.reads.rests.seen is here.counted counted;
    }

all_counted : {X A : Type 0} (Count : A → List X → Type 0) (f : Row → X) (p : Paged) (a b : A) (m : ℕ) (seen : Option (List ℕ)) → LeftAreCounted → p.pages.rows - p.pages.row ≤ m
    → OfRows seen p (λ rows. (before : List X) → Count a before → Count b (before ++ take m (map f rows))) → OfRows seen p (λ rows. (before : List X) → Count a before → Count b (before ++ map f rows))
all_counted Count f p a b m None law end counted = tt
all_counted Count f p a b m (Some bytes) law end counted = λ rows holds.
    all_taken Count a b (map f rows) m (omega (arith, length-map rows f, law p bytes rows holds, end)) (counted rows holds)

pub runs_end : {X A : Type 0} (Count : A → List X → Type 0) (f : Row → X) (p : Paged) (old now : DiskState) (a b : A) (m : ℕ) → LeftAreCounted → p.pages.rows - p.pages.row ≤ m → RunsPast Count f p old now a b m
    → OfRows old.seen p (λ rows. (before : List X) → Count a before → Count b (before ++ map f rows))
runs_end Count f p old now a b m law end past = all_counted Count f p a b m old.seen law end past.counted

-- what is said by the unit of the moments of a later table holds by that of the first one
pub same_micro : (seen : Option (List ℕ)) (p : Paged) (b c : MinuteState) (micro : Bool) (s k : ℕ) → b.micro ≡ micro
    → OfRows seen p (λ rows. (keys : List (Option ℤ)) → AreMinutes b keys → AreMinutes c (keys ++ part s k (minutes_of b.micro rows)))
    → OfRows seen p (λ rows. (keys : List (Option ℤ)) → AreMinutes b keys → AreMinutes c (keys ++ part s k (minutes_of micro rows)))
same_micro seen p b c micro s k same more = subst (λ m. OfRows seen p (λ rows. (keys : List (Option ℤ)) → AreMinutes b keys → AreMinutes c (keys ++ part s k (minutes_of m rows)))) same more

-- ---- the rows that are left, all of which are found

numbered_messages : (name : List ℕ) (number : ℕ) (messages : List (List ℕ)) → messages_of (numbered name number messages) ≡ messages
numbered_messages name number [] = refl
numbered_messages name number (m ∷ messages) = ap (λ (l : List (List ℕ)). m ∷ l) (numbered_messages name (number + 1) messages)

picks_none : (P : Placed → Type 0) → ((p : Placed) → ¬ P p) → (all : List Placed) → Picks P all []
picks_none P none [] = refl
picks_none P none (p ∷ all) = inr (none p, picks_none P none all)

found_each : (n : Named) (q : Asked) → FindsAll q → (name : List ℕ) (number : ℕ) (rows : List Row) (messages : List (List ℕ)) → AreCanonical n.version rows n.types n.words messages
    → Picks (λ p. IsFound n.version q p.message) (numbered name number messages) (numbered name number messages)
found_each n q all name number [] [] are = refl
found_each n q all name number [] (m ∷ messages) are = absurd are
found_each n q all name number (r ∷ rows) [] are = absurd are
found_each n q all name number (r ∷ rows) (m ∷ messages) are =
    let inside = in_range n.version q.range r n.types n.words m are.0 (all.holds r.pattern r.moment) in
    inl (numbered name (number + 1) messages, record { matched = all.matches m; inside = inside }, found_each n q all name (number + 1) rows messages are.1, refl)

pub all_pass : {T : Type 0} (counted : T → ℕ → List Row → Type 0) (n : Named) (q : Asked) → FindsAll q → (name : List ℕ) (number : ℕ) (rows : List Row) (messages : List (List ℕ)) (a b : Sofar T) → AreRowsOf n rows messages
    → Adds counted rows 0 a b → Passes counted n q (numbered name number messages) a b
all_pass counted n q all name number rows messages a b are adds = record {
  found = numbered name number messages;
  expansions = [];
  rows = rows;
  are_found = found_each n q all name number rows messages are.are;
  are_expanded = picks_none (λ p. IsExpanded n.version q p.message) (λ p e. e.written all.plain) (numbered name number messages);
  are = subst (AreCanonical n.version rows n.types n.words) (sym (numbered_messages name number messages)) are.are;
  adds = adds;
}

row_each : (n : Named) (rows : List Row) (messages : List (List ℕ)) → AreCanonical n.version rows n.types n.words messages → length messages ≡ length rows
row_each n [] [] are = refl
row_each n [] (m ∷ messages) are = absurd are
row_each n (r ∷ rows) [] are = absurd are
row_each n (r ∷ rows) (m ∷ messages) are = ap suc (row_each n rows messages are.1)

-- the rest of a segment was counted
pub rest_counted : {T : Type 0} (counted : T → ℕ → List Row → Type 0) (n : Named) (q : Asked) (seen : Option (List ℕ)) (start now : Paged) (name : List ℕ) (number count : ℕ) (a b : Sofar T) (table : T) → FindsAll q → LeftAreCounted
    → count ≡ start.pages.rows - start.pages.row → ((bytes : List ℕ) (rows : List Row) → HoldsLeft start bytes rows → HoldsLeft now bytes [])
    → b.table ≡ table → OfRows seen start (λ rows. (version : ℕ) (before : List Row) → counted a.table version before → counted table version (before ++ rows))
    → Counted a.matched b.matched count → b.expanded ≡ a.expanded → b.ticks ≡ a.ticks → PastTold (λ all. Passes counted n q all a b) seen start n name number now count
rest_counted counted n q None start now name number count a b table all law is end same counts matched expanded ticks = tt
rest_counted counted n q (Some bytes) start now name number count a b table all law is end same counts matched expanded ticks = λ rows messages holds are.
    let long : length rows ≡ count = law start bytes rows holds ∙ sym is in
    record {
      gone = messages;
      left = [];
      rows = [];
      all = sym (append-nil messages);
      counted = row_each n rows messages are.are ∙ long;
      holds = end bytes rows holds;
      are = record { told = are.told; are = tt };
      reaches = all_pass counted n q all name number rows messages a b are (record {
        table = λ version before has. subst (λ t. counted t version (before ++ rows)) (sym same) (counts rows holds version before has);
        matched = subst (Counted a.matched b.matched) (sym long) matched;
        expanded = λ fits. omega (arith, expanded);
        ticks = omega (arith, ticks);
      });
    }

-- the reader went past the rest
pub rest_gone : (start now : Paged) (count : ℕ) → start.pages.row < start.pages.rows → now ≡ paged_end start → count ≡ start.pages.rows - start.pages.row → PagesGone start now count
rest_gone start now count left is size =
    let row : now.pages.row ≡ start.pages.rows = ap (λ (p : Paged). p.pages.row) is in
    let rows : now.pages.rows ≡ start.pages.rows = ap (λ (p : Paged). p.pages.rows) is in
    record {
      at = ap (λ (p : Paged). p.at) is;
      start = ap (λ (p : Paged). p.pages.start) is;
      rows = rows;
      variables = ap (λ (p : Paged). p.pages.variables) is;
      row = omega (arith, row, size, left);
      some = omega (arith, size, left);
      inside = omega (arith, row, rows);
    }
