-- What is read of the segments that are opened is beside the columns of barren ones.
use Rattle.std.proofs.Common.{◌≡◌, ◌⊎◌, inl, inr, ⊎_elim, All, get_or, option_map, refl, sym, ap, ap₂, subst, ◌∙◌, ◌+◌, ◌≤◌, ℕ, List, [], ◌∷◌, ◌++◌, length, drop, Option, append_assoc, arith, length-append}
use Rattle.std.proofs.lemmas.List.{append-nil}
use Rattle.std.specs.List.{Contains}
use Rattle.std.specs.List.Sorted.{IsPermutation}
use Rattle.std.proofs.lemmas.List.Elements.{All-append, All-weaker, Contains-append_cases, Contains-append_right}
use Rattle.std.proofs.lemmas.List.Sorted.{Contains-permutation, IsPermutation-sym}
use Rattle.record_format.specs.declared.header.Header.{Header}
use Rattle.column_store.specs.declared.row.Row.{Row}
use Rattle.segment_format.specs.declared.head.Head.{Head}
use Rattle.segment_format.specs.Layout.{fixed_of, head_bytes, head_length}
use Rattle.segment_format.proofs.HeadLemmas.{length-head_bytes}
use Rattle.segment_format.specs.Pages.{first_page}
use Rattle.segment_format.proofs.PagesLawLemmas.{pages_are_rows}
use Rattle.segment_pages.specs.Paged.{HoldsSegment, columns_size}
use Rattle.segment_pages.proofs.StandLemmas.{segments_held}
use Rattle.disk_journal.specs.Record.{spelled}
use Rattle.archive_meaning.specs.declared.entry.SegmentEntry.{SegmentEntry}
use Rattle.archive_meaning.specs.declared.entry.JournalEntry.{JournalEntry}
use Rattle.archive_meaning.specs.declared.entry.JournalEntry.TheVariants.{Files, Types, Words, Segment}
use Rattle.archive_meaning.specs.Spelled.{front_of, record_of, records_from, types_in, types_of}
use Rattle.archive_meaning.specs.Stands.{StandsFor}
use Rattle.archive_meaning.proofs.UniqueLemmas.{front_joined}
use Rattle.archive_open.proofs.NextLemmas.{front_length}
use Rattle.archive_open.specs.declared.segments.SegmentPlace.{SegmentPlace}
use Rattle.archive_places.specs.Words.{texts_from, texts_place, texts_placed, types_places_of, words_places_of}
use Rattle.row_codec.specs.declared.namer.Which.{Which}
use Rattle.row_codec.specs.declared.namer.Which.TheVariants as which
use Rattle.record_format.specs.Lists.{texts_payload}
use Rattle.word_places.specs.Kept.{KeptTypes}
use Rattle.word_places.specs.declared.place.WordsPlace.{WordsPlace}
use Rattle.word_places.specs.Reads.{IsOfWords}
use Rattle.archive_open.specs.Shown.{columns_begin, columns_end, head_in, order_of, places_from, places_of}
use Rattle.query_plan.specs.Pieces.{wide_pieces}
use Rattle.barren_segments.specs.Barren.{IsBarren}
use Rattle.search_meaning.specs.Scan.{Asked}
use Rattle.search_meaning.specs.Opened.{IsBarrenFor}
use Rattle.search_walk.specs.Opened.{IsRead, ReadsOpened, columns_at}
use Rattle.search_meaning.specs.Journal.{MissesBarren, ReadsNoBarren}
use Rattle.search_walk.proofs.PagesReadLemmas.{two_added}
use Rattle.search_walk.proofs.RowsHeld.{names_in}
use Rattle.archive_open.proofs.FileOrderLemmas.{front_more, place_in, types_more}
use Rattle.archive_open.proofs.SortedLemmas.{In, contains_in}

-- ---- where a segment stands in its journal

record PlacedIn (h : Header) (all : List JournalEntry) (p : SegmentPlace) : Type 0 where
  pub before : List JournalEntry
  pub after : List JournalEntry
  pub s : SegmentEntry
  pub parts : all ≡ before ++ Segment s ∷ after
  pub is : p ≡ place_in (length (front_of h before)) (types_of before) s

placed_in : (h : Header) (all before es : List JournalEntry) (at : ℕ) (types : List (List ℕ)) (p : SegmentPlace) → all ≡ before ++ es → at ≡ length (front_of h before) → types ≡ types_of before
    → In order_of p (places_from at types es) → PlacedIn h all p
placed_in h all before [] at types p is place ts here = elim here [ ]
placed_in h all before (e ∷ es) at types p is place ts here =
    by_entry e is here (λ later. placed_in h all (before ++ e ∷ []) es (at + 10 + length (record_of types e).payload) (types ++ types_in e) p (is ∙ sym (append_assoc before (e ∷ []) es))
    (ap₂ (λ n t. n + 10 + length (record_of t e).payload) place ts ∙ sym (front_more h before e)) (ap (λ t. t ++ types_in e) ts ∙ sym (types_more before e)) later)
  where
    by_entry : (e : JournalEntry) → all ≡ before ++ e ∷ es → In order_of p (places_from at types (e ∷ es)) → (In order_of p (places_from (at + 10 + length (record_of types e).payload) (types ++ types_in e) es) → PlacedIn h all p) → PlacedIn h all p
    by_entry (Files names) is here later = later here
    by_entry (Types first texts) is here later = later here
    by_entry (Words first texts) is here later = later here
    by_entry (Segment s) is (inl own) later = record {
      before = before;
      after = es;
      s = s;
      parts = is;
      is = own ∙ ap₂ (λ n t. place_in n t s) place ts;
    }
    by_entry (Segment s) is (inr other) later = later other

-- ---- two places in one journal

cut : (done rest before after : List JournalEntry) (x : JournalEntry) → done ++ rest ≡ before ++ x ∷ after
    → ((more : List JournalEntry) × (done ≡ before ++ x ∷ more)) ⊎ ((mid : List JournalEntry) × ((before ≡ done ++ mid) × (rest ≡ mid ++ x ∷ after)))
cut [] rest before after x is = inr (before, (refl, is))
cut (d ∷ done) rest [] after x is = inl (done, ap (λ (y : JournalEntry). y ∷ done) (cc (is)))
cut (d ∷ done) rest (b ∷ before) after x is =
    let same : d ≡ b = cc (is) in
    let tail : done ++ rest ≡ before ++ x ∷ after = ap (λ (l : List JournalEntry). drop 1 l) is in
    elim (cut done rest before after x tail) as (λ z. ((more : List JournalEntry) × (d ∷ done ≡ (b ∷ before) ++ x ∷ more)) ⊎ ((mid : List JournalEntry) × ((b ∷ before ≡ (d ∷ done) ++ mid) × (rest ≡ mid ++ x ∷ after)))) [
      | inl more ↦ inl (more.0, ap₂ (λ (y : JournalEntry) (l : List JournalEntry). y ∷ l) same more.1)
      | inr mid ↦ inr (mid.0, (ap₂ (λ (y : JournalEntry) (l : List JournalEntry). y ∷ l) (sym same) mid.1.0, mid.1.1))
    ]

longer : (h : Header) (es more : List JournalEntry) → length (front_of h es) ≤ length (front_of h (es ++ more))
longer h es more = omega (arith, ap length (front_joined h es more), length-append (front_of h es) (spelled (records_from (types_of es) more)))

longer_behind : (h : Header) (es before more : List JournalEntry) (e : JournalEntry) → es ≡ before ++ e ∷ more → length (front_of h (before ++ e ∷ [])) ≤ length (front_of h es)
longer_behind h es before more e is =
    let whole : es ≡ (before ++ e ∷ []) ++ more = is ∙ sym (append_assoc before (e ∷ []) more) in
    subst (λ l. length (front_of h (before ++ e ∷ [])) ≤ length (front_of h l)) (sym whole) (longer h (before ++ e ∷ []) more)

-- head and columns are the payload
payload_is : (at size : ℕ) (head : Head) (bytes : List ℕ) (rows : List Row) → HoldsSegment at size head bytes rows → size ≡ head_length (fixed_of head) + columns_size (first_page head)
payload_is at size head bytes rows holds =
    let found = (pages_are_rows head holds.payload rows holds.is_head).0 holds.holds in
    omega (arith, found.0.length, holds.sized)

-- the columns of a segment end with its record
columns_end_at : (bytes : List ℕ) (h : Header) (es : List JournalEntry) (p : SegmentPlace) → StandsFor bytes h es → (own : PlacedIn h es p)
    → (columns_at p + columns_size (first_page p.head) ≡ length (front_of h (own.before ++ Segment own.s ∷ []))) × (length (front_of h own.before) ≤ columns_at p)
columns_end_at bytes h es p stood own =
    let q : SegmentPlace = place_in (length (front_of h own.before)) (types_of own.before) own.s in
    let size = payload_is _ _ _ bytes own.s.rows (segments_held bytes h es own.before own.after own.s stood own.parts) in
    let end : columns_at q + columns_size (first_page q.head) ≡ length (front_of h (own.before ++ Segment own.s ∷ [])) = omega (arith, size, front_more h own.before (Segment own.s)) in
    let start : length (front_of h own.before) ≤ columns_at q = omega arith in
    (subst (λ x. columns_at x + columns_size (first_page x.head) ≡ length (front_of h (own.before ++ Segment own.s ∷ []))) (sym own.is) end, subst (λ x. length (front_of h own.before) ≤ columns_at x) (sym own.is) start)

segment_same : (s t : SegmentEntry) → Segment s ≡ Segment t → s ≡ t
segment_same s t is = cc (is)

behind : (bytes : List ℕ) (h : Header) (es : List JournalEntry) (q : Asked) (p : SegmentPlace) (at n : ℕ) (stood : StandsFor bytes h es) (own : PlacedIn h es p) → ¬ IsBarrenFor stood.legal.held.types stood.legal.held.words q p
    → at + n ≤ columns_at p + columns_size (first_page p.head) → (before after : List JournalEntry) (s : SegmentEntry) → IsBarren (wide_pieces q.pattern) q.range stood.legal.held.types stood.legal.held.words (head_in (types_of before) s)
    → columns_at p + columns_size (first_page p.head) ≡ length (front_of h (own.before ++ Segment own.s ∷ [])) → (mid : List JournalEntry) → before ≡ own.before ++ mid → Segment own.s ∷ own.after ≡ mid ++ Segment s ∷ after
    → (at + n ≤ columns_begin h before s) ⊎ (columns_end h before s ≤ at)
behind bytes h es q p at n stood own opened high before after s barren end [] front rest =
    let one : own.s ≡ s = segment_same own.s s (cc (rest)) in
    let same : own.before ≡ before = sym (front ∙ append-nil own.before) in
    let head : p.head ≡ head_in (types_of before) s = ap (λ (x : SegmentPlace). x.head) own.is ∙ ap₂ (λ b t. head_in (types_of b) t) same one in
    absurd (opened (subst (IsBarren (wide_pieces q.pattern) q.range stood.legal.held.types stood.legal.held.words) (sym head) barren))
behind bytes h es q p at n stood own opened high before after s barren end (m ∷ mid) front rest =
    let first : Segment own.s ≡ m = cc (rest) in
    let whole : before ≡ own.before ++ Segment own.s ∷ mid = front ∙ ap (λ (x : JournalEntry). own.before ++ x ∷ mid) (sym first) in
    inl (omega (arith, high, end, longer_behind h before own.before mid (Segment own.s) whole))

-- a range in the columns of a segment that is not barren
misses : (bytes : List ℕ) (h : Header) (es : List JournalEntry) (q : Asked) (p : SegmentPlace) (at n : ℕ) (stood : StandsFor bytes h es) → PlacedIn h es p → ¬ IsBarrenFor stood.legal.held.types stood.legal.held.words q p → columns_at p ≤ at
    → at + n ≤ columns_at p + columns_size (first_page p.head) → MissesBarren h es stood.legal.held q at n
misses bytes h es q p at n stood own opened low high before after s is barren =
    let ends = columns_end_at bytes h es p stood own in
    elim (cut own.before (Segment own.s ∷ own.after) before after (Segment s) (sym own.parts ∙ is)) as (λ z. (at + n ≤ columns_begin h before s) ⊎ (columns_end h before s ≤ at)) [
      | inl more ↦ inr (omega (arith, low, ends.1, longer_behind h own.before before more.0 (Segment s) more.1))
      | inr mid ↦ behind bytes h es q p at n stood own opened high before after s barren ends.0 mid.0 mid.1.0 mid.1.1
    ]

-- a range in a head
head_misses : (bytes : List ℕ) (h : Header) (es : List JournalEntry) (q : Asked) (p : SegmentPlace) (at n : ℕ) (stood : StandsFor bytes h es) → PlacedIn h es p → p.payload ≤ at → at + n ≤ columns_at p
    → MissesBarren h es stood.legal.held q at n
head_misses bytes h es q p at n stood own low high before after s is barren =
    let ends = columns_end_at bytes h es p stood own in
    let start : length (front_of h own.before) ≤ p.payload = omega (arith, ap (λ (x : SegmentPlace). x.payload) own.is) in
    elim (cut own.before (Segment own.s ∷ own.after) before after (Segment s) (sym own.parts ∙ is)) as (λ z. (at + n ≤ columns_begin h before s) ⊎ (columns_end h before s ≤ at)) [
      | inl more ↦ inr (omega (arith, low, start, longer_behind h own.before before more.0 (Segment s) more.1))
      | inr mid ↦ before_columns mid.0 mid.1.0 mid.1.1 ends.0
    ]
  where
    before_columns : (mid : List JournalEntry) → before ≡ own.before ++ mid → Segment own.s ∷ own.after ≡ mid ++ Segment s ∷ after
        → columns_at p + columns_size (first_page p.head) ≡ length (front_of h (own.before ++ Segment own.s ∷ [])) → (at + n ≤ columns_begin h before s) ⊎ (columns_end h before s ≤ at)
    before_columns [] front rest end =
        let one : own.s ≡ s = segment_same own.s s (cc (rest)) in
        let same : own.before ≡ before = sym (front ∙ append-nil own.before) in
        let size : head_length (fixed_of (head_in (types_of own.before) own.s)) ≡ length (head_bytes (head_in (types_of own.before) own.s)) = sym (length-head_bytes (head_in (types_of own.before) own.s)) in
        let here : columns_at p ≡ columns_begin h before s =
        ap columns_at own.is ∙ ap (λ (k : ℕ). length (front_of h own.before) + 10 + k) size ∙ ap₂ (λ b t. columns_begin h b t) same one in
        inl (omega (arith, high, here))
    before_columns (m ∷ mid) front rest end =
        let first : Segment own.s ≡ m = cc (rest) in
        let whole : before ≡ own.before ++ Segment own.s ∷ mid = front ∙ ap (λ (x : JournalEntry). own.before ++ x ∷ mid) (sym first) in
        inl (omega (arith, high, end, longer_behind h before own.before mid (Segment own.s) whole))

-- where a record of log types or of words stands in its journal
record TextsIn (h : Header) (all : List JournalEntry) (p : WordsPlace) : Type 0 where
  pub before : List JournalEntry
  pub after : List JournalEntry
  pub e : JournalEntry
  pub other : (s : SegmentEntry) → e ≡ Segment s → ⊥
  pub parts : all ≡ before ++ e ∷ after
  pub payload : p.payload ≡ length (front_of h before) + 10
  pub size : p.length ≡ length (record_of (types_of before) e).payload

-- that of an entry at its place
texts_here : (h : Header) (all before es : List JournalEntry) (e : JournalEntry) (at first : ℕ) (texts : List (List ℕ)) (p : WordsPlace) → ((s : SegmentEntry) → e ≡ Segment s → ⊥)
    → (record_of (types_of before) e).payload ≡ texts_payload first texts → all ≡ before ++ e ∷ es → at ≡ length (front_of h before) → Contains (texts_place at first texts ∷ []) p → TextsIn h all p
texts_here h all before es e at first texts p other spelled is place own =
    let zero_at : own.0 ≡ 0 = omega (arith, own.1) in
    let one : WordsPlace = texts_place at first texts in
    let same : one ≡ p = subst (λ j. get_or (one ∷ []) j p ≡ p) zero_at own.2 in
    record {
      before = before;
      after = es;
      e = e;
      other = other;
      parts = is;
      payload = sym (ap (λ (x : WordsPlace). x.payload) same) ∙ ap (λ n. n + 10) place;
      size = sym (ap (λ (x : WordsPlace). x.length) same) ∙ ap (λ (l : List ℕ). length l) (sym spelled);
    }

types_no_segment : (first : ℕ) (texts : List (List ℕ)) (s : SegmentEntry) → Types first texts ≡ Segment s → ⊥
types_no_segment first texts s is = cc (is)

words_no_segment : (first : ℕ) (texts : List (List ℕ)) (s : SegmentEntry) → Words first texts ≡ Segment s → ⊥
words_no_segment first texts s is = cc (is)

texts_in : (h : Header) (all before es : List JournalEntry) (kind : Which) (at : ℕ) (types : List (List ℕ)) (p : WordsPlace) → all ≡ before ++ es → at ≡ length (front_of h before) → types ≡ types_of before
    → Contains (texts_from kind at types es) p → TextsIn h all p
texts_in h all before [] kind at types p is place ts here = absurd (omega (arith, here.1))
texts_in h all before (e ∷ es) kind at types p is place ts here =
    by_entry kind e is (Contains-append_cases (texts_placed kind at e) (texts_from kind (at + 10 + length (record_of types e).payload) (types ++ types_in e) es) p here)
    (λ later. texts_in h all (before ++ e ∷ []) es kind (at + 10 + length (record_of types e).payload) (types ++ types_in e) p (is ∙ sym (append_assoc before (e ∷ []) es))
    (ap₂ (λ n t. n + 10 + length (record_of t e).payload) place ts ∙ sym (front_more h before e)) (ap (λ t. t ++ types_in e) ts ∙ sym (types_more before e)) later)
  where
    by_entry : (kind : Which) (e : JournalEntry) → all ≡ before ++ e ∷ es
        → Contains (texts_placed kind at e) p ⊎ Contains (texts_from kind (at + 10 + length (record_of types e).payload) (types ++ types_in e) es) p
        → (Contains (texts_from kind (at + 10 + length (record_of types e).payload) (types ++ types_in e) es) p → TextsIn h all p) → TextsIn h all p
    by_entry kind e is (inr later) go = go later
    by_entry kind (Files names) is (inl own) go = absurd (omega (arith, own.1))
    by_entry which.Types (Types first texts) is (inl own) go = texts_here h all before es (Types first texts) at first texts p (types_no_segment first texts) refl is place own
    by_entry which.Words (Types first texts) is (inl own) go = absurd (omega (arith, own.1))
    by_entry which.Types (Words first texts) is (inl own) go = absurd (omega (arith, own.1))
    by_entry which.Words (Words first texts) is (inl own) go = texts_here h all before es (Words first texts) at first texts p (words_no_segment first texts) refl is place own
    by_entry kind (Segment s) is (inl own) go = absurd (omega (arith, own.1))

-- a range in a record of log types or of words
texts_miss : (bytes : List ℕ) (h : Header) (es : List JournalEntry) (q : Asked) (p : WordsPlace) (at n : ℕ) (stood : StandsFor bytes h es) → TextsIn h es p → p.payload ≤ at → at + n ≤ p.payload + p.length
    → MissesBarren h es stood.legal.held q at n
texts_miss bytes h es q p at n stood own low high before after s is barren =
    elim (cut own.before (own.e ∷ own.after) before after (Segment s) (sym own.parts ∙ is)) as (λ z. (at + n ≤ columns_begin h before s) ⊎ (columns_end h before s ≤ at)) [
      | inl more ↦ inr (omega (arith, low, own.payload, longer_behind h own.before before more.0 (Segment s) more.1))
      | inr mid ↦ before_columns mid.0 mid.1.0 mid.1.1
    ]
  where
    before_columns : (mid : List JournalEntry) → before ≡ own.before ++ mid → own.e ∷ own.after ≡ mid ++ Segment s ∷ after → (at + n ≤ columns_begin h before s) ⊎ (columns_end h before s ≤ at)
    before_columns [] front rest = absurd (own.other s (cc (rest)))
    before_columns (m ∷ mid) front rest =
        let first : own.e ≡ m = cc (rest) in
        let whole : before ≡ own.before ++ own.e ∷ mid = front ∙ ap (λ (x : JournalEntry). own.before ++ x ∷ mid) (sym first) in
        inl (omega (arith, high, own.payload, own.size, front_more h own.before own.e, longer_behind h before own.before mid own.e whole))

-- ---- all that is read

segment_there : (h : Header) (es : List JournalEntry) (ps : List SegmentPlace) (p : SegmentPlace) → IsPermutation (places_of es) ps → Contains ps p → PlacedIn h es p
segment_there h es ps p are is =
    let start : 32 ≡ length (front_of h []) = omega (arith, front_length h []) in
    placed_in h es [] es 32 [] p refl start refl (contains_in order_of p (places_of es) (Contains-permutation ps (places_of es) p (IsPermutation-sym (places_of es) ps are) is))

-- where the records of log types and of words stand
abbrev pub texts_places_of : List JournalEntry → List WordsPlace
texts_places_of es = types_places_of es ++ words_places_of es

texts_there : (h : Header) (es : List JournalEntry) (p : WordsPlace) → Contains (texts_places_of es) p → TextsIn h es p
texts_there h es p is =
    let start : 32 ≡ length (front_of h []) = omega (arith, front_length h []) in
    ⊎_elim (λ types. texts_in h es [] es which.Types 32 [] p refl start refl types) (λ words. texts_in h es [] es which.Words 32 [] p refl start refl words)
    (Contains-append_cases (types_places_of es) (words_places_of es) p is)

texts_aside : (bytes : List ℕ) (h : Header) (es : List JournalEntry) (q : Asked) (r : ℕ × ℕ) (stood : StandsFor bytes h es) → IsOfWords (texts_places_of es) r.0 r.1 → MissesBarren h es stood.legal.held q r.0 r.1
texts_aside bytes h es q r stood texts = texts_miss bytes h es q texts.place r.0 r.1 stood (texts_there h es texts.place texts.one) texts.low texts.high

words_aside : (bytes : List ℕ) (h : Header) (es : List JournalEntry) (q : Asked) (r : ℕ × ℕ) (stood : StandsFor bytes h es) → IsOfWords (words_places_of es) r.0 r.1 → MissesBarren h es stood.legal.held q r.0 r.1
words_aside bytes h es q r stood words =
    texts_aside bytes h es q r stood (record { place = words.place; one = Contains-append_right (types_places_of es) (words_places_of es) words.place words.one; low = words.low; high = words.high })

pub reads_aside : (bytes : List ℕ) (h : Header) (es : List JournalEntry) (ps : List SegmentPlace) (q : Asked) (kept : KeptTypes) (old new : Option (List (ℕ × ℕ))) (stood : StandsFor bytes h es) → IsPermutation (places_of es) ps
    → ReadsOpened (names_in bytes h es stood.legal.held kept) q ps old new → ReadsNoBarren h es stood.legal.held q old new
reads_aside bytes h es ps q kept old new stood are reads = record {
  more = reads.more;
  added = reads.added;
  each = All-weaker (IsRead (names_in bytes h es stood.legal.held kept) q ps) (λ r. MissesBarren h es stood.legal.held q r.0 r.1)
      (λ r read. ⊎_elim (λ c. misses bytes h es q c.p r.0 r.1 stood (segment_there h es ps c.p are c.is) c.opened c.start c.end)
      (λ other. ⊎_elim (λ d. head_misses bytes h es q d.p r.0 r.1 stood (segment_there h es ps d.p are d.is) d.start d.end) (λ words. words_aside bytes h es q r stood words) other) read)
      reads.more reads.each;
}

-- log types and words that were read before
pub texts_read_aside : (bytes : List ℕ) (h : Header) (es : List JournalEntry) (q : Asked) (old mid new : Option (List (ℕ × ℕ))) (stood : StandsFor bytes h es) (more : List (ℕ × ℕ)) → mid ≡ option_map (λ ranges. ranges ++ more) old
    → All (λ r. IsOfWords (texts_places_of es) r.0 r.1) more → ReadsNoBarren h es stood.legal.held q mid new → ReadsNoBarren h es stood.legal.held q old new
texts_read_aside bytes h es q old mid new stood more added within reads = record {
  more = more ++ reads.more;
  added = two_added old mid new more reads.more added reads.added;
  each = All-append (λ r. MissesBarren h es stood.legal.held q r.0 r.1) more reads.more
      (All-weaker (λ r. IsOfWords (texts_places_of es) r.0 r.1) (λ r. MissesBarren h es stood.legal.held q r.0 r.1) (λ r texts. texts_aside bytes h es q r stood texts) more within) reads.each;
}
