-- A segment that is barren or opened, and what is read of it.
use Rattle.std.proofs.Common.{◌≡◌, map, inl, inr, ⊎_elim, ℕ, zero, suc, ◌+◌, ◌<◌, ◌≤◌, Bool, false, List, [], ◌∷◌, ◌++◌, length, Option, Some, None, refl, sym, ◌∙◌, ap, subst, arith}
use Rattle.std.specs.Prelude.{slice_get, IsTrue, ◌↔◌}
use Rattle.std.specs.List.{Contains, flat_map}
use Rattle.std.proofs.lemmas.List.{append-nil, length-map}
use Rattle.std.proofs.Math.ListN.{get_or-map}
use Rattle.std.proofs.lemmas.List.Elements.{All-nil, All-weaker, Contains-append_left, Contains-append_right, Contains-push}
use Rattle.std.proofs.lemmas.Option.{slice_get_within}
use Rattle.log_seams.specs.Disk.{DiskState}
use Rattle.column_store.specs.declared.row.Row.{Row}
use Rattle.row_codec.specs.Means.{AreCanonical, IsCanonical}
use Rattle.plain_list.specs.Texts.{AreDistinct}
use Rattle.segment_format.specs.Layout.{sorted_set, IsHead, head_of}
use Rattle.segment_format.specs.Pages.{first_page}
use Rattle.segment_pages.specs.Paged.{HoldsLeft, HoldsSegment, Paged, columns_size}
use Rattle.archive_meaning.specs.declared.TheConstants.{MAX_MESSAGES}
use Rattle.query_plan.specs.Laws.{IsSearched, WideIsWider}
use Rattle.query_plan.specs.Pieces.{wide_pieces}
use Rattle.barren_segments.specs.Barren.{IsBarren}
use Rattle.subquery_filter.specs.Laws.{BarrenHasNoMatch, words_of}
use Rattle.archive_open.specs.declared.files.FileEntry.{FileEntry}
use Rattle.archive_open.specs.declared.segments.SegmentPlace.{SegmentPlace}
use Rattle.printed_lines.specs.Lines.{Picks, Placed, numbered}
use Rattle.search_meaning.specs.Scan.{Asked, IsFound, IsTried}
use Rattle.search_walk.specs.Held.{HasMessages, HaveMessages, IsTold, Named, OfLeft, OfSegments}
use Rattle.search_walk.specs.PagesRead.{IsOfPage, ReadsPage}
use Rattle.search_meaning.specs.Opened.{IsBarrenFor}
use Rattle.search_walk.specs.Opened.{IsRead, ReadsOpened, columns_at}
use Rattle.row_codec.specs.Numbers.{numbers_of_row}
use Rattle.segment_format.proofs.SetLemmas.{has_sorted_set}
use Rattle.search_walk.proofs.RowLemmas.{of_range}

-- ---- told

pub of_none : (seen : Option (List ℕ)) (n : Named) (files : List FileEntry) (ps : List SegmentPlace) (P : List ℕ → List Placed → Type 0) → OfSegments seen n files ps (λ _ _. ⊥) → OfSegments seen n files ps P
of_none None n files ps P none = tt
of_none (Some bytes) n files ps P none = λ all distinct have. absurd (none all distinct have)

pub of_all : (seen : Option (List ℕ)) (n : Named) (files : List FileEntry) (ps : List SegmentPlace) (P Q : List ℕ → List Placed → Type 0) → ((bytes : List ℕ) (all : List Placed) → P bytes all → Q bytes all)
    → OfSegments seen n files ps P → OfSegments seen n files ps Q
of_all None n files ps P Q step has = tt
of_all (Some bytes) n files ps P Q step has = λ all distinct have. step bytes all (has all distinct have)

-- ---- one segment

-- its messages, where its file is this
pub record Single (bytes : List ℕ) (n : Named) (f : FileEntry) (p : SegmentPlace) (all : List Placed) : Type 0 where
  pub messages : List (List ℕ)
  pub has : HasMessages bytes n p messages
  pub parts : all ≡ numbered f.name (p.head.first + 1) messages

some_same : {A : Type 0} (o : Option A) (x y : A) → o ≡ Some x → o ≡ Some y → x ≡ y
some_same o x y one two = cc (one, two)

pub single : (bytes : List ℕ) (n : Named) (files : List FileEntry) (f : FileEntry) (p : SegmentPlace) (all : List Placed) → slice_get files p.head.file ≡ Some f → HaveMessages bytes n files (p ∷ []) all → Single bytes n f p all
single bytes n files f p all is have =
    let same : have.0 ≡ f = some_same (slice_get files p.head.file) have.0 f have.3 is in
    record {
      messages = have.1;
      has = have.4;
      parts = have.6 ∙ ap (λ (l : List Placed). numbered have.0.name (p.head.first + 1) have.1 ++ l) have.5 ∙ append-nil (numbered have.0.name (p.head.first + 1) have.1)
          ∙ ap (λ (g : FileEntry). numbered g.name (p.head.first + 1) have.1) same;
    }

-- ---- barren segments

pub nothing_picked : (n : Named) (P : List ℕ → Type 0) (name : List ℕ) (k : ℕ) (whole rest : List Row) (messages : List (List ℕ)) → AreCanonical n.version rest n.types n.words messages → ((r : Row) → Contains rest r → Contains whole r)
    → ((r : Row) (m : List ℕ) → Contains whole r → IsCanonical n.version r n.types n.words m → ¬ P m) → Picks (λ (p : Placed). P p.message) (numbered name k messages) []
nothing_picked n P name k whole rest [] are within none = refl
nothing_picked n P name k whole [] (m ∷ messages) are within none = absurd are
nothing_picked n P name k whole (r ∷ rest) (m ∷ messages) are within none =
    let here : Contains (r ∷ rest) r = Contains-append_left (r ∷ []) rest r (Contains-push [] r) in
    inr (none r m (within r here) are.0, nothing_picked n P name (k + 1) whole rest messages are.1 (λ x is. within x (Contains-append_right (r ∷ []) rest x is)) none)

pub barren_tried : (n : Named) (q : Asked) (p : SegmentPlace) (rows : List Row) → BarrenHasNoMatch → IsSearched q.pattern → IsBarrenFor n.types n.words q p → p.head ≡ head_of p.head.file p.head.first p.head.last p.head.ended rows (words_of n.types rows)
    → (r : Row) (m : List ℕ) → Contains rows r → IsCanonical n.version r n.types n.words m → ¬ IsTried n.version q m
barren_tried n q p rows law searched barren head r m is canonical tried =
    law n.version p.head.file p.head.first p.head.last p.head.ended rows n.types n.words q.pattern q.range searched
    (subst (IsBarren (wide_pieces q.pattern) q.range n.types n.words) head barren) r m is canonical
    (of_range n.version q.range r n.types n.words m canonical tried.inside) tried.matched

pub barren_found : (n : Named) (q : Asked) (p : SegmentPlace) (rows : List Row) → WideIsWider → BarrenHasNoMatch → IsSearched q.pattern → IsBarrenFor n.types n.words q p
    → p.head ≡ head_of p.head.file p.head.first p.head.last p.head.ended rows (words_of n.types rows)
    → (r : Row) (m : List ℕ) → Contains rows r → IsCanonical n.version r n.types n.words m → ¬ IsFound n.version q m
barren_found n q p rows wider law searched barren head r m is canonical found =
    barren_tried n q p rows law searched barren head r m is canonical (record { matched = wider q.pattern m found.matched; inside = found.inside })

-- what the code tells of a head
abbrev pub Tells : Named → Asked → SegmentPlace → Bool → Type 0
Tells n q p b = IsTold n → IsHead p.head → AreDistinct n.words → IsTrue b ↔ IsBarrenFor n.types n.words q p

pub not_barren : (n : Named) (q : Asked) (p : SegmentPlace) (b : Bool) → Tells n q p b → b ≡ false → IsTold n → IsHead p.head → AreDistinct n.words → ¬ IsBarrenFor n.types n.words q p
not_barren n q p b told shut truth head distinct barren = absurd (cc (shut, (told truth head distinct).1 barren))

-- ---- opened segments

pub type_listed : (rows : List Row) (r : Row) → Contains rows r → Contains (sorted_set (map (λ x. x.log_type) rows)) r.log_type
type_listed rows r is =
    has_sorted_set (map (λ (x : Row). x.log_type) rows) r.log_type
    (is.0, omega (arith, is.1, length-map rows (λ (x : Row). x.log_type)), get_or-map (λ (x : Row). x.log_type) rows is.0 r ∙ ap (λ (x : Row). x.log_type) is.2)

contains_flat_map : {X Y : Type 0} (f : X → List Y) (xs : List X) (x : X) (y : Y) → Contains xs x → Contains (f x) y → Contains (flat_map f xs) y
contains_flat_map f [] x y (k, lt, e) there = absurd (omega (arith, lt))
contains_flat_map f (z ∷ xs) x y (zero, lt, e) there = Contains-append_left (f z) (flat_map f xs) y (subst (λ w. Contains (f w) y) (sym e) there)
contains_flat_map f (z ∷ xs) x y (suc k, lt, e) there = Contains-append_right (f z) (flat_map f xs) y (contains_flat_map f xs x y (k, omega (arith, lt), e) there)

pub number_listed : (types : List (List ℕ)) (rows : List Row) (r : Row) (k : ℕ) → Contains rows r → Contains (numbers_of_row types r) k → Contains (words_of types rows) k
number_listed types rows r k is has = has_sorted_set (flat_map (numbers_of_row types) rows) k (contains_flat_map (numbers_of_row types) rows r k is has)

pub left_none : (seen : Option (List ℕ)) (n : Named) (files : List FileEntry) (p : SegmentPlace) (pages : Paged) → ((bytes : List ℕ) (rows : List Row) → HoldsSegment p.payload p.length p.head bytes rows → HoldsLeft pages bytes rows)
    → OfLeft seen pages n (λ _. ⊥) → OfSegments seen n files (p ∷ []) (λ _ _. ⊥)
left_none None n files p pages opens none = tt
left_none (Some bytes) n files p pages opens none = λ all distinct have. none have.4.rows have.1 (opens bytes have.4.rows have.4.holds) have.4.are

pub file_none : (seen : Option (List ℕ)) (n : Named) (files : List FileEntry) (p : SegmentPlace) → length files ≤ p.head.file → OfSegments seen n files (p ∷ []) (λ _ _. ⊥)
file_none None n files p few = tt
file_none (Some bytes) n files p few = λ all distinct have. omega (arith, few, slice_get_within files p.head.file have.0 have.3)

pub first_none : (seen : Option (List ℕ)) (n : Named) (files : List FileEntry) (p : SegmentPlace) → MAX_MESSAGES < p.head.first → OfSegments seen n files (p ∷ []) (λ _ _. ⊥)
first_none None n files p many = tt
first_none (Some bytes) n files p many = λ all distinct have. omega (arith, many, have.4.most)

pub open_none : (seen : Option (List ℕ)) (n : Named) (files : List FileEntry) (p : SegmentPlace) → ((bytes : List ℕ) (rows : List Row) → ¬ HoldsSegment p.payload p.length p.head bytes rows) → OfSegments seen n files (p ∷ []) (λ _ _. ⊥)
open_none None n files p none = tt
open_none (Some bytes) n files p none = λ all distinct have. none bytes have.4.rows have.4.holds

-- ---- what is read

pub none_read : (n : Named) (q : Asked) (ps : List SegmentPlace) (old : Option (List (ℕ × ℕ))) → ReadsOpened n q ps old old
none_read n q ps None = record { more = []; added = refl; each = All-nil (IsRead n q ps) }
none_read n q ps (Some ranges) = record { more = []; added = ap Some (sym (append-nil ranges)); each = All-nil (IsRead n q ps) }

pub nothing_read : (seen : Option (List ℕ)) (n : Named) (files : List FileEntry) (q : Asked) (ps : List SegmentPlace) (old new : Option (List (ℕ × ℕ))) → new ≡ old → OfSegments seen n files ps (λ _ _. ReadsOpened n q ps old new)
nothing_read None n files q ps old new same = tt
nothing_read (Some bytes) n files q ps old new same = λ all distinct have. subst (ReadsOpened n q ps old) (sym same) (none_read n q ps old)

pub columns_read : (seen : Option (List ℕ)) (n : Named) (files : List FileEntry) (q : Asked) (p : SegmentPlace) (b : Bool) (pages : Paged) (old new : DiskState) → Tells n q p b → b ≡ false → pages.at + pages.pages.start ≡ columns_at p
    → columns_size pages.pages ≡ columns_size (first_page p.head) → ReadsPage n pages old new → OfSegments seen n files (p ∷ []) (λ _ _. ReadsOpened n q (p ∷ []) old.ranges new.ranges)
columns_read None n files q p b pages old new told shut start size reads = tt
columns_read (Some bytes) n files q p b pages old new told shut start size reads = λ all distinct have.
    let no_barren : ¬ IsBarrenFor n.types n.words q p = not_barren n q p b told shut have.4.are.told have.4.holds.is_head distinct in
    record {
      more = reads.more;
      added = reads.added;
      each = All-weaker (IsOfPage n pages) (IsRead n q (p ∷ []))
          (λ r is. ⊎_elim (λ within. inl (record { p = p; is = Contains-push [] p; opened = no_barren; start = omega (arith, start, within.0); end = omega (arith, start, size, within.1) })) (λ words. inr (inr words)) is)
          reads.more reads.each;
    }
