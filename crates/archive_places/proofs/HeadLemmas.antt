-- Heads of segments, where they stand and as they were read.
use Rattle.std.proofs.Common.{◌≡◌, ℕ, ◌+◌, ◌<◌, ◌≤◌, List, [], ◌∷◌, ◌++◌, Option, Some, None, Result, Ok, Err, length, take, drop, refl, sym, ◌∙◌, ap, ap₂, subst, arith}
use Rattle.std.specs.Prelude.{All, IfSome, IfOk}
use Rattle.std.proofs.lemmas.List.{append-nil, append_assoc, drop_at, take_at, length-take, length-drop}
use Rattle.std.proofs.lemmas.List.Elements.{All-nil, All-cons, All-append, All-same}
use Rattle.log_seams.specs.Disk.{Gave}
use Rattle.record_format.specs.declared.header.Header.{Header}
use Rattle.segment_format.specs.declared.head.Head.{Head}
use Rattle.segment_format.specs.Layout.{IsHead, columns_bytes, fixed_of, head_bytes, head_length}
use Rattle.segment_format.proofs.HeadLemmas.{length-head_bytes}
use Rattle.segment_format.proofs.LawsLemmas.{heads_once}
use Rattle.archive_meaning.specs.declared.entry.SegmentEntry.{SegmentEntry}
use Rattle.archive_meaning.specs.declared.entry.JournalEntry.{JournalEntry}
use Rattle.archive_meaning.specs.declared.entry.JournalEntry.TheVariants.{Files, Types, Words, Segment}
use Rattle.archive_meaning.specs.Spelled.{front_of, record_of, types_in, types_of}
use Rattle.archive_meaning.specs.Stands.{StandsFor}
use Rattle.segment_pages.specs.declared.refusal.PageRefusal.{PageRefusal}
use Rattle.segment_pages.proofs.StandLemmas.{payload_stands, segments_held}
use Rattle.archive_open.specs.declared.segments.SegmentPlace.{SegmentPlace}
use Rattle.archive_open.specs.Shown.{head_in, placed, places_from}
use Rattle.archive_open.proofs.NextLemmas.{front_length}
use Rattle.archive_places.specs.declared.front.SegmentFront.{SegmentFront}
use Rattle.archive_places.specs.Fronts.{fixed_in, front_of_place}
use Rattle.archive_places.specs.Heads.{HasHeadAt, OfFront}
use Rattle.archive_places.specs.StepsHeads.{HasFlags, HasNumbers, placed_by}
use Rattle.archive_places.specs.Laws.{HeadsStand}
use Rattle.archive_places.proofs.TextLemmas.{behind_entry, types_behind}

-- ---- where they stand

-- a segment whose gate is at a place, behind entries with these log types
abbrev pub place_in : ℕ → List (List ℕ) → SegmentEntry → SegmentPlace
place_in at types s = record { at = at; payload = at + 10; length = length (record_of types (Segment s)).payload; head = head_in types s }

head_there : (bytes : List ℕ) (h : Header) (es before after : List JournalEntry) (s : SegmentEntry) → StandsFor bytes h es → es ≡ before ++ Segment s ∷ after
    → HasHeadAt bytes (place_in (length (front_of h before)) (types_of before) s)
head_there bytes h es before after s stood is =
    let held = segments_held bytes h es before after s stood is in
    let there = payload_stands bytes h es before after (Segment s) stood is in
    let head : Head = head_in (types_of before) s in
    let columns : List ℕ = columns_bytes s.rows in
    let behind : drop (length (front_of h before) + 10) bytes ≡ (head_bytes head ++ columns) ++ there.behind =
    ap (λ (l : List ℕ). drop (length (front_of h before) + 10) l) there.spells ∙ drop_at there.front ((head_bytes head ++ columns) ++ there.behind) (length (front_of h before) + 10) there.place in
    record {
      fits = held.is_head;
      stands = ap (λ (l : List ℕ). take (head_length (fixed_of head)) l) (behind ∙ append_assoc (head_bytes head) columns there.behind)
          ∙ take_at (head_bytes head) (columns ++ there.behind) (head_length (fixed_of head)) (length-head_bytes head);
    }

head_placed : (bytes : List ℕ) (h : Header) (es before after : List JournalEntry) (e : JournalEntry) → StandsFor bytes h es → es ≡ before ++ e ∷ after
    → All (HasHeadAt bytes) (placed (length (front_of h before)) (types_of before) e)
head_placed bytes h es before after (Files names) stood is = All-nil (HasHeadAt bytes)
head_placed bytes h es before after (Types first texts) stood is = All-nil (HasHeadAt bytes)
head_placed bytes h es before after (Words first texts) stood is = All-nil (HasHeadAt bytes)
head_placed bytes h es before after (Segment s) stood is =
    All-cons (HasHeadAt bytes) (place_in (length (front_of h before)) (types_of before) s) [] (head_there bytes h es before after s stood is) (All-nil (HasHeadAt bytes))

heads_run : (bytes : List ℕ) (h : Header) (es : List JournalEntry) → StandsFor bytes h es → (before after : List JournalEntry) → es ≡ before ++ after
    → All (HasHeadAt bytes) (places_from (length (front_of h before)) (types_of before) after)
heads_run bytes h es stood before [] is = All-nil (HasHeadAt bytes)
heads_run bytes h es stood before (e ∷ after) is =
    let next : List SegmentPlace = places_from (length (front_of h before) + 10 + length (record_of (types_of before) e).payload) (types_of before ++ types_in e) after in
    let same : next ≡ places_from (length (front_of h (before ++ e ∷ []))) (types_of (before ++ e ∷ [])) after =
    ap₂ (λ n t. places_from n t after) (sym (behind_entry h before e)) (sym (types_behind before e)) in
    All-append (HasHeadAt bytes) (placed (length (front_of h before)) (types_of before) e) next (head_placed bytes h es before after e stood is)
    (All-same (HasHeadAt bytes) next _ same (heads_run bytes h es stood (before ++ e ∷ []) after (is ∙ sym (append_assoc before (e ∷ []) after))))

pub heads_stand : HeadsStand
heads_stand bytes h es stood =
    let start : length (front_of h []) ≡ 32 = front_length h [] ∙ (let e : 32 + 0 ≡ 32 = omega arith in e) in
    subst (λ (n : ℕ). All (HasHeadAt bytes) (places_from n [] es)) start (heads_run bytes h es stood [] es refl)

-- ---- as they were read

-- bytes that end within it are no head
pub short_head : (told : Option (List ℕ)) (front : SegmentFront) (n : ℕ) (old new : List ℕ) → Gave told front.payload n old new → length old ≤ head_length (fixed_in front) → n < length old
    → OfFront told front (λ _. ⊥)
short_head None front n old new gave len less = tt
short_head (Some bytes) front n old new gave len less = λ p is has.
    let size : head_length (fixed_of p.head) ≡ head_length (fixed_in front) = ap (λ (f : SegmentFront). head_length (fixed_in f)) is in
    let place : p.payload ≡ front.payload = ap (λ (f : SegmentFront). f.payload) is in
    let long : length (take (head_length (fixed_of p.head)) (drop p.payload bytes)) ≡ head_length (fixed_of p.head) = ap (λ (l : List ℕ). length l) has.stands ∙ length-head_bytes p.head in
    omega (arith, gave.all, len, less, size, place, long, length-take (head_length (fixed_of p.head)) (drop p.payload bytes), length-drop p.payload bytes)

-- the bytes that were read are those of the head that stands there
read_there : (front : SegmentFront) (bytes text : List ℕ) (p : SegmentPlace) → text ≡ take (head_length (fixed_in front)) (drop front.payload bytes) → front_of_place p ≡ front → HasHeadAt bytes p
    → text ≡ head_bytes p.head
read_there front bytes text p these is has =
    these ∙ ap (λ (f : SegmentFront). take (head_length (fixed_in f)) (drop f.payload bytes)) (sym is) ∙ has.stands

pub none_read : (told : Option (List ℕ)) (front : SegmentFront) (text : List ℕ) → IfSome told (λ bytes. text ≡ take (head_length (fixed_in front)) (drop front.payload bytes))
    → ((p : SegmentPlace) → front_of_place p ≡ front → IsHead p.head → text ≡ head_bytes p.head → ⊥) → OfFront told front (λ _. ⊥)
none_read None front text these none = tt
none_read (Some bytes) front text these none = λ p is has. none p is has.fits (read_there front bytes text p these is has)

pub front_read : (front : SegmentFront) (head : Head) → HasNumbers head front → HasFlags head front → front_of_place (placed_by front head) ≡ front
front_read front head numbers flags = λ i. record front {
  file = numbers.file i;
  first = numbers.first i;
  rows = numbers.rows i;
  last = flags.last i;
  ended = flags.ended i;
  stamped = flags.stamped i;
  least = numbers.least i;
  greatest = numbers.greatest i;
  types = numbers.types i;
  words = numbers.words i;
  variables = numbers.variables i;
}

pub front_numbers : (front : SegmentFront) (head : Head) → front_of_place (placed_by front head) ≡ front → HasNumbers head front
front_numbers front head is = record {
  file = ap (λ (f : SegmentFront). f.file) is;
  first = ap (λ (f : SegmentFront). f.first) is;
  rows = ap (λ (f : SegmentFront). f.rows) is;
  least = ap (λ (f : SegmentFront). f.least) is;
  greatest = ap (λ (f : SegmentFront). f.greatest) is;
  types = ap (λ (f : SegmentFront). f.types) is;
  words = ap (λ (f : SegmentFront). f.words) is;
  variables = ap (λ (f : SegmentFront). f.variables) is;
}

pub front_flags : (front : SegmentFront) (head : Head) → front_of_place (placed_by front head) ≡ front → HasFlags head front
front_flags front head is = record {
  last = ap (λ (f : SegmentFront). f.last) is;
  ended = ap (λ (f : SegmentFront). f.ended) is;
  stamped = ap (λ (f : SegmentFront). f.stamped) is;
}

-- the head of a place with a front gives that place
pub front_found : (front : SegmentFront) (head : Head) (p : SegmentPlace) → head ≡ p.head → front_of_place p ≡ front → front_of_place (placed_by front head) ≡ front
front_found front head p same is =
    ap (λ (h : Head). front_of_place (placed_by front h)) same ∙ ap (λ (f : SegmentFront). front_of_place (placed_by f p.head)) (sym is) ∙ is

-- places with one front and one head are one place
one_place : (p q : SegmentPlace) → front_of_place p ≡ front_of_place q → p.head ≡ q.head → p ≡ q
one_place p q front head = λ i. record { at = (front i).at; payload = (front i).payload; length = (front i).length; head = head i }

pub one_head : (g h : Head) → IsHead g → IsHead h → head_bytes g ≡ head_bytes h → g ≡ h
one_head g h is_g is_h same =
    (heads_once g h [] [] is_g is_h (append-nil (head_bytes g) ∙ same ∙ sym (append-nil (head_bytes h)))).0

pub one_read : (told : Option (List ℕ)) (front : SegmentFront) (text : List ℕ) (p : SegmentPlace) → IfSome told (λ bytes. text ≡ take (head_length (fixed_in front)) (drop front.payload bytes))
    → front_of_place p ≡ front → IsHead p.head → text ≡ head_bytes p.head → OfFront told front (λ q. p ≡ q)
one_read None front text p these is fits spells = tt
one_read (Some bytes) front text p these is fits spells = λ q same has.
    one_place p q (is ∙ sym same) (one_head p.head q.head fits has.fits (sym spells ∙ read_there front bytes text q these same has))

-- the same of an answer
pub all_read : (told : Option (List ℕ)) (front : SegmentFront) (text : List ℕ) (answer : Result SegmentPlace PageRefusal)
    → IfSome told (λ bytes. text ≡ take (head_length (fixed_in front)) (drop front.payload bytes)) → IfOk answer (λ p. front_of_place p ≡ front)
    → IfOk answer (λ p. IsHead p.head × (text ≡ head_bytes p.head)) → IfOk answer (λ p. OfFront told front (λ q. p ≡ q))
all_read told front text (Ok p) these is head = one_read told front text p these is head.0 head.1
all_read told front text (Err e) these is head = tt

pub text_read : (told : Option (List ℕ)) (front : SegmentFront) (size : ℕ) (text buffer : List ℕ) → size ≡ head_length (fixed_in front) → text ≡ buffer → IfSome told (λ bytes. buffer ≡ take size (drop front.payload bytes))
    → IfSome told (λ bytes. text ≡ take (head_length (fixed_in front)) (drop front.payload bytes))
text_read None front size text buffer sized same these = tt
text_read (Some bytes) front size text buffer sized same these = same ∙ these ∙ ap (λ n. take n (drop front.payload bytes)) sized
