-- Heads that are read without their lists of words.
use Rattle.std.proofs.Common.{◌≡◌, ℕ, ℤ, ◌+◌, ◌*◌, ◌^◌, ◌<◌, List, [], ◌++◌, Option, Some, None, Result, Ok, Err, length, take, drop, sym, ◌∙◌, ap, ap₂, subst, arith, length-append, to_z, of_z}
use Rattle.std.specs.Prelude.{IfSome, IfOk}
use Rattle.std.specs.List.{flat_map}
use Rattle.std.specs.Int.{w64}
use Rattle.std.specs.Int.RustNames.{FitsSigned}
use Rattle.std.proofs.lemmas.Int.{to_z-of_z}
use Rattle.std.proofs.lemmas.List.{append_assoc, drop_at, take-take, take_at}
use Rattle.record_format.specs.Lists.{four_bytes}
use Rattle.segment_format.specs.declared.head.Head.{Head}
use Rattle.segment_format.specs.Layout.{IsHead, IsNumberSet, fixed_bytes, fixed_of, head_bytes, head_length}
use Rattle.segment_format.proofs.FixedLemmas.{length-fixed_bytes}
use Rattle.segment_format.proofs.HeadLemmas.{length_numbers}
use Rattle.segment_format.proofs.UniqueLemmas.{column_once, numbers_tell}
use Rattle.segment_pages.specs.declared.refusal.PageRefusal.{PageRefusal}
use Rattle.archive_open.specs.declared.segments.SegmentPlace.{SegmentPlace}
use Rattle.archive_places.specs.declared.front.SegmentFront.{SegmentFront}
use Rattle.archive_places.specs.Fronts.{front_of_place}
use Rattle.archive_places.specs.Heads.{HasHeadAt, OfFront}
use Rattle.archive_places.specs.TypeHeads.{types_bytes, without_words}

length-types_bytes : (h : Head) → length (types_bytes h) ≡ 45 + 4 * length h.types
length-types_bytes h = omega (arith, length-append (fixed_bytes (fixed_of h)) (flat_map four_bytes h.types), length-fixed_bytes (fixed_of h), length_numbers h.types)

-- the bytes that were read are the front of the head that stands there
types_there : (front : SegmentFront) (bytes text : List ℕ) (q : SegmentPlace) → text ≡ take (45 + 4 * front.types) (drop front.payload bytes) → front_of_place q ≡ front → HasHeadAt bytes q
    → text ≡ types_bytes q.head
types_there front bytes text q these is has =
    let n : ℕ = 45 + 4 * length q.head.types in
    let m : ℕ = head_length (fixed_of q.head) in
    let rest : List ℕ = flat_map four_bytes q.head.words in
    let own : text ≡ take n (drop q.payload bytes) = these ∙ ap (λ (f : SegmentFront). take (45 + 4 * f.types) (drop f.payload bytes)) (sym is) in
    let longer : take n (drop q.payload bytes) ≡ take n (take m (drop q.payload bytes)) = sym (take-take n m (drop q.payload bytes) (omega arith)) in
    let spelled : head_bytes q.head ≡ types_bytes q.head ++ rest = sym (append_assoc (fixed_bytes (fixed_of q.head)) (flat_map four_bytes q.head.types) rest) in
    own ∙ longer ∙ ap (take n) (has.stands ∙ spelled) ∙ take_at (types_bytes q.head) rest n (length-types_bytes q.head)

-- no list that rises stands behind the fixed part
pub no_types : (front : SegmentFront) (bytes listed : List ℕ) (q : SegmentPlace) → listed ≡ drop 45 bytes → bytes ≡ types_bytes q.head → listed ≡ flat_map four_bytes q.head.types
no_types front bytes listed q is these =
    is ∙ ap (drop 45) these ∙ drop_at (fixed_bytes (fixed_of q.head)) (flat_map four_bytes q.head.types) 45 (length-fixed_bytes (fixed_of q.head))

-- a list of numbers is spelled once
one_list : (xs ys : List ℕ) → IsNumberSet xs → IsNumberSet ys → flat_map four_bytes xs ≡ flat_map four_bytes ys → xs ≡ ys
one_list xs ys is_xs is_ys same =
    let long : length xs ≡ length ys = omega (arith, ap (λ (l : List ℕ). length l) same, length_numbers xs, length_numbers ys) in
    column_once 4 four_bytes (λ n. n < 2 ^ 32) numbers_tell xs ys is_xs.fit is_ys.fit long same

-- a place by a front, with these lists and moments
abbrev pub typed_with : SegmentFront → List ℕ → List ℕ → ℤ → ℤ → SegmentPlace
typed_with f types words least greatest = record {
  at = f.at;
  payload = f.payload;
  length = f.length;
  head = record {
    file = f.file;
    first = f.first;
    rows = f.rows;
    last = f.last;
    ended = f.ended;
    stamped = f.stamped;
    least = least;
    greatest = greatest;
    types = types;
    words = words;
    variables = f.variables;
  };
}

pub typed_same : (f : SegmentFront) (types words : List ℕ) (q : SegmentPlace) → words ≡ [] → front_of_place q ≡ f → IsHead q.head → IsNumberSet types → flat_map four_bytes types ≡ flat_map four_bytes q.head.types
    → typed_with f types words (to_z w64 (of_z w64 f.least)) (to_z w64 (of_z w64 f.greatest)) ≡ without_words q
typed_same f types words q none same fits is_types spelled =
    let least : to_z w64 (of_z w64 f.least) ≡ f.least = to_z-of_z w64 f.least (subst (λ (x : SegmentFront). FitsSigned w64 x.least) same fits.fixed.least) in
    let greatest : to_z w64 (of_z w64 f.greatest) ≡ f.greatest = to_z-of_z w64 f.greatest (subst (λ (x : SegmentFront). FitsSigned w64 x.greatest) same fits.fixed.greatest) in
    ap₂ (λ (a b : ℤ). typed_with f types words a b) least greatest ∙ ap (λ (l : List ℕ). typed_with f types l f.least f.greatest) none ∙ ap (λ (l : List ℕ). typed_with f l [] f.least f.greatest) (one_list types q.head.types is_types fits.types spelled)
    ∙ ap (λ (x : SegmentFront). typed_with x q.head.types [] x.least x.greatest) (sym same)

-- ---- the same of an answer

pub none_typed : (told : Option (List ℕ)) (front : SegmentFront) (text : List ℕ) → IfSome told (λ bytes. text ≡ take (45 + 4 * front.types) (drop front.payload bytes))
    → ((q : SegmentPlace) → front_of_place q ≡ front → IsHead q.head → text ≡ types_bytes q.head → ⊥) → OfFront told front (λ _. ⊥)
none_typed None front text these none = tt
none_typed (Some bytes) front text these none = λ q is has. none q is has.fits (types_there front bytes text q these is has)

one_typed : (told : Option (List ℕ)) (front : SegmentFront) (text : List ℕ) (p : SegmentPlace) → IfSome told (λ bytes. text ≡ take (45 + 4 * front.types) (drop front.payload bytes))
    → ((q : SegmentPlace) → front_of_place q ≡ front → IsHead q.head → text ≡ types_bytes q.head → p ≡ without_words q) → OfFront told front (λ q. p ≡ without_words q)
one_typed None front text p these is = tt
one_typed (Some bytes) front text p these is = λ q same has. is q same has.fits (types_there front bytes text q these same has)

pub all_typed : (told : Option (List ℕ)) (front : SegmentFront) (text : List ℕ) (answer : Result SegmentPlace PageRefusal) → IfSome told (λ bytes. text ≡ take (45 + 4 * front.types) (drop front.payload bytes))
    → IfOk answer (λ p. (q : SegmentPlace) → front_of_place q ≡ front → IsHead q.head → text ≡ types_bytes q.head → p ≡ without_words q) → IfOk answer (λ p. OfFront told front (λ q. p ≡ without_words q))
all_typed told front text (Ok p) these is = one_typed told front text p these is
all_typed told front text (Err e) these is = tt

pub text_typed : (told : Option (List ℕ)) (front : SegmentFront) (size : ℕ) (text buffer : List ℕ) → size ≡ 45 + 4 * front.types → text ≡ buffer → IfSome told (λ bytes. buffer ≡ take size (drop front.payload bytes))
    → IfSome told (λ bytes. text ≡ take (45 + 4 * front.types) (drop front.payload bytes))
text_typed None front size text buffer sized same these = tt
text_typed (Some bytes) front size text buffer sized same these = same ∙ these ∙ ap (λ n. take n (drop front.payload bytes)) sized
