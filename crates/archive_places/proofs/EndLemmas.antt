-- How opening by places begins and ends.
use Rattle.std.proofs.Common.{◌≡◌, ℕ, zero, suc, ◌+◌, ◌-◌, ◌^◌, ◌<◌, ◌≤◌, List, [], ◌∷◌, length, map, get_or, set, Option, Some, None, refl, sym, ◌∙◌, ap, subst, arith}
use Rattle.std.specs.List.Sorted.{IsPermutation, IsNonDecreasingBy, SwapsInRange, apply_swaps}
use Rattle.std.specs.List.{swap}
use Rattle.std.proofs.lemmas.List.{length-map, map-set}
use Rattle.record_format.specs.declared.header.Header.{Header}
use Rattle.log_seams.specs.Disk.{DiskState, KeepsBytes}
use Rattle.disk_journal.specs.State.{JournalState}
use Rattle.archive_open.specs.declared.segments.SegmentPlace.{SegmentPlace}
use Rattle.archive_open.specs.Shown.{IsLastGate, Looks, order_of, places_of}
use Rattle.archive_open.specs.Walk.{AreWhole, EndsWith, Keeping, LastGateTold}
use Rattle.word_places.specs.declared.place.WordsPlace.{WordsPlace}
use Rattle.word_places.specs.Places.{AreInOrder}
use Rattle.archive_places.specs.declared.front.SegmentFront.{SegmentFront}
use Rattle.archive_places.specs.declared.places.Places.{Places}
use Rattle.archive_places.specs.declared.opening.Opening.{Opening}
use Rattle.archive_places.specs.Fronts.{front_of_place, order_of_front}
use Rattle.archive_places.specs.Opened.{EndsAtGate, OpensPlaces}
use Rattle.archive_places.specs.StepsPlaced.{IsInRun, IsListing, IsPlaced, Listing, Placing, PlacesOf, no_listing, placing_of}
use Rattle.archive_places.proofs.TextLemmas.{run_in_order}

-- ---- segments in order

-- an exchange of fronts is one of places
get_or_mapped : {X Y : Type 0} (f : X → Y) (xs : List X) (i : ℕ) (d : X) → get_or (map f xs) i (f d) ≡ f (get_or xs i d)
get_or_mapped f [] i d = refl
get_or_mapped f (x ∷ xs) zero d = refl
get_or_mapped f (x ∷ xs) (suc i) d = get_or_mapped f xs i d

swap_mapped : {X Y : Type 0} (f : X → Y) (xs : List X) (i j : ℕ) → swap (map f xs) i j ≡ map f (swap xs i j)
swap_mapped f [] i j = refl
swap_mapped f (x ∷ xs) i j =
    (λ k. set (set (map f (x ∷ xs)) i (get_or_mapped f (x ∷ xs) j x k)) j (get_or_mapped f (x ∷ xs) i x k))
    ∙ ap (λ l. set l j (f (get_or (x ∷ xs) i x))) (sym (map-set f (x ∷ xs) i (get_or (x ∷ xs) j x)))
    ∙ sym (map-set f (set (x ∷ xs) i (get_or (x ∷ xs) j x)) j (get_or (x ∷ xs) i x))

moves_mapped : {X Y : Type 0} (f : X → Y) (xs : List X) (moves : List (ℕ × ℕ)) → apply_swaps (map f xs) moves ≡ map f (apply_swaps xs moves)
moves_mapped f xs [] = refl
moves_mapped f xs (p ∷ moves) = ap (λ l. swap l p.0 p.1) (moves_mapped f xs moves) ∙ swap_mapped f (apply_swaps xs moves) p.0 p.1

-- fronts in another order are those of places in another order
pub record HasOrder (places : List SegmentPlace) (fronts : List SegmentFront) : Type 0 where
  pub ordered : List SegmentPlace
  pub are : IsPermutation places ordered
  pub sorted : IsNonDecreasingBy order_of ordered
  pub fronts_are : fronts ≡ map front_of_place ordered

has_order : (places : List SegmentPlace) (fronts : List SegmentFront) → IsPermutation (map front_of_place places) fronts → IsNonDecreasingBy order_of_front fronts → HasOrder places fronts
has_order places fronts same sorted =
    let ordered : List SegmentPlace = apply_swaps places same.moves in
    let is : fronts ≡ map front_of_place ordered = same.is ∙ moves_mapped front_of_place places same.moves in
    let rises : IsNonDecreasingBy order_of_front (map front_of_place ordered) = subst (IsNonDecreasingBy order_of_front) is sorted in
    record {
      ordered = ordered;
      are = record { moves = same.moves; below = subst (λ (n : ℕ). SwapsInRange n same.moves) (length-map places front_of_place) same.below; is = refl };
      sorted = λ i j d le lt.
          let within : j < length (map front_of_place ordered) = omega (arith, lt, length-map ordered front_of_place) in
          let one = ap order_of_front (get_or_mapped front_of_place ordered i d) in
          let two = ap order_of_front (get_or_mapped front_of_place ordered j d) in
          omega (arith, rises i j (front_of_place d) le within, one, two);
      fronts_are = is;
    }

-- ---- the beginning

none_listed : (l : Listing) (limit : ℕ) → l ≡ no_listing limit → IsListing l [] [] limit
none_listed l limit none = subst (λ (x : Listing). IsListing x [] [] limit) (sym none) (record { stand = refl; many = refl; most = refl })

pub none_placed : (p : Placing) (h : Header) → p.types ≡ no_listing h.types_limit → p.words ≡ no_listing h.words_limit → p.files ≡ [] → p.segments ≡ [] → PlacesOf p h []
none_placed p h types words files segments held run =
    subst (λ x. IsPlaced p h [] x) (sym run) (record {
      types = none_listed p.types h.types_limit types;
      words = none_listed p.words h.words_limit words;
      files = files;
      segments = segments;
    })

pub none_in_run : (l : Listing) (limit : ℕ) → l ≡ no_listing limit → IsInRun l
none_in_run l limit none = subst IsInRun (sym none) refl

-- ---- the end

-- what was found, by what was kept of all records
pub record IsFound (a : Places) (o : Opening) (h : Header) (place count : ℕ) : Type 0 where
  pub header : a.header ≡ h
  pub types : a.types ≡ o.types.places.items
  pub types_count : a.types_count ≡ o.types.count
  pub words : a.words ≡ o.words.places.items
  pub files : a.files ≡ o.files.items
  pub same : IsPermutation o.segments.items a.segments
  pub sorted : IsNonDecreasingBy order_of_front a.segments
  pub entries : a.entries ≡ count
  pub end : a.end ≡ place + 1

opens_told : (seen : Option (List ℕ)) (o : Opening) (header : Header) (place count : ℕ) (a : Places) → AreWhole (PlacesOf (placing_of o)) header place count seen → IsFound a o header place count
    → OpensPlaces seen a
opens_told None o header place count a whole is = tt
opens_told (Some bytes) o header place count a whole is = λ h es stood.
    let w = whole h es stood in
    let placed : IsPlaced (placing_of o) h es stood.legal.held = w.kept stood.legal.held stood.legal.run in
    let order = has_order (places_of es) a.segments (subst (λ (l : List SegmentFront). IsPermutation l a.segments) placed.segments is.same) is.sorted in
    record {
      header = is.header ∙ sym w.one;
      types = is.types ∙ placed.types.stand;
      types_count = is.types_count ∙ placed.types.many;
      words = is.words ∙ placed.words.stand;
      files = is.files ∙ placed.files;
      ordered = order.ordered;
      are = order.are;
      sorted = order.sorted;
      segments = order.fronts_are;
      entries = is.entries ∙ w.all;
      end = is.end ∙ ap (λ n. n + 1) w.gate;
    }

pub opens : (o : Opening) (old new : JournalState) (a : Places) → Looks old new → EndsWith (PlacesOf (placing_of o)) new → IsFound a o old.header new.place new.count → OpensPlaces old.disk.seen a
opens o old new a looks ends is =
    opens_told old.disk.seen o new.header new.place new.count a (subst (λ s. AreWhole (PlacesOf (placing_of o)) new.header new.place new.count s) looks.rests.seen ends.whole)
    (subst (λ (h : Header). IsFound a o h new.place new.count) (sym looks.header) is)

-- places that go on with their numbers
pub in_order : (l : Listing) (places : List WordsPlace) → places ≡ l.places → IsInRun l → l.count ≤ l.limit → l.limit < 2 ^ 32 → AreInOrder 0 places
in_order l places same run within few = subst (AreInOrder 0) (sym same) (run_in_order 0 l.places l.count run (omega (arith, within, few)))

last_gate_told : (seen : Option (List ℕ)) (place : ℕ) (a : Places) → LastGateTold place seen → a.end ≡ place + 1 → EndsAtGate seen a
last_gate_told None place a last end = tt
last_gate_told (Some bytes) place a last end =
    let same : place ≡ a.end - 1 = omega (arith, end) in
    subst (λ n. IsLastGate n bytes) same last

pub has_last_gate : (b : Keeping) (old new : JournalState) (a : Places) → Looks old new → EndsWith b new → a.end ≡ new.place + 1 → EndsAtGate old.disk.seen a
has_last_gate b old new a looks ends end =
    last_gate_told old.disk.seen new.place a (subst (λ s. LastGateTold new.place s) looks.rests.seen ends.last) end

-- what is found of a disk that was only read
pub opens_before : (old mid : DiskState) (a : Places) → KeepsBytes old mid → OpensPlaces mid.seen a → OpensPlaces old.seen a
opens_before old mid a keeps is = subst (λ s. OpensPlaces s a) keeps.seen is

pub gate_before : (old mid : DiskState) (a : Places) → KeepsBytes old mid → EndsAtGate mid.seen a → EndsAtGate old.seen a
gate_before old mid a keeps is = subst (λ s. EndsAtGate s a) keeps.seen is
