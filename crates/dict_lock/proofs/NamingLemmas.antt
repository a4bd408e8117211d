-- How a naming goes on by one text.
use Rattle.std.proofs.Common.{◌≡◌, ◌≢◌, ◌⊎◌, ⊎_elim, inl, inr, ℕ, zero, suc, ◌+◌, ◌<◌, ◌≤◌, Bool, true, false, List, [], ◌∷◌, ◌++◌, length, refl, sym, ap, subst, ◌∙◌, arith, append-nil, append_assoc, Some, All, slice_get, slice_set, slice_index, slice_index_or}
use Rattle.std.specs.Prelude.{MatchBool, Result, Ok, Err, IsOk, OnOk}
use Rattle.std.specs.Result.{is_err}
use mathlib.Core.List.{IsPrefix}
use Rattle.turn_lock.specs.Words.{seen, own_list, IsReady}
use Rattle.dict_core.specs.declared.refusals.BookRefusal.{BookRefusal}
use Rattle.dict_lock.specs.Shared.{BookPass}
use Rattle.std.specs.List.{Contains}
use Rattle.std.proofs.lemmas.Option.{slice_get_within, none-some, get_or_from_slice_get}
use Rattle.std.proofs.lemmas.List.Elements.{All-push}
use mathlib.Core.Logic.{dite}
use native.Mathlib.Decide.{ℕ_discrete}
use Rattle.dict_core.specs.Books.{BookState, Names}
use Rattle.plain_list.specs.Texts.{IsNew}
use Rattle.dict_lock.specs.Cache.{CacheState, GrowsBy, Remembers, HoldsAll, HoldsFront, Keeps, IsSeen}
use Rattle.dict_lock.specs.Naming.{AreNumbers, Learns, NamesMore}
use Rattle.dict_lock.specs.StepsOfNaming.{AreHeld, FoundAll, Grows, NamesFront, AddsAmong}
use Rattle.dict_lock.specs.declared.naming.TheConstants.{UNKNOWN}
use Rattle.dict_lock.proofs.SharedLemmas.{names_rest, names_at}
use Rattle.dict_lock.proofs.CacheLemmas.{grows_distinct, grows_even, slice_get-front, slice_get-some}

abbrev Texts : Type 0
Texts = List (List ℕ)

-- two readings of one place
pub same_text : {A : Type 0} (xs : List A) (k : ℕ) (x y : A) → slice_get xs k ≡ Some x → slice_get xs k ≡ Some y → Some x ≡ Some y
same_text xs k x y a b = sym a ∙ b

pub slice_get-set : {A : Type 0} (xs : List A) (i k : ℕ) (v x : A) → slice_get (slice_set xs i v) k ≡ Some x → ((k ≡ i) × (Some v ≡ Some x)) ⊎ ((k ≢ i) × (slice_get xs k ≡ Some x))
slice_get-set [] i k v x at = absurd (none-some x at)
slice_get-set (y ∷ ys) zero zero v x at = inl (refl, at)
slice_get-set (y ∷ ys) zero (suc k) v x at = inr ((λ e. absurd (omega arith)), at)
slice_get-set (y ∷ ys) (suc i) zero v x at = inr ((λ e. absurd (omega arith)), at)
slice_get-set (y ∷ ys) (suc i) (suc k) v x at = ⊎_elim (λ (e : (k ≡ i) × (Some v ≡ Some x)). inl (ap suc e.0, e.1)) (λ (e : (k ≢ i) × (slice_get ys k ≡ Some x)). inr ((λ same. e.0 (omega arith)), e.1)) (slice_get-set ys i k v x at)

-- Looking up

pub front_more : (cache : CacheState) (texts : Texts) (place : ℕ) (given : List ℕ) → slice_get texts place ≡ Some given → (n : ℕ) × Remembers cache given n → HoldsFront cache texts place → HoldsFront cache texts (place + 1)
front_more cache texts place given here held front k text lt at = dite (ℕ_discrete k place)
    (λ same. let text_is : given ≡ text = cc (same_text texts place given text here (sym (ap (slice_get texts) same) ∙ at)) in subst (λ t. (n : ℕ) × Remembers cache t n) text_is held)
    (λ ne. front k text (omega arith) at)

pub holds_not : (cache : CacheState) (texts : Texts) (place : ℕ) (given : List ℕ) → slice_get texts place ≡ Some given → IsNew cache.texts given → ¬ HoldsAll cache texts
holds_not cache texts place given here absent holds = let r = (holds place given here).1 in absent r.place r.text_is

pub found_all : (cache : CacheState) (texts : Texts) (numbers : List ℕ) (N : Type 0) (b : Bool) → length texts ≤ length numbers → MatchBool b (AreHeld cache numbers texts) N → MatchBool b (FoundAll cache numbers texts) N
found_all cache texts numbers N true long held = record {
  held = held;
  all = λ k text at. let lt = slice_get_within texts k text at in let n = slice_get-some numbers k (omega arith) in (n.0, held k n.0 text n.1 at);
}
found_all cache texts numbers N false long none = none

-- Naming

pub adds_more : (first old new : BookState) (texts : Texts) (text : List ℕ) (n place : ℕ) → slice_get texts place ≡ Some text → AddsAmong first old texts → Names old new text n → AddsAmong first new texts
adds_more first old new texts text n place at adds names = ⊎_elim
    (λ (known : (slice_get old.texts n ≡ Some text) × (new ≡ old)). subst (λ b. AddsAmong first b texts) (sym known.1) adds)
    (λ (added : IsNew old.texts text × (length old.texts < old.limit) × (n ≡ length old.texts) × (new.texts ≡ old.texts ++ text ∷ []) × (new.limit ≡ old.limit)). record {
      rest = adds.rest ++ text ∷ [];
      joins = added.3 ∙ (ap (λ l. l ++ text ∷ []) adds.joins ∙ append_assoc first.texts adds.rest (text ∷ []));
      among = All-push (Contains texts) adds.rest text adds.among (place, slice_get_within texts place text at, get_or_from_slice_get texts place text text at);
      limit = added.4 ∙ adds.limit;
    }) names

-- what stood in the book still stands there
pub names_keep : (old new : BookState) (text given : List ℕ) (n k : ℕ) → Names old new text n → slice_get old.texts k ≡ Some given → slice_get new.texts k ≡ Some given
names_keep old new text given n k names at = let more = names_rest old new text n names in ap (λ l. slice_get l k) more.1 ∙ slice_get-front old.texts more.0 k given at

module _ (old new : BookState) (texts : Texts) (numbers : List ℕ) (given : List ℕ) (m place : ℕ) (here : slice_get texts place ≡ Some given) (names : Names old new given m) where
  pub named_more : ((k n : ℕ) (text : List ℕ) → k < place → slice_get numbers k ≡ Some n → slice_get texts k ≡ Some text → slice_get old.texts n ≡ Some text)
      → (k n : ℕ) (text : List ℕ) → k < place + 1 → slice_get (slice_set numbers place m) k ≡ Some n → slice_get texts k ≡ Some text → slice_get new.texts n ≡ Some text
  named_more was k n text lt at there = ⊎_elim
      (λ (e : (k ≡ place) × (Some m ≡ Some n)). let n_is : m ≡ n = cc (e.1) in
      ap (slice_get new.texts) (sym n_is) ∙ (names_at old new given m names ∙ same_text texts place given text here (sym (ap (slice_get texts) e.0) ∙ there)))
      (λ (e : (k ≢ place) × (slice_get numbers k ≡ Some n)). let ne = e.0 in names_keep old new given text m n names (was k n text (omega arith) e.1 there))
      (slice_get-set numbers place k m n at)

  pub marked_more : ((k n : ℕ) (text : List ℕ) → place ≤ k → slice_get numbers k ≡ Some n → slice_get texts k ≡ Some text → n ≢ UNKNOWN → slice_get old.texts n ≡ Some text)
      → (k n : ℕ) (text : List ℕ) → place + 1 ≤ k → slice_get (slice_set numbers place m) k ≡ Some n → slice_get texts k ≡ Some text → n ≢ UNKNOWN → slice_get new.texts n ≡ Some text
  marked_more was k n text le at there real = ⊎_elim
      (λ (e : (k ≡ place) × (Some m ≡ Some n)). let same = e.0 in absurd (omega arith))
      (λ (e : (k ≢ place) × (slice_get numbers k ≡ Some n)). names_keep old new given text m n names (was k n text (omega arith) e.1 there real))
      (slice_get-set numbers place k m n at)

-- numbers for all of the texts
pub all_numbers : (seen : Texts) (numbers : List ℕ) (texts : Texts) → length numbers ≡ length texts → ((k n : ℕ) (text : List ℕ) → slice_get numbers k ≡ Some n → slice_get texts k ≡ Some text → slice_get seen n ≡ Some text) → AreNumbers seen numbers texts
all_numbers seen [] [] long at = tt
all_numbers seen [] (t ∷ ts) long at = absurd (omega arith)
all_numbers seen (n ∷ ns) [] long at = absurd (omega arith)
all_numbers seen (n ∷ ns) (t ∷ ts) long at = (at 0 n t refl refl, all_numbers seen ns ts (omega arith) (λ k m u a b. at (suc k) m u a b))

pub front_keeps : (old new : CacheState) (texts : Texts) (place : ℕ) → Keeps old new → HoldsFront old texts place → HoldsFront new texts place
front_keeps old new texts place keeps front k text lt at = let held = front k text lt at in (held.0, keeps text held.0 held.1)

-- One turn

pub all_among : (P : List ℕ → Type 0) (texts rest : Texts) → All P texts → All (Contains texts) rest → All P rest
all_among P texts rest all among k d lt = let c = among k d lt in subst P c.2 (all c.0 (slice_index_or rest k d) c.1)

pub prefix_at : {A : Type 0} (xs ys : List A) (k : ℕ) (x : A) → IsPrefix xs ys → slice_get xs k ≡ Some x → slice_get ys k ≡ Some x
prefix_at xs ys k x p at = ap (λ l. slice_get l k) (sym p.1) ∙ slice_get-front xs p.0 k x at

pub seen_on : (cache : CacheState) (old new : Texts) → IsPrefix old new → IsSeen cache old → IsSeen cache new
seen_on cache old new front was text n r = prefix_at old new n text front (was text n r)

pub ok_numbers : (r : Result (Unit {0}) BookRefusal) (seen : Texts) (numbers : List ℕ) (texts : Texts) → OnOk r (length numbers ≡ length texts) → NamesFront seen numbers texts → OnOk r (AreNumbers seen numbers texts)
ok_numbers (Ok u) seen numbers texts long names = all_numbers seen numbers texts long names.at
ok_numbers (Err e) seen numbers texts long names = tt

pub ok_held : (r : Result (Unit {0}) BookRefusal) (cache : CacheState) (numbers : List ℕ) (texts : Texts) → OnOk r (length numbers ≡ length texts) → HoldsFront cache texts (length numbers) → OnOk r (HoldsAll cache texts)
ok_held (Ok u) cache numbers texts long front = λ k text at. let lt = slice_get_within texts k text at in front k text (omega arith) at
ok_held (Err e) cache numbers texts long front = tt

pub not_err : {E : Type 0} (r : Result (Unit {0}) E) (P : Type 0) → is_err r ≡ false → OnOk r P → P
not_err (Ok u) P no_err p = p
not_err (Err e) P no_err p = absurd (cc (no_err))

-- where no turn was taken
pub names_nothing : (p : BookPass) (texts : Texts) → IsReady p → NamesMore p p texts
names_nothing p texts ready = record {
  goes_on = record { still = record { lock = refl; number = refl; about_is = refl }; ready = ready; seen_on = ([], append-nil (seen p)) };
  before = seen p;
  rest = [];
  front = ([], append-nil (seen p));
  joins = sym (append-nil (seen p));
  among = λ k d lt. absurd (omega arith);
  own = sym (append-nil (own_list p));
}

-- A list of one text

pub holds_one : (cache : CacheState) (text : List ℕ) (n : ℕ) → Remembers cache text n → HoldsAll cache (text ∷ [])
holds_one cache text n r zero t at = let same : text ≡ t = cc (at) in (n, subst (λ u. Remembers cache u n) same r)
holds_one cache text n r (suc k) t at = absurd (none-some t at)

pub one_number : (known : Texts) (numbers : List ℕ) (text : List ℕ) → AreNumbers known numbers (text ∷ []) → (0 < length numbers) × (slice_get known (slice_index numbers 0) ≡ Some text)
one_number known [] text are = absurd are
one_number known (n ∷ []) text are = (omega arith, are.0)
one_number known (n ∷ m ∷ ns) text are = absurd are.1

pub all_one : (P : List ℕ → Type 0) (text : List ℕ) → P text → All P (text ∷ [])
all_one P text p zero d lt = p
all_one P text p (suc k) d lt = absurd (omega arith)

-- A cache that grows

pub grows_none : (c : CacheState) (texts : Texts) → Grows c c texts
grows_none c texts = record {
  more = [];
  behind = sym (append-nil c.texts);
  among = λ k d lt. absurd (omega arith);
  same = λ _. refl;
  distinct = λ was. was;
  even = λ was. was;
}

push_not_nil : {A : Type 0} (xs : List A) (x : A) → xs ++ x ∷ [] ≡ [] → ⊥
push_not_nil [] x same = absurd (cc (same))
push_not_nil (y ∷ ys) x same = absurd (cc (same))

pub grows_more : (first old new : CacheState) (texts : Texts) (text : List ℕ) (place : ℕ) → slice_get texts place ≡ Some text → Grows first old texts → GrowsBy old new text → Grows first new texts
grows_more first old new texts text place at grows by = ⊎_elim
    (λ (same : new ≡ old). subst (λ c. Grows first c texts) (sym same) grows)
    (λ (more : IsNew old.texts text × (new.texts ≡ old.texts ++ text ∷ []) × (length new.numbers ≡ length old.numbers + 1)). record {
      more = grows.more ++ text ∷ [];
      behind = more.1 ∙ (ap (λ l. l ++ text ∷ []) grows.behind ∙ append_assoc first.texts grows.more (text ∷ []));
      among = All-push (Contains texts) grows.more text grows.among (place, slice_get_within texts place text at, get_or_from_slice_get texts place text text at);
      same = λ none. absurd (push_not_nil grows.more text none);
      distinct = λ was. grows_distinct old new text by (grows.distinct was);
      even = λ was. grows_even old new text by (grows.even was);
    }) by

some_more : (old new : CacheState) (texts : Texts) (more : Texts) → (more ≡ [] → new ≡ old) → ¬ HoldsAll old texts → HoldsAll new texts → 0 < length more
some_more old new texts [] same unknown held = absurd (unknown (subst (λ c. HoldsAll c texts) (same refl) held))
some_more old new texts (t ∷ ts) same unknown held = omega arith

few_turns : (r : Result (Unit {0}) BookRefusal) (old new : CacheState) (texts more : Texts) (turns now : ℕ) → (more ≡ [] → new ≡ old) → ¬ HoldsAll old texts → now ≡ turns + 1
    → OnOk r (HoldsAll new texts) → IsOk r → now ≤ turns + length more
few_turns (Ok u) old new texts more turns now same unknown one held is = let some = some_more old new texts more same unknown held in omega arith
few_turns (Err e) old new texts more turns now same unknown one held is = absurd (cc (is))

-- where a turn was taken since not all was known
pub learns_in_turn : (r : Result (Unit {0}) BookRefusal) (old new : CacheState) (texts : Texts) (turns now : ℕ) → Grows old new texts → ¬ HoldsAll old texts → now ≡ turns + 1
    → OnOk r (HoldsAll new texts) → Learns (IsOk r) old new texts turns now
learns_in_turn r old new texts turns now grows unknown one held = record {
  more = grows.more;
  behind = grows.behind;
  among = grows.among;
  few = few_turns r old new texts grows.more turns now grows.same unknown one held;
}

-- where none was taken
pub learns_nothing : (answered : Type 0) (c : CacheState) (texts : Texts) (turns : ℕ) → Learns answered c c texts turns turns
learns_nothing answered c texts turns = record {
  more = [];
  behind = sym (append-nil c.texts);
  among = λ k d lt. absurd (omega arith);
  few = λ _. omega arith;
}
