-- What naming texts through a pass with a cache is to a namer.
use Rattle.std.proofs.Common.{◌≡◌, ℕ, zero, suc, ◌<◌, ◌≤◌, None, List, [], ◌∷◌, ◌++◌, length, map, refl, sym, ap, ◌∙◌, subst, Some, slice_get, All, arith, append-nil, ◌+◌}
use Rattle.std.specs.List.{Contains}
use Rattle.std.proofs.lemmas.Option.{slice_get_within, get_or_from_slice_get}
use Rattle.std.proofs.lemmas.List.{map-append}
use Rattle.std.proofs.lemmas.List.Elements.{All-nil, All-cons, All-weaker, All-head}
use Rattle.turn_lock.proofs.FrontLemmas.{prefix_length}
use Rattle.logtype_text.specs.Fair.{IsFairType, IsFairWord}
use Rattle.turn_lock.specs.History.{places}
use Rattle.turn_lock.specs.Words.{seen, own_list, about}
use Rattle.plain_list.specs.Texts.{IsNew}
use Rattle.dict_core.specs.Fair.{IsFair}
use Rattle.dict_core.specs.declared.grows.TheConstants.{WORDS_FIRST}
use Rattle.dict_lock.specs.Shared.{BookPass, OwnsBehind}
use Rattle.dict_lock.specs.Cache.{CacheState, IsEven, IsSeen}
use Rattle.dict_lock.specs.Naming.{Learns, NamesMore, MeetsLimit}
use Rattle.dict_lock.proofs.CacheLemmas.{not_held}
use Rattle.dict_lock.proofs.SharedLemmas.{some_about}
use Rattle.row_codec.specs.declared.namer.NameRefusal.{NameRefusal}
use Rattle.row_codec.specs.declared.namer.NameRefusal.TheVariants.{Full, OutOfMemory}
use Rattle.row_codec.specs.declared.namer.Which.{Which}
use Rattle.row_codec.specs.Naming.{HasGrown, MetLimit}
use Rattle.disk_seal.specs.Known.{known_of, limit_in}
use Rattle.disk_seal.specs.Naming.{Named, TookTurns}

abbrev Texts : Type 0
Texts = List (List ℕ)

abbrev text_in : ℕ × List ℕ → List ℕ
text_in x = x.1

-- which texts the passes may add

pub fair_type : (n : ℕ) (t : List ℕ) → n < WORDS_FIRST → IsFairType t → IsFair n t
fair_type n t low fair = record { type = λ _. fair; word = λ high. absurd (omega arith); other = λ same. absurd (omega arith) }

pub fair_word : (n : ℕ) (t : List ℕ) → WORDS_FIRST < n → IsFairWord t → IsFair n t
fair_word n t high fair = record { type = λ low. absurd (omega arith); word = λ _. fair; other = λ same. absurd (omega arith) }

-- ---- what is known grows

texts_placed : (k : ℕ) (es : Texts) → map text_in (places k es) ≡ es
texts_placed k [] = refl
texts_placed k (e ∷ es) = ap (λ l. e ∷ l) (texts_placed (k + 1) es)

pub grown : (P : List ℕ → Type 0) (texts : Texts) (old new : BookPass) → ((t : List ℕ) → Contains texts t → P t) → NamesMore old new texts → HasGrown P (known_of old) (known_of new)
grown P texts old new all names = record {
  limit = ap limit_in names.goes_on.still.about_is;
  front = names.goes_on.seen_on;
  more = names.rest;
  added = ap (map text_in) names.own ∙ (map-append text_in (own_list old) (places (length names.before) names.rest)
      ∙ ap (λ l. map text_in (own_list old) ++ l) (texts_placed (length names.before) names.rest));
  allowed = All-weaker (Contains texts) P all names.rest names.among;
}

places_behind : (k low : ℕ) (es : Texts) → low ≤ k → All (λ x. low ≤ x.0) (places k es)
places_behind k low [] le = All-nil (λ (x : ℕ × List ℕ). low ≤ x.0)
places_behind k low (e ∷ es) le = All-cons (λ (x : ℕ × List ℕ). low ≤ x.0) (k, e) (places (k + 1) es) le (places_behind (k + 1) low es (omega arith))

pub owns_behind : (texts : Texts) (old new : BookPass) → NamesMore old new texts → OwnsBehind old new
owns_behind texts old new names = record {
  more = places (length names.before) names.rest;
  is = names.own;
  behind = places_behind (length names.before) (length (seen old)) names.rest (prefix_length (seen old) names.before names.front);
}

-- the one text
only_one : (t u : List ℕ) → Contains (t ∷ []) u → u ≡ t
only_one t u (zero, inside, is) = sym is
only_one t u (suc k, inside, is) = absurd (omega (arith, inside))

pub grown_one : (t : List ℕ) (old new : BookPass) → NamesMore old new (t ∷ []) → HasGrown (λ u. u ≡ t) (known_of old) (known_of new)
grown_one t old new names = grown (λ u. u ≡ t) (t ∷ []) old new (only_one t) names

-- ---- a limit is met

pub met : (p : BookPass) (cache : CacheState) (texts : Texts) (count : ℕ) → IsSeen cache (seen p) → MeetsLimit p cache texts count → MetLimit (known_of p) texts count
met p cache texts count there m =
    let a = some_about (about p) p.known in record {
      at = m.at;
      text = m.text;
      here = m.given;
      new = m.absent;
      before = λ k t low here. let held = m.before k t low here in (held.0, there t held.0 held.1);
      all = m.full.all;
      most = m.full.limit a.0 a.1 ∙ sym (ap limit_in a.1);
    }

slice_get-behind : (xs : Texts) (y : List ℕ) (ys : Texts) → slice_get (xs ++ y ∷ ys) (length xs) ≡ Some y
slice_get-behind [] y ys = refl
slice_get-behind (x ∷ xs) y ys = slice_get-behind xs y ys

nothing : (t : List ℕ) (before rest : Texts) → All (Contains (t ∷ [])) rest → IsNew (before ++ rest) t → rest ≡ []
nothing t before [] among absent = refl
nothing t before (r ∷ rs) among absent =
    absurd (absent (length before) (slice_get-behind before r rs ∙ ap (λ u. Some u) (only_one t r (All-head (Contains (t ∷ [])) r rs among))))

the_text : (t u : List ℕ) (k : ℕ) → slice_get (t ∷ []) k ≡ Some u → t ≡ u
the_text t u zero at = cc (at)
the_text t u (suc k) at = absurd (cc (at))

-- what is refused is not added
pub none_added : (t : List ℕ) (old new : BookPass) (cache : CacheState) (count : ℕ) → NamesMore old new (t ∷ []) → MeetsLimit new cache (t ∷ []) count
    → (known_of new).added ≡ (known_of old).added
none_added t old new cache count names m =
    let grows = grown_one t old new names in
    let absent : IsNew (seen new) t = subst (λ u. IsNew (seen new) u) (sym (the_text t m.text m.at m.given)) m.absent in
    let none : names.rest ≡ [] = nothing t names.before names.rest names.among (subst (λ l. IsNew l t) names.joins absent) in
    ap (map text_in) (names.own ∙ (ap (λ l. own_list old ++ places (length names.before) l) none ∙ append-nil (own_list old)))

-- ---- turns

module _ (old new : CacheState) (texts : Texts) (turns now : ℕ) where
  -- all of the texts were named
  pub named_all : (answered : Type 0) → answered → Learns answered old new texts turns now
      → Named texts None (record { held = old.texts; turns = turns }) (record { held = new.texts; turns = now })
  named_all answered there l = record { more = l.more; behind = l.behind; among = l.among; took = l.few there }

  -- one of them was refused
  took_one : (refusal : NameRefusal) (more : Texts) → now ≤ turns + 1
      → ((book : Which) (count : ℕ) → refusal ≡ Full book count → (t : List ℕ) × Contains texts t × IsNew new.texts t)
      → TookTurns texts (Some refusal) more (record { held = old.texts; turns = turns }) (record { held = new.texts; turns = now })
  took_one (Full book count) more once full = (omega (arith, once), full book count refl)
  took_one OutOfMemory more once full = omega (arith, once)

  pub named_some : (answered : Type 0) (refusal : NameRefusal) → now ≤ turns + 1
      → ((book : Which) (count : ℕ) → refusal ≡ Full book count → (t : List ℕ) × Contains texts t × IsNew new.texts t)
      → Learns answered old new texts turns now
      → Named texts (Some refusal) (record { held = old.texts; turns = turns }) (record { held = new.texts; turns = now })
  named_some answered refusal once full l = record { more = l.more; behind = l.behind; among = l.among; took = took_one refusal l.more once full }

-- a text at which a limit is met is not held
pub unheld : (p : BookPass) (cache : CacheState) (texts : Texts) (count : ℕ) → IsEven cache → IsSeen cache (seen p) → MeetsLimit p cache texts count
    → (t : List ℕ) × Contains texts t × IsNew cache.texts t
unheld p cache texts count even there m = (
  m.text,
  (m.at, slice_get_within texts m.at m.text m.given, get_or_from_slice_get texts m.at m.text m.text m.given),
  not_held cache (seen p) m.text even there m.absent,
)
