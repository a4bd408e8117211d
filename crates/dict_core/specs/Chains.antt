-- The index over a list of texts: chains of the texts with one hash.
use Rattle.std.specs.Prelude.{◌≡◌, ℕ, zero, suc, ◌<◌, ◌≤◌, ◌==◌, if◌then◌else◌, nat_eq, unwrap_or, List, map, length, slice_index}
use Rattle.indexmap.specs.IndexMap.{IndexMap, get}
use Rattle.plain_list.specs.Texts.{AreDistinct}
use Rattle.dict_core.specs.declared.texts.TheConstants.{MAX_TEXTS}

-- the hash of a text, by a copy of a hasher that was fed nothing
abbrev pub hash_by : {H : Type 0} → (H → List ℕ → H) → (H → ℕ) → H → List ℕ → ℕ
hash_by write finish hasher text = finish (write hasher text)

-- the place that a map has at a hash, 0 where it has none
abbrev pub place_at : {S : Type 0} → IndexMap ℕ ℕ S → ℕ → ℕ
place_at m h = unwrap_or (get nat_eq m h) 0

-- the second map has the place at the hash, and at each other hash what the first has
abbrev pub Puts : {S : Type 0} → IndexMap ℕ ℕ S → IndexMap ℕ ℕ S → ℕ → ℕ → Type 0
Puts old new hash place = (h : ℕ) → place_at new h ≡ (if h == hash then place else place_at old h)

-- the place of the last of the first `count` texts that has the hash h; a place is a number plus one, and 0 is none
abbrev pub latest : List ℕ → ℕ → ℕ → ℕ
latest hashes h zero = 0
latest hashes h (suc count) = if slice_index hashes count == h then suc count else latest hashes h count

-- each hash leads to the newest text with it, and each text to the one before it with its hash
pub record IsChained (hashes befores : List ℕ) (newest : ℕ → ℕ) : Type 0 where
  pub long : length befores ≡ length hashes
  pub newest_are : (h : ℕ) → newest h ≡ latest hashes h (length hashes)
  pub befores_are : (j : ℕ) → j < length hashes → slice_index befores j ≡ latest hashes (slice_index hashes j) j

-- the places from one on, each the one before its text
pub data InChain (befores : List ℕ) : ℕ → ℕ → Type 0 where
  here : (place : ℕ) → InChain befores place place
  there : (number place : ℕ) → InChain befores (slice_index befores number) place → InChain befores (suc number) place

-- what a book keeps
pub record IsBook (hash : List ℕ → ℕ) (texts : List (List ℕ)) (befores : List ℕ) (newest : ℕ → ℕ) (limit : ℕ) : Type 0 where
  pub chained : IsChained (map hash texts) befores newest
  pub distinct : AreDistinct texts
  pub within : length texts ≤ limit
  pub most : limit ≤ MAX_TEXTS
