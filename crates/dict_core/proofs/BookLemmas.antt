-- What a book keeps: look-ups are exact, and one text more.
use Rattle.std.proofs.Common.{◌≡◌, ◌≢◌, ◌⊎◌, ⊎_elim, inl, inr, ℕ, zero, suc, nat_eq, unwrap_or, ◌+◌, ◌<◌, ◌≤◌, ◌==◌, if◌then◌else◌, List, [], ◌∷◌, ◌++◌, length, map, take, ◌-◌, refl, sym, ap, subst, ◌∙◌, arith, Some, slice_get, slice_index}
use Rattle.std.proofs.lemmas.List.{length_push, length-map, get_or-map, map_push, take-map, length-take}
use Rattle.std.proofs.lemmas.Option.{slice_get_within, get_or_from_slice_get, same_Some, none-some}
use Rattle.plain_list.specs.Texts.{AreDistinct, IsNew}
use Rattle.std.specs.Map.{lookup}
use Rattle.indexmap.specs.IndexMap.{IndexMap, IsUnchanged}
use Rattle.dict_core.specs.Chains.{latest, place_at, IsChained, InChain, IsBook}
use Rattle.dict_core.proofs.ChainLemmas.{latest_low, in_chain, chained_more, latest_last, chained_less}

-- there is a link for each text
pub chained_long : (hash : List ℕ → ℕ) (texts : List (List ℕ)) {befores : List ℕ} {newest : ℕ → ℕ} → IsChained (map hash texts) befores newest → length befores ≡ length texts
chained_long hash texts c = c.long ∙ length-map texts hash

pub book_long : {hash : List ℕ → ℕ} {texts : List (List ℕ)} {befores : List ℕ} {newest : ℕ → ℕ} {limit : ℕ} → IsBook hash texts befores newest limit → length befores ≡ length texts
book_long {hash} {texts} b = b.chained.long ∙ length-map texts hash

-- a link leads back
pub chained_back : (hash : List ℕ → ℕ) (texts : List (List ℕ)) {befores : List ℕ} {newest : ℕ → ℕ} → IsChained (map hash texts) befores newest →
    (j : ℕ) → j < length befores → slice_index befores j ≤ j
chained_back hash texts c j l =
    let hashes = map hash texts in
    omega (arith, c.befores_are j (omega (arith, l, c.long)), latest_low hashes (slice_index hashes j) j)

pub book_back : {hash : List ℕ → ℕ} {texts : List (List ℕ)} {befores : List ℕ} {newest : ℕ → ℕ} {limit : ℕ} → IsBook hash texts befores newest limit →
    (j : ℕ) → j < length befores → slice_index befores j ≤ j
book_back {hash} {texts} b = chained_back hash texts b.chained

-- the newest text is one of the texts
pub chained_newest : (hash : List ℕ → ℕ) (texts : List (List ℕ)) {befores : List ℕ} {newest : ℕ → ℕ} → IsChained (map hash texts) befores newest →
    (h : ℕ) → newest h ≤ length befores
chained_newest hash texts c h =
    let hashes = map hash texts in omega (arith, c.newest_are h, latest_low hashes h (length hashes), c.long)

pub book_newest : {hash : List ℕ → ℕ} {texts : List (List ℕ)} {befores : List ℕ} {newest : ℕ → ℕ} {limit : ℕ} → IsBook hash texts befores newest limit →
    (h : ℕ) → newest h ≤ length befores
book_newest {hash} {texts} b = chained_newest hash texts b.chained

-- a text that is not in the chain of its hash is new
pub chained_new : (hash : List ℕ → ℕ) (texts : List (List ℕ)) {befores : List ℕ} {newest : ℕ → ℕ} → IsChained (map hash texts) befores newest →
    (text : List ℕ) (place : ℕ) → place ≡ newest (hash text) → ((k : ℕ) → InChain befores place (suc k) → slice_get texts k ≢ Some text) → IsNew texts text
chained_new hash texts {befores} c text place is absent k found =
    let hashes = map hash texts in
    let below : k < length texts = slice_get_within texts k text found in
    let hashed : slice_index hashes k ≡ hash text = get_or-map hash texts k text 0 below ∙ ap hash (get_or_from_slice_get texts k text text found) in
    let chain = in_chain hashes (hash text) k (length hashes) c.befores_are (omega arith) (omega (arith, below, length-map texts hash)) hashed in
    absent k (subst (λ p. InChain befores p (suc k)) (sym (is ∙ c.newest_are (hash text))) chain) found

pub book_new : {hash : List ℕ → ℕ} {texts : List (List ℕ)} {befores : List ℕ} {newest : ℕ → ℕ} {limit : ℕ} → IsBook hash texts befores newest limit →
    (text : List ℕ) (place : ℕ) → place ≡ newest (hash text) → ((k : ℕ) → InChain befores place (suc k) → slice_get texts k ≢ Some text) → IsNew texts text
book_new {hash} {texts} b = chained_new hash texts b.chained

-- an element of a list with one more at the end is that one or an old one
last_or_old : (texts : List (List ℕ)) (text found : List ℕ) (k : ℕ) → slice_get (texts ++ text ∷ []) k ≡ Some found → ((k ≡ length texts) × (found ≡ text)) ⊎ (slice_get texts k ≡ Some found)
last_or_old [] text found zero h = inl (refl, sym (same_Some text found h))
last_or_old [] text found (suc k) h = absurd (none-some found h)
last_or_old (t ∷ texts) text found zero h = inr h
last_or_old (t ∷ texts) text found (suc k) h = ⊎_elim (λ l. inl (ap suc l.0, l.1)) (λ r. inr r) (last_or_old texts text found k h)

-- a new text keeps the texts distinct
pub distinct_more : (texts : List (List ℕ)) (text : List ℕ) → AreDistinct texts → IsNew texts text → AreDistinct (texts ++ text ∷ [])
distinct_more texts text apart new i j found at_i at_j = ⊎_elim
    (λ a. ⊎_elim (λ b. a.0 ∙ sym b.0) (λ old. absurd (new j (old ∙ ap (λ t. Some t) a.1))) (last_or_old texts text found j at_j))
    (λ old. ⊎_elim (λ b. absurd (new i (old ∙ ap (λ t. Some t) b.1))) (λ older. apart i j found old older) (last_or_old texts text found j at_j))
    (last_or_old texts text found i at_i)

-- one text more
pub book_more : {hash : List ℕ → ℕ} {texts : List (List ℕ)} {befores : List ℕ} {newest : ℕ → ℕ} {limit : ℕ} → IsBook hash texts befores newest limit →
    (text : List ℕ) (h : ℕ) (befores' : List ℕ) (newest' : ℕ → ℕ) → h ≡ hash text → IsNew texts text → length texts < limit →
    ((g : ℕ) → newest' g ≡ (if g == h then length befores + 1 else newest g)) → befores' ≡ befores ++ newest h ∷ [] → IsBook hash (texts ++ text ∷ []) befores' newest' limit
book_more {hash} {texts} {befores} {newest} {limit} b text h befores' newest' is new room updates linked = record {
  chained = subst (λ bs. IsChained (map hash (texts ++ text ∷ [])) bs newest') (sym linked)
      (subst (λ hs. IsChained hs (befores ++ newest h ∷ []) newest') (ap (λ g. map hash texts ++ g ∷ []) is ∙ sym (map_push hash texts text)) (chained_more h b.chained updates));
  distinct = distinct_more texts text b.distinct new;
  within = omega (arith, room, length_push texts text);
  most = b.most;
}

-- a map that has the same entries has the same places
pub same_places : {S : Type 0} (old new : IndexMap ℕ ℕ S) → IsUnchanged old new → (h : ℕ) → place_at new h ≡ place_at old h
same_places old new unchanged h = ap (λ es. unwrap_or (lookup (nat_eq h) es) 0) unchanged

-- what stands among the first texts stands there
pub taken : (texts : List (List ℕ)) (text : List ℕ) (n k : ℕ) → slice_get (take n texts) k ≡ Some text → slice_get texts k ≡ Some text
taken texts text zero k h = absurd (none-some text h)
taken [] text (suc n) k h = absurd (none-some text h)
taken (t ∷ texts) text (suc n) zero h = h
taken (t ∷ texts) text (suc n) (suc k) h = taken texts text n k h

-- the last text is the newest with its hash
pub book_last : {hash : List ℕ → ℕ} {texts : List (List ℕ)} {befores : List ℕ} {newest : ℕ → ℕ} {limit : ℕ} → IsBook hash texts befores newest limit →
    (n : ℕ) (text : List ℕ) → length texts ≡ suc n → slice_get texts n ≡ Some text → slice_index (map hash texts) n ≡ hash text
book_last {hash} {texts} b n text count found =
    get_or-map hash texts n text 0 (omega (arith, count)) ∙ ap hash (get_or_from_slice_get texts n text text found)

pub book_place : {hash : List ℕ → ℕ} {texts : List (List ℕ)} {befores : List ℕ} {newest : ℕ → ℕ} {limit : ℕ} → IsBook hash texts befores newest limit →
    (n : ℕ) (text : List ℕ) → length texts ≡ suc n → slice_get texts n ≡ Some text → newest (hash text) ≡ length befores
book_place {hash} {texts} {befores} {newest} b n text count found =
    let hashes = map hash texts in
    let long : length hashes ≡ suc n = length-map texts hash ∙ count in
    ap newest (sym (book_last b n text count found)) ∙ b.chained.newest_are (slice_index hashes n) ∙ ap (latest hashes (slice_index hashes n)) long ∙ latest_last hashes n
    ∙ sym long ∙ sym b.chained.long

-- one text less
pub book_less : {hash : List ℕ → ℕ} {texts : List (List ℕ)} {befores : List ℕ} {newest : ℕ → ℕ} {limit : ℕ} → IsBook hash texts befores newest limit →
    (n : ℕ) (text : List ℕ) (h : ℕ) (befores' : List ℕ) (newest' : ℕ → ℕ) → length texts ≡ suc n → slice_get texts n ≡ Some text → h ≡ hash text →
    ((g : ℕ) → newest' g ≡ (if g == h then slice_index befores (length befores - 1) else newest g)) → befores' ≡ take (length befores - 1) befores → IsBook hash (take n texts) befores' newest' limit
book_less {hash} {texts} {befores} {newest} {limit} b n text h befores' newest' count found is updates linked =
    let hashes = map hash texts in
    let last : length befores - 1 ≡ n = omega (arith, book_long b, count) in
    let same : h ≡ slice_index hashes n = is ∙ sym (book_last b n text count found) in
    let news : (g : ℕ) → newest' g ≡ (if g == slice_index hashes n then slice_index befores n else newest g) = λ g. updates g ∙ (λ i. if g == same i then slice_index befores (last i) else newest g) in
    let chained = chained_less n b.chained (length-map texts hash ∙ count) news in
    record {
      chained = subst (λ bs. IsChained (map hash (take n texts)) bs newest') (sym (linked ∙ ap (λ m. take m befores) last))
          (subst (λ hs. IsChained hs (take n befores) newest') (take-map hash n texts) chained);
      distinct = λ i j t at_i at_j. b.distinct i j t (taken texts t n i at_i) (taken texts t n j at_j);
      within = omega (arith, b.within, length-take n texts);
      most = b.most;
    }
