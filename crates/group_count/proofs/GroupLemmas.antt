-- From a tally of keys to their groups.
use Rattle.std.proofs.Common.{◌≡◌, ◌<◌, ◌∷◌, ◌++◌, append_assoc, ℕ, zero, suc, Bool, List, [], map, cond, Some, IsSome, slice_get, get_or, arith, rules, refl, ap, sym, subst, ◌∙◌}
use Rattle.std.specs.BTreeMap.{BTreeMap, IsOrdered}
use Rattle.std.specs.Cmp.{IsTotalOrder}
use Rattle.std.specs.List.{AllByRecursion}
use Rattle.std.specs.List.Sorted.{IsStrictlySortedBy}
use Rattle.std.specs.Map.{keys_of, lookup}
use Rattle.std.specs.declared.cmp.Ordering.{Ordering}
use Rattle.std.specs.declared.cmp.Ordering.TheVariants.{Less}
use Rattle.std.specs.Ordering.{is_eq}
use Rattle.std.proofs.lemmas.Cmp.{on_total, tied_itself}
use Rattle.std.proofs.lemmas.List.Elements.{All-map}
use Rattle.std.proofs.lemmas.List.{map-append}
use Rattle.std.proofs.lemmas.Option.{slice_get-get_or}
use Rattle.std.proofs.lemmas.Map.Entries.{btree_map_get_place}
use Rattle.search_meaning.specs.Groups.{AreGroups, how_often}
use Rattle.group_count.specs.Tables.{IsTally, some_of}
use Rattle.group_count.proofs.CountLemmas.{count_some}

some_is : (n v : ℕ) → Some v ≡ some_of n → (0 < v) × (v ≡ n)
some_is zero v e = cc
some_is (suc n) v e = let same : v ≡ suc n = cc in (omega arith, same)

is_some_of : (n : ℕ) → 0 < n → IsSome (some_of n)
is_some_of zero h = absurd (omega arith)
is_some_of (suc n) h = search rules

module _ {J K : Type 0} (R : K → K → Ordering) (f : J → K) where
  -- the entries with what f reads of their keys
  abbrev pub shown : List (J × ℕ) → List (K × ℕ)
  shown entries = map (λ (e : J × ℕ). (f e.0, e.1)) entries

  rising_rest : (k : J) (es : List (J × ℕ)) → AllByRecursion (λ y. R (f k) (f y) ≡ Less) (keys_of es) → AllByRecursion (λ y. R (f k) y ≡ Less) (keys_of (shown es))
  rising_rest k [] h = h
  rising_rest k (e ∷ es) h = (h.0, rising_rest k es h.1)

  rising : (es : List (J × ℕ)) → IsStrictlySortedBy (λ x y. R (f x) (f y)) (keys_of es) → IsStrictlySortedBy R (keys_of (shown es))
  unfolding IsStrictlySortedBy
  rising [] h = h
  rising (e ∷ es) h = (rising_rest e.0 es h.0, rising es h.1)

  lookup_shown : (test : K → Bool) (es : List (J × ℕ)) → lookup test (shown es) ≡ lookup (λ j. test (f j)) es
  lookup_shown test [] = refl
  lookup_shown test (e ∷ es) = ap (cond (test (f e.0)) (Some e.1)) (lookup_shown test es)

  -- the entries of a map in order are the groups of the keys that it has the tally of
  pub tally_groups : IsTotalOrder R → (g : K → J) → ((k : K) → f (g k) ≡ k) → (keys : List K) (m : BTreeMap J ℕ)
      → IsTally (λ x y. R (f x) (f y)) m (λ j. how_often R (f j) keys) → IsOrdered (λ x y. R (f x) (f y)) m → AreGroups R keys (shown m.entries)
  tally_groups o g back keys m tally ordered = record {
    rise = rising m.entries ordered;
    each =
        All-map (λ (g : K × ℕ). (0 < g.1) × (g.1 ≡ how_often R g.0 keys)) (λ (e : J × ℕ). (f e.0, e.1)) m.entries
        (λ i d below.
        let e = get_or m.entries i d in
        let there : slice_get m.entries i ≡ Some e = slice_get-get_or m.entries i d below in
        let found = btree_map_get_place (on_total f o) m i e.0 e.1 ordered there in
        some_is _ _ (sym found ∙ tally e.0));
    all = λ key contains.
        let found : lookup (λ j. is_eq (R (f (g key)) (f j))) m.entries ≡ some_of (how_often R (f (g key)) keys) = tally (g key) in
        let there : lookup (λ j. is_eq (R key (f j))) m.entries ≡ some_of (how_often R key keys) =
        subst (λ (k : K). lookup (λ j. is_eq (R k (f j))) m.entries ≡ some_of (how_often R k keys)) (back key) found in
        let some = is_some_of (how_often R key keys) (count_some (λ k. is_eq (R k key)) keys key contains (ap is_eq (tied_itself o key))) in
        subst IsSome (sym (lookup_shown (λ k. is_eq (R key k)) m.entries ∙ there)) some;
  }

-- one more entry of a map, which is the next of those that are left
pub entry_more : {E G Y : Type 0} (f : E → Y) (h : G → Y) (gs new : List G) (g : G) (rest after all : List E) (e : E)
    → new ≡ gs ++ g ∷ [] → rest ≡ e ∷ after → h g ≡ f e → map h gs ++ map f rest ≡ map f all → map h new ++ map f after ≡ map f all
entry_more f h gs new g rest after all e pushed left same whole =
    rw (pushed, map-append h gs (g ∷ []), append_assoc, same) (ap (λ es. map h gs ++ map f es) (sym left) ∙ whole)
