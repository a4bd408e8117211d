-- What is picked of a history's entries, and of an own list.
use Rattle.std.proofs.Common.{◌≡◌, ◌≢◌, ℕ, zero, suc, ◌+◌, ◌-◌, ◌<◌, ◌≤◌, Bool, true, false, cond, List, [], ◌∷◌, drop, sym, refl, ap, ◌∙◌, subst, ⊎_elim, arith, Option, Some, None, slice_get}
use Rattle.std.specs.List.{filter_map, cons_option}
use Rattle.std.proofs.lemmas.Bool.{cases_lt}
use Rattle.std.proofs.lemmas.Option.{slice_get_within, get_or_from_slice_get}
use Rattle.turn_lock.specs.declared.grows.Grows.{Ghosts}
use Rattle.turn_lock.specs.declared.board.About.{About}
use Rattle.turn_lock.specs.declared.maker.Maker.{Maker}
use Rattle.turn_lock.specs.declared.pass.Pass.{Pass}
use Rattle.turn_lock.specs.History.{Mark, entries_of, is_number, own_from, Has, StandsIn}
use Rattle.turn_lock.specs.Words.{seen_by, ended_by, own_by, about_by, IsAllOwned}
use Rattle.turn_lock.proofs.OwnLemmas.{own_only}
use Rattle.ingest_fork.specs.Passes.{IsOneOf, Joined}
use Rattle.ingest_fork.specs.Picked.{IsPast, entries_in, AddsAlone, AddedByOne, NoneAdded}

module _ {E B : Type 0} (f : E → Option B) where
  -- the own list has no place before the start
  abbrev Late : ℕ → List (ℕ × E) → Type 0
  Late start list = (j : ℕ) (e : E) → StandsIn list j e → start ≤ j

  -- the own list has what is picked from the start on, of entries that begin at the place k
  abbrev HasPicked : ℕ → ℕ → List E → List (ℕ × E) → Type 0
  HasPicked start k es list = (j : ℕ) (e : E) → start ≤ k + j → slice_get es j ≡ Some e → f e ≢ None → StandsIn list (k + j) e

  not_here : (k : ℕ) (x : E) (list : List (ℕ × E)) (j : ℕ) (e : E) → k ≢ j → StandsIn ((k, x) ∷ list) j e → StandsIn list j e
  not_here k x list j e ne (zero, at) = absurd (ne (let same : (k, x) ≡ (j, e) = cc (at) in ap (λ (z : ℕ × E). z.0) same))
  not_here k x list j e ne (suc i, at) = (i, at)

  whole : (es : List E) (m : ℕ) → m ≡ 0 → drop m es ≡ es
  whole [] zero is = refl
  whole [] (suc m) is = absurd (omega arith)
  whole (x ∷ es) zero is = refl
  whole (x ∷ es) (suc m) is = absurd (omega arith)

  skip : (o : Option B) (bs : List B) → (o ≢ None → ⊥) → cons_option o bs ≡ bs
  skip None bs no_some = refl
  skip (Some b) bs no_some = absurd (no_some (λ e. cc (e)))

  next : (start k : ℕ) (x : E) (es : List E) (list : List (ℕ × E)) → HasPicked start k (x ∷ es) list → HasPicked start (k + 1) es list
  next start k x es list has = λ j e le at some. let place : k + suc j ≡ k + 1 + j = omega arith in
      subst (λ (n : ℕ). StandsIn list n e) place (has (suc j) e (omega arith) at some)

  pub picked_from : (n start k : ℕ) (h : List (Mark E)) → Late start (own_from n k h) → HasPicked start k (entries_of h) (own_from n k h)
      → filter_map f (drop (start - k) (entries_of h)) ≡ filter_map f (entries_in (own_from n k h))
  picked_from n start k [] late has = ap (filter_map f) (drop_none (start - k))
    where
      drop_none : (m : ℕ) → drop m (entries_of {E = E} []) ≡ []
      drop_none zero = refl
      drop_none (suc m) = refl
  picked_from n start k (x ∷ xs) late has = step (λ late_rest has_rest. picked_from n start (k + 1) xs late_rest has_rest) (is_number x.1 n) late has
    where
      tail : List (ℕ × E)
      tail = own_from n (k + 1) xs

      es : List E
      es = entries_of xs

      -- the rest, from the place k + 1 on, where the own list of the rest has what it has
      Rest : Type 0
      Rest = Late start tail → HasPicked start (k + 1) es tail → filter_map f (drop (start - (k + 1)) es) ≡ filter_map f (entries_in tail)

      step : Rest → (b : Bool) → Late start (cond b ((k, x.0) ∷ tail) tail) → HasPicked start k (x.0 ∷ es) (cond b ((k, x.0) ∷ tail) tail)
          → filter_map f (drop (start - k) (x.0 ∷ es)) ≡ filter_map f (entries_in (cond b ((k, x.0) ∷ tail) tail))
      step rest true late has = let from : start ≤ k = late k x.0 (0, refl) in
          let has_rest : HasPicked start (k + 1) es tail = λ j e le at some. let place : k + suc j ≡ k + 1 + j = omega arith in let ne : k ≢ k + suc j = omega arith in
          subst (λ (m : ℕ). StandsIn tail m e) place (not_here k x.0 tail (k + suc j) e ne (has (suc j) e (omega arith) at some)) in
          let late_rest : Late start tail = λ j e s. late j e (suc s.0, s.1) in
          ap (filter_map f) (whole (x.0 ∷ es) (start - k) (omega arith))
          ∙ ap (cons_option (f x.0)) (ap (filter_map f) (sym (whole es (start - (k + 1)) (omega arith))) ∙ rest late_rest has_rest)
      step rest false late has = let has_rest : HasPicked start (k + 1) es tail = next start k x.0 es tail has in ⊎_elim
          (λ (lt : k < start). ap (λ (m : ℕ). filter_map f (drop m (x.0 ∷ es))) (let e : start - k ≡ suc (start - (k + 1)) = omega arith in e) ∙ rest late has_rest)
          (λ (le : start ≤ k). ap (filter_map f) (whole (x.0 ∷ es) (start - k) (omega arith))
          ∙ (skip (f x.0) (filter_map f es) (λ some. let own_has = has 0 x.0 (omega arith) refl some in let far = own_only n (k + 1) xs (k + 0) x.0 own_has in let place = far.2 in absurd (omega arith))
          ∙ (ap (filter_map f) (sym (whole es (start - (k + 1)) (omega arith))) ∙ rest late has_rest))) (cases_lt k start)

past_late : {E : Type 0} (start : ℕ) (list : List (ℕ × E)) → IsPast start list → (j : ℕ) (e : E) → StandsIn list j e → start ≤ j
past_late {E} start list past j e s = let at = get_or_from_slice_get list s.0 (j, e) (j, e) s.1 in let le = past s.0 (j, e) (slice_get_within list s.0 (j, e) s.1) in
    subst (λ (x : ℕ × E). start ≤ x.0) at le

module _ {V E F : Type 0} {G : Ghosts V E F} where
  pub picked_own : {B : Type 0} (may : ℕ → E → Type 0) (m : Maker V E F G) (f : E → Option B) (n : ℕ) (a : About F) → IsAllOwned may m → about_by m ≡ Some a → AddsAlone f may n → IsPast a.start (own_by m n)
      → filter_map f (drop a.start (seen_by m)) ≡ filter_map f (entries_in (own_by m n))
  picked_own may m f n a owned is alone past = ap (λ (k : ℕ). filter_map f (drop k (seen_by m))) (let e : a.start ≡ a.start - 0 = omega arith in e)
      ∙ picked_from f n a.start 0 m.seat.me.0.seen (past_late a.start (own_by m n) past) (λ j e le at some.
      let o = owned a j e is (omega arith) at in let same : o.0 ≡ n = alone o.0 e o.2 some in let place : j ≡ 0 + j = omega arith in
      subst (λ (p : ℕ). StandsIn (own_by m n) p e) place (subst (λ (k : ℕ). StandsIn (own_by m k) j e) same o.3))

  pub each_added : (may : ℕ → E → Type 0) (m : Maker V E F G) (before : Maker V E F G) (ps : List (Pass V E F)) → IsAllOwned may m → Joined before m ps 0 → NoneAdded before
      → (a : About F) (j : ℕ) (e : E) → about_by m ≡ Some a → a.start ≤ j → slice_get (seen_by m) j ≡ Some e → AddedByOne may ps j e
  each_added may m before ps owned t none a j e is le at = let o = owned a j e is le at in ⊎_elim
      (λ (old : Has (ended_by before) o.0). let empty : own_by m o.0 ≡ [] = (t.before o.0 old).1 ∙ none o.0 old in nothing (subst (λ (l : List (ℕ × E)). StandsIn l j e) empty o.3))
      (λ (one : IsOneOf ps 0 o.0). record {
        place = one.0;
        pass = one.1;
        is = one.3;
        allowed = subst (λ (k : ℕ). may k e) (sym one.4) o.2;
        own = subst (λ (l : List (ℕ × E)). StandsIn l j e) (ap (own_by m) (sym one.4) ∙ (t.each one.0 one.1 one.2 one.3).own_is) o.3;
      }) (t.only o.0 o.1)
    where
      nothing : StandsIn {E = E} [] j e → AddedByOne may ps j e
      nothing s = absurd (cc (s.1))
