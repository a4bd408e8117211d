-- Passes that are made one after the other, and joined one after the other from the last one on.
use Rattle.std.proofs.Common.{◌≡◌, ℕ, zero, suc, ◌+◌, ◌-◌, ◌<◌, ◌≤◌, List, [], ◌∷◌, ◌++◌, length, sym, refl, ap, ◌∙◌, subst, ⊎_elim, inl, inr, arith, Some, slice_get, length-append}
use Rattle.std.proofs.lemmas.Option.{slice_get_within}
use Rattle.std.proofs.lemmas.Bool.{cases_lt}
use Rattle.turn_lock.specs.declared.grows.Grows.{Ghosts}
use Rattle.turn_lock.specs.declared.board.About.{About}
use Rattle.turn_lock.specs.declared.maker.Maker.{Maker}
use Rattle.turn_lock.specs.declared.pass.Pass.{Pass}
use Rattle.turn_lock.specs.History.{Has, HasLearned}
use Rattle.turn_lock.specs.Words.{number_of, seen, own_list, lock_by, made_by, seen_by, ended_by, own_by, about_by, IsStill, IsStillBy, IsFreshOf, HasJoinedAll}
use Rattle.turn_lock.proofs.FrontLemmas.{prefix_self, prefix_trans}
use Rattle.ingest_fork.specs.Passes.{IsFresh, Fresh, AreStill, IsOneOf, HasEnded, Joined, OnlyThese}
use Rattle.ingest_fork.proofs.PlaceLemmas.{in_left, in_right, there_is}

module _ {V E F : Type 0} {G : Ghosts V E F} where
  pub fresh_none : (m : Maker V E F G) → Fresh m m [] 0
  fresh_none m = record {
    still = record { lock = refl; about_is = refl; ended = refl; seen_is = refl; own_is = λ n. refl };
    made = omega arith;
    counted = refl;
    each = λ i p at. absurd (cc (at));
  }

  fresh_next : (m m1 : Maker V E F G) (i : ℕ) (p : Pass V E F) → IsStillBy m m1 → made_by m1 ≡ made_by m + i → IsFreshOf m1 p → IsFresh m i p
  fresh_next m m1 i p s made f = record {
    lock = f.lock ∙ s.lock;
    about_is = f.about_is ∙ s.about_is;
    ready = f.ready;
    number = λ a is. f.number a (s.about_is ∙ is) ∙ ap (λ (n : ℕ). a.first + n) made;
    seen_is = f.seen_is ∙ s.seen_is;
    own_is = f.own_is;
  }

  pub fresh_more : (m m1 m2 : Maker V E F G) (ps : List (Pass V E F)) (i : ℕ) (p : Pass V E F) → Fresh m m1 ps i → IsStillBy m1 m2 → made_by m2 ≡ made_by m1 + 1 → IsFreshOf m1 p
      → Fresh m m2 (ps ++ p ∷ []) (i + 1)
  fresh_more m m1 m2 ps i p t s made f = let so_far = t.made in let count = t.counted in let first = t.still in record {
    still = record {
      lock = s.lock ∙ first.lock;
      about_is = s.about_is ∙ first.about_is;
      ended = s.ended ∙ first.ended;
      seen_is = s.seen_is ∙ first.seen_is;
      own_is = λ n. s.own_is n ∙ first.own_is n;
    };
    made = omega arith;
    counted = length-append ps (p ∷ []) ∙ ap (λ (n : ℕ). n + 1) count;
    each = λ n q at. ⊎_elim
        (λ (lt : n < length ps). t.each n q (sym (in_left ps (p ∷ []) n lt) ∙ at))
        (λ (le : length ps ≤ n). last n q le (sym (in_right ps (p ∷ []) n le) ∙ at)) (cases_lt n (length ps));
  }
    where
      alone : (k : ℕ) (q : Pass V E F) → slice_get (p ∷ []) k ≡ Some q → (k ≡ 0) × (p ≡ q)
      alone zero q at = (refl, cc (at))
      alone (suc k) q at = absurd (cc (at))

      last : (n : ℕ) (q : Pass V E F) → length ps ≤ n → slice_get (p ∷ []) (n - length ps) ≡ Some q → IsFresh m n q
      last n q le at = let here = alone (n - length ps) q at in let count = t.counted in let none = here.0 in let place : i ≡ n = omega arith in
          subst (λ (x : Pass V E F). IsFresh m n x) here.1 (subst (λ (k : ℕ). IsFresh m k p) place (fresh_next m m1 i p t.still t.made f))

  pub joined_none : (m : Maker V E F G) (ps : List (Pass V E F)) → Joined m m ps (length ps)
  joined_none m ps = record {
    lock = refl;
    about_is = refl;
    made = refl;
    seen_on = prefix_self (seen_by m);
    before = λ n has. (has, refl);
    each = λ i p le at. let lt = slice_get_within ps i p at in absurd (omega arith);
    only = λ n has. inl has;
  }

  -- what a join tells of the maker and the pass
  pub record Joins (m m' : Maker V E F G) (p : Pass V E F) : Type 0 where
    pub lock : lock_by m' ≡ lock_by m
    pub about_is : about_by m' ≡ about_by m
    pub made : made_by m' ≡ made_by m
    pub own : (n : ℕ) → Has (ended_by m) n → own_by m' n ≡ own_by m n
    pub ended : ended_by m' ≡ number_of p ∷ ended_by m
    pub learned : HasLearned (seen_by m) (seen p) (seen_by m')
    pub taken : own_by m' (number_of p) ≡ own_list p

  pub joined_more : (m m1 m2 : Maker V E F G) (ps : List (Pass V E F)) (k : ℕ) (p : Pass V E F) → slice_get ps k ≡ Some p → Joined m m1 ps (k + 1) → Joins m1 m2 p → Joined m m2 ps k
  joined_more m m1 m2 ps k p here t j = record {
    lock = j.lock ∙ t.lock;
    about_is = j.about_is ∙ t.about_is;
    made = j.made ∙ t.made;
    seen_on = prefix_trans (seen_by m) (seen_by m1) (seen_by m2) t.seen_on j.learned.mine_first;
    before = λ n has. let r = t.before n has in (more n (inr r.0), j.own n r.0 ∙ r.1);
    each = λ i q le at. ⊎_elim
        (λ (lt : i < k + 1). let place : k ≡ i = omega arith in let same : p ≡ q = cc (here, at, place) in subst (λ (x : Pass V E F). HasEnded m2 x) same
        (record { ended = more (number_of p) (inl refl); own_is = j.taken; seen_on = j.learned.theirs_first }))
        (λ (past : k + 1 ≤ i). let r = t.each i q past at in record {
          ended = more (number_of q) (inr r.ended);
          own_is = j.own (number_of q) r.ended ∙ r.own_is;
          seen_on = prefix_trans (seen q) (seen_by m1) (seen_by m2) r.seen_on j.learned.mine_first;
        }) (cases_lt i (k + 1));
    only = λ n has. ⊎_elim
        (λ (is : number_of p ≡ n). inr (k, p, omega arith, here, is))
        (λ (old : Has (ended_by m1) n). ⊎_elim (λ (first : Has (ended_by m) n). inl first)
        (λ (one : IsOneOf ps (k + 1) n). let from = one.2 in inr (one.0, one.1, omega arith, one.3, one.4)) (t.only n old))
        (subst (λ (l : List ℕ). Has l n) j.ended has);
  }
    where
      more : (n : ℕ) → Has (number_of p ∷ ended_by m1) n → Has (ended_by m2) n
      more n has = subst (λ (l : List ℕ). Has l n) (sym j.ended) has

  pub all_joined : (m m' later end : Maker V E F G) (ps qs : List (Pass V E F)) (count : ℕ) → Fresh m m' ps count → AreStill ps qs → OnlyThese m m' later → Joined later end qs 0 → HasJoinedAll end
  all_joined m m' later end ps qs count f s o j = λ a n is low high. let was : about_by m ≡ Some a = sym f.still.about_is ∙ (sym o.about_is ∙ (sym j.about_is ∙ is)) in
      let total : made_by end ≡ made_by m + count = j.made ∙ (o.made ∙ f.made) in
      ⊎_elim
      (λ (lt : n < a.first + made_by m). (j.before n (o.others a n was low lt)).0)
      (λ (le : a.first + made_by m ≤ n). one a n was le (omega arith)) (cases_lt n (a.first + made_by m))
    where
      one : (a : About F) (n : ℕ) → about_by m ≡ Some a → a.first + made_by m ≤ n → n < a.first + made_by m + count → Has (ended_by end) n
      one a n was le lt = let i : ℕ = n - (a.first + made_by m) in let made = f.counted in let still = s.counted in
          let p = there_is ps i (omega arith) in let q = there_is qs i (omega arith) in
          let ended = (j.each i q.0 (omega arith) q.1).ended in
          let number : number_of q.0 ≡ n = (s.each i p.0 q.0 p.1 q.1).number ∙ ((f.each i p.0 p.1).number a was ∙ (let e : a.first + (made_by m + i) ≡ n = omega arith in e)) in
          subst (λ (x : ℕ). Has (ended_by end) x) number ended

module _ {V E F : Type 0} where
  pub still_same : (ps : List (Pass V E F)) → AreStill ps ps
  still_same ps = record {
    counted = refl;
    each = λ i p q one two. let same : p ≡ q = cc (one, two) in subst (λ (x : Pass V E F). IsStill p x) same (record { lock = refl; number = refl; about_is = refl });
  }
