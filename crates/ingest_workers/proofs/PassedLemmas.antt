-- The makers of all passes of a store: of those for the jobs, and of the two for the follower beside the workers.
use Rattle.std.proofs.Common.{◌≡◌, ◌⊎◌, inl, inr, ⊎_elim, ℕ, ◌+◌, ◌-◌, ◌<◌, ◌≤◌, List, [], ◌∷◌, ◌++◌, length, sym, ap, ◌∙◌, subst, arith, Some, slice_get, All}
use Rattle.std.proofs.lemmas.Bool.{cases_lt}
use mathlib.Core.List.{IsPrefix}
use Rattle.turn_lock.specs.declared.grows.Grows.{Ghosts}
use Rattle.turn_lock.specs.History.{Has}
use Rattle.turn_lock.specs.Words.{about, number_of, own_list, seen, about_by, ended_by, made_by, own_by, seen_by, HasJoinedAll, IsFreshOf, IsStillBy}
use Rattle.turn_lock.proofs.FrontLemmas.{prefix_length, prefix_trans, prefix_whole}
use Rattle.ingest_fork.specs.Passes.{AreStill, Fresh, HasEnded, IsOneOf, Joined}
use Rattle.ingest_fork.proofs.PassLemmas.{Joins}
use Rattle.ingest_fork.proofs.PlaceLemmas.{there_is}
use Rattle.disk_seal.specs.declared.entry.StoreEntry.{StoreEntry}
use Rattle.disk_seal.specs.declared.fixed.StoreFixed.{StoreFixed}
use Rattle.disk_seal.specs.View.{StoreView}
use Rattle.disk_seal.specs.Fixed.{KeeperPass}
use Rattle.disk_seal.specs.Looked.{HasTurned}
use Rattle.disk_seal.specs.Told.{IsMark}
use Rattle.ingest_workers.specs.Locked.{HasEndedWith, KeeperMaker}

-- an own list that has marks alone
abbrev AreMarks : List (ℕ × StoreEntry) → Type 0
AreMarks list = All (λ (x : ℕ × StoreEntry). IsMark x.1) list

marks_of : {D : Type 0} (x y : KeeperPass D) (list : List (ℕ × StoreEntry)) → HasTurned x y → own_list x ≡ [] → list ≡ own_list y → AreMarks list
marks_of x y list t none is = subst (λ (l : List (ℕ × StoreEntry)). AreMarks l) (sym (is ∙ (t.own ∙ ap (λ (l : List (ℕ × StoreEntry)). l ++ t.marks) none))) t.only

module _ {D : Type 0} {G : Ghosts (StoreView D) StoreEntry (StoreFixed D)} where
  -- `m` made a pass for each job, `m1` then one for the follower; `m2` joined this one once it had followed, and `m3` those of the jobs.
  pub record Forked (m m1 m2 m3 m4 : KeeperMaker D G) (ks qs : List (KeeperPass D)) (count : ℕ) (p q : KeeperPass D) : Type 0 where
    pub fresh : Fresh m m1 ks count
    pub still : AreStill ks qs
    pub made : IsStillBy m1 m2
    pub one_more : made_by m2 ≡ made_by m1 + 1
    pub reader : IsFreshOf m1 p
    pub turned : HasTurned p q
    pub joins : Joins m2 m3 q
    pub joined : Joined m3 m4 qs 0

  -- `m4` made another pass for the follower, and `m5` joined it.
  pub record Drained (m4 m5 m6 : KeeperMaker D G) (r s : KeeperPass D) : Type 0 where
    pub made : IsStillBy m4 m5
    pub one_more : made_by m5 ≡ made_by m4 + 1
    pub reader : IsFreshOf m4 r
    pub turned : HasTurned r s
    pub joins : Joins m5 m6 s

  module _ (m m1 m2 m3 m4 : KeeperMaker D G) (ks qs : List (KeeperPass D)) (count : ℕ) (p q : KeeperPass D) (f : Forked m m1 m2 m3 m4 ks qs count p q) where
    pub about_then : about_by m4 ≡ about_by m
    about_then = f.joined.about_is ∙ (f.joins.about_is ∙ (f.made.about_is ∙ f.fresh.still.about_is))

    -- the second pass has seen what the first one had, and is of the same lock
    pub seen_then : (r : KeeperPass D) → IsFreshOf m4 r → IsPrefix (seen q) (seen r)
    seen_then r new = subst (λ (l : List StoreEntry). IsPrefix (seen q) l) (sym new.seen_is) (prefix_trans (seen q) (seen_by m3) (seen_by m4) f.joins.learned.theirs_first f.joined.seen_on)

    pub about_same : (r : KeeperPass D) → IsFreshOf m4 r → about r ≡ about q
    about_same r new = (new.about_is ∙ about_then) ∙ sym (f.turned.still.about_is ∙ (f.reader.about_is ∙ f.fresh.still.about_is))

    made_then : made_by m4 ≡ made_by m + count + 1
    made_then = let a = f.joined.made in let b = f.joins.made in let c = f.one_more in let d = f.fresh.made in omega (arith, a, b, c, d)

    seen_first : IsPrefix (seen_by m) (seen_by m4)
    seen_first = prefix_trans (seen_by m) (seen_by m3) (seen_by m4) (subst (λ (l : List StoreEntry). IsPrefix l (seen_by m3)) (f.made.seen_is ∙ f.fresh.still.seen_is) f.joins.learned.mine_first) f.joined.seen_on

    module _ (m5 m6 : KeeperMaker D G) (r s : KeeperPass D) (e : Drained m4 m5 m6 r s) where
      pub about_end : about_by m ≡ about s
      about_end = sym (e.turned.still.about_is ∙ (e.reader.about_is ∙ about_then))

      seen_last : seen_by m5 ≡ seen r
      seen_last = e.made.seen_is ∙ sym e.reader.seen_is

      -- the last pass has seen all that its maker has
      pub sees_all : seen_by m6 ≡ seen s
      sees_all = ⊎_elim
          (λ (mine : seen_by m6 ≡ seen_by m5). let low = prefix_length (seen r) (seen s) e.turned.seen_on in let long : length (seen_by m6) ≡ length (seen r) = ap length (mine ∙ seen_last) in
          sym (prefix_whole (seen s) (seen_by m6) e.joins.learned.theirs_first (omega (arith, low, long))))
          (λ (theirs : seen_by m6 ≡ seen s). theirs) e.joins.learned.longer

      seen_after : IsPrefix (seen_by m4) (seen_by m6)
      seen_after = subst (λ (l : List StoreEntry). IsPrefix l (seen_by m6)) e.made.seen_is e.joins.learned.mine_first

      -- what had ended then has ended now, and is as it was
      in_last : (n : ℕ) → Has (ended_by m4) n → Has (ended_by m5) n
      in_last n has = subst (λ (l : List ℕ). Has l n) (sym e.made.ended) has

      ended_now : (n : ℕ) → Has (number_of s ∷ ended_by m5) n → Has (ended_by m6) n
      ended_now n has = subst (λ (l : List ℕ). Has l n) (sym e.joins.ended) has

      ended_last : (n : ℕ) → Has (ended_by m4) n → Has (ended_by m6) n
      ended_last n has = ended_now n (inr (in_last n has))

      own_last : (n : ℕ) → Has (ended_by m4) n → own_by m6 n ≡ own_by m4 n
      own_last n has = e.joins.own n (in_last n has) ∙ e.made.own_is n

      each_ended : (i : ℕ) (x : KeeperPass D) → slice_get qs i ≡ Some x → HasEnded m6 x
      each_ended i x at = let has = f.joined.each i x (omega arith) at in record {
        ended = ended_last (number_of x) has.ended;
        own_is = own_last (number_of x) has.ended ∙ has.own_is;
        seen_on = prefix_trans (seen x) (seen_by m4) (seen_by m6) has.seen_on seen_after;
      }

      -- all others are the two of the follower, which added marks alone
      only_these : ended_by m ≡ [] → (n : ℕ) → Has (ended_by m6) n → IsOneOf qs 0 n ⊎ AreMarks (own_by m6 n)
      only_these none n has = ⊎_elim
          (λ (is : number_of s ≡ n). inr (marks_of r s (own_by m6 n) e.turned e.reader.own_is (ap (own_by m6) (sym is) ∙ e.joins.taken)))
          (λ (old : Has (ended_by m5) n). let at_fork : Has (ended_by m4) n = subst (λ (l : List ℕ). Has l n) e.made.ended old in ⊎_elim
          (λ (first : Has (ended_by m3) n). inr (marks_of p q (own_by m6 n) f.turned f.reader.own_is (own_last n at_fork ∙ ((f.joined.before n first).1 ∙ (ap (own_by m3) (sym (of_reader first)) ∙ f.joins.taken)))))
          (λ (one : IsOneOf qs 0 n). inl one) (f.joined.only n at_fork))
          (subst (λ (l : List ℕ). Has l n) e.joins.ended has)
        where
          of_reader : Has (ended_by m3) n → number_of q ≡ n
          of_reader first = ⊎_elim
              (λ (is : number_of q ≡ n). is)
              (λ (old : Has (ended_by m2) n). absurd (subst (λ (l : List ℕ). Has l n) (f.made.ended ∙ (f.fresh.still.ended ∙ none)) old))
              (subst (λ (l : List ℕ). Has l n) f.joins.ended first)

      all_ended : made_by m ≡ 0 → HasJoinedAll m6
      all_ended none a n is low high = ⊎_elim
          (λ (lt : n < a.first + count). ended_last n (of_job lt))
          (λ (le : a.first + count ≤ n). ⊎_elim
          (λ (one : n < a.first + count + 1). ended_last n (of_first (omega (arith, le, one))))
          (λ (two : a.first + count + 1 ≤ n). ended_now n (inl (of_last (omega (arith, total, high, two))))) (cases_lt n (a.first + count + 1)))
          (cases_lt n (a.first + count))
        where
          total : made_by m6 ≡ count + 2
          total = let b = e.joins.made in let c = e.one_more in let d = made_then in omega (arith, b, c, d, none)

          known : about_by m4 ≡ Some a
          known = sym (e.made.about_is) ∙ (sym e.joins.about_is ∙ is)

          was : about_by m ≡ Some a
          was = sym about_then ∙ known

          of_job : n < a.first + count → Has (ended_by m4) n
          of_job lt = let i : ℕ = n - a.first in let counted = f.fresh.counted in let still = f.still.counted in
              let k = there_is ks i (omega (arith, low, lt, counted)) in let x = there_is qs i (omega (arith, low, lt, counted, still)) in
              let place : a.first + (made_by m + i) ≡ n = omega (arith, none, low) in
              let number : number_of x.0 ≡ n = (f.still.each i k.0 x.0 k.1 x.1).number ∙ ((f.fresh.each i k.0 k.1).number a was ∙ place) in
              subst (λ (y : ℕ). Has (ended_by m4) y) number (f.joined.each i x.0 (omega arith) x.1).ended

          of_first : n ≡ a.first + count → Has (ended_by m4) n
          of_first at = let made = f.fresh.made in let place : a.first + made_by m1 ≡ n = omega (arith, made, none, at) in
              let number : number_of q ≡ n = f.turned.still.number ∙ (f.reader.number a (f.fresh.still.about_is ∙ was) ∙ place) in
              let here : Has (number_of q ∷ ended_by m2) n = inl number in
              (f.joined.before n (subst (λ (l : List ℕ). Has l n) (sym f.joins.ended) here)).0

          of_last : n ≡ a.first + count + 1 → number_of s ≡ n
          of_last at = let made = made_then in let place : a.first + made_by m4 ≡ n = omega (arith, made, none, at) in
              e.turned.still.number ∙ (e.reader.number a known ∙ place)

      pub ended_with : made_by m ≡ 0 → ended_by m ≡ [] → HasEndedWith m m6 qs
      ended_with none empty = record {
        about_is = e.joins.about_is ∙ (e.made.about_is ∙ about_then);
        seen_on = prefix_trans (seen_by m) (seen_by m4) (seen_by m6) seen_first seen_after;
        each = each_ended;
        only = only_these empty;
        all = all_ended none;
      }
