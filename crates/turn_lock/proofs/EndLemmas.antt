-- The first state of a table, and the last.
use Rattle.std.proofs.Common.{◌≡◌, ◌≢◌, ℕ, zero, suc, ◌+◌, ◌<◌, ◌≤◌, List, [], ◌∷◌, length, sym, refl, ap, ◌∙◌, subst, ⊎_elim, inl, inr, arith, Option, Some, None, slice_get}
use mathlib.Core.Logic.{dite}
use native.Mathlib.Decide.{dec_le}
use mathlib.Core.Option.{some, some-injective, some-ne-none}
use lib.ListN.{get_elem?, length-map}
use Rattle.atomic_table.specs.Table.{Me, opening, Final, Seen}
use Rattle.turn_lock.specs.declared.board.About.{About}
use Rattle.turn_lock.specs.declared.board.View.{View}
use Rattle.turn_lock.specs.History.{Mark, entries_of, unmarked, Has, own, StandsIn}
use Rattle.turn_lock.specs.Seats.{IsFree, IsMaker, entries_seen}
use Rattle.turn_lock.specs.Grown.{Each, Turning, Seeing, Knowing, IsOut, Claims, Owns, Kept, starting}
use Rattle.turn_lock.specs.StepPlays.{Agrees}
use Rattle.turn_lock.proofs.FrontLemmas.{prefix_self, prefix_whole}
use Rattle.turn_lock.proofs.TurnLemmas.{not_true, some_same}
use Rattle.turn_lock.proofs.OwnLemmas.{own_has, entry_at, entries_unmarked}

module _ {X : Type 0} where
  only_one : (x y : X) (i : ℕ) → get_elem? (x ∷ []) i ≡ some y → (i ≡ 0) × (x ≡ y)
  only_one x y zero e = (refl, some-injective x y e)
  only_one x y (suc i) e = absurd (some-ne-none y (sym e))

  there_is : (l : List X) (i : ℕ) → i < length l → (x : X) × (get_elem? l i ≡ some x)
  there_is [] i lt = absurd (omega arith)
  there_is (x ∷ xs) zero lt = (x, refl)
  there_is (x ∷ xs) (suc i) lt = there_is xs i (omega arith)

unmarked_none : {E : Type 0} (es : List E) (j : ℕ) (x : Mark E) → get_elem? (unmarked es) j ≡ some x → x.1 ≡ None
unmarked_none [] j x at = absurd (some-ne-none x (sym at))
unmarked_none (e ∷ es) zero x at = let same = some-injective (e, None) x at in sym (ap (λ (y : Mark _). y.1) same)
unmarked_none (e ∷ es) (suc j) x at = unmarked_none es j x at

module _ {V E F : Type 0} (entries : V → List E) (fixed : V → F) (may : ℕ → E → Type 0) where
  abbrev M : Type 0
  M = Me (Option V) (View E F)

  abbrev base_at : ℕ → V → About F
  base_at first y = record { first = first; start = length (entries y); fixed = fixed y }

  pub starts : (first : ℕ) (y : V) → first < 4294967296
      → Kept entries fixed may (base_at first y) (entries y) (opening (0 ∷ 0 ∷ length (entries y) ∷ first ∷ []) (Some y ∷ []) (starting entries (base_at first y) y))
  starts first y lt = let base : About F = base_at first y in let v : View E F = starting entries base y in let h : List (Mark E) = unmarked (entries y) in
      let len : length h ≡ length (entries y) = length-map (entries y) (λ (e : E). let r : Mark E = (e, None) in r) in
      let each : (P : View E F → Type 0) → P v → Each P (v ∷ []) = λ P p i w e. subst P (only_one v w i e).1 p in
      let nobody : (n : ℕ) (w : View E F) → v ≡ w → Claims w n → ⊥ = λ n w same c. ⊎_elim (λ (e : w.number ≡ Some n). cc (ap (λ (u : View E F). u.number) same, e))
      (⊎_elim (λ (e : w.gone ≡ Some n). cc (ap (λ (u : View E F). u.gone) same, e)) (λ (e : Has w.ended n). subst (λ (l : List ℕ). Has l n) (sym (ap (λ (u : View E F). u.ended) same)) e)) c in record {
        next = 0;
        serving = 0;
        history = h;
        count = first;
        words = ap (λ (z : ℕ). 0 ∷ 0 ∷ z ∷ first ∷ []) (sym len);
        small = omega arith;
        begins = prefix_self h;
        turns = record {
          turning = each (λ u. Turning 0 0 u.ticket u.inside) (record { between = λ t is. absurd (cc (is)); served = λ turn. absurd (cc (turn)) });
          apart = λ i j u w n e f cu cw. (only_one v u i e).0 ∙ sym (only_one v w j f).0;
          queue = omega arith;
        };
        home = λ _. (y, refl, sym (entries_unmarked (entries y)), refl);
        shown = record {
          seeing = each (λ u. Seeing h u.inside u.seen u.also) (record { front = prefix_self h; other = (h, refl); whole = λ turn. absurd (cc (turn)) });
          knowing = each (λ u. Knowing base u.about u.seen) (record { is = λ a is. (cc (is), omega (arith, len)) });
          whole = (0, v, refl, inl refl);
        };
        dealt = record {
          low = lt;
          opened = omega (arith, len);
          room = (omega arith, omega arith);
          owning = each (Owns first first h) (record {
            bound = λ n c. absurd (nobody n v refl c);
            alone = λ n is. absurd (cc (is));
            mine = λ n is. absurd (cc (is));
            theirs = λ n is. absurd (cc (is));
            past = λ n is. absurd is;
            making = λ m is. let e = some_same 0 m is in omega arith;
            keeper = λ n c none. cc (none);
            worker = λ turn. absurd (cc (turn));
          });
          claims = λ i j u w n e f cu cw. (only_one v u i e).0 ∙ sym (only_one v w j f).0;
          makers = λ i j u w n e f cu cw. (only_one v u i e).0 ∙ sym (only_one v w j f).0;
          claimed = λ n low high. absurd (omega arith);
          added = λ j x le at. let lt' = Rattle.turn_lock.proofs.SeatLemmas.index_lt h j x at in absurd (omega (arith, len));
          plain = λ j x _ at. unmarked_none (entries y) j x at;
        };
      }

  pub starts_with : (first n : ℕ) (y z : V) (slots : List (Option V)) → first < 4294967296 → z ≡ y → n ≡ length (entries y) → slots ≡ Some y ∷ []
      → Kept entries fixed may (base_at first z) (entries z) (opening (0 ∷ 0 ∷ n ∷ first ∷ []) slots (starting entries (base_at first z) z))
  starts_with first n y z slots lt same len are =
      let K : V → ℕ → List (Option V) → Type 0 = λ w k l. Kept entries fixed may (base_at first w) (entries w) (opening (0 ∷ 0 ∷ k ∷ first ∷ []) l (starting entries (base_at first w) w)) in
      subst (λ w. K w n slots) (sym same) (subst (λ l. K y n l) (sym are) (subst (λ k. K y k (Some y ∷ [])) (sym len) (starts first y lt)))

  abbrev AllEnded : M → ℕ → Type 0
  AllEnded m made = (a : About F) (n : ℕ) → m.0.about ≡ Some a → a.first ≤ n → n < a.first + made → Has m.0.ended n

  abbrev AllOwned : M → Type 0
  AllOwned m = (a : About F) (j : ℕ) (e : E) → m.0.about ≡ Some a → a.start ≤ j → slice_get (entries_seen m) j ≡ Some e → (n : ℕ) × Has m.0.ended n × may n e × StandsIn (own n m.0.seen) j e

  known_as : (o : Option (About F)) → o ≢ None → (a : About F) × (o ≡ Some a)
  known_as None no_ = absurd (no_ refl)
  known_as (Some a) no_ = (a, refl)

  pub closes : (base : About F) (begun : List E) (id : ℕ) (m : M) (made : ℕ) (ws : List ℕ) (xs : List (Option V)) (x : Option V) → Final (Seen (Kept entries fixed may base begun) id m.0) ws xs → get_elem? xs 0 ≡ some x
      → IsFree m → IsMaker m made → m.0.about ≢ None → AllEnded m made → (y : V) × (x ≡ Some y) × (entries y ≡ entries_seen m) × Agrees fixed m.0 y × AllOwned m
  closes base begun id m made ws xs x last at free maker known ended =
      let s = last.0 in let k = last.1.0 in let here = last.1.1 in let v : View E F = m.0 in let h : List (Mark E) = k.history in
      let sees = k.shown.seeing id v here in let knows = k.shown.knowing id v here in let owns = k.dealt.owning id v here in
      let about = known_as v.about known in let a : About F = about.0 in let same : a ≡ base = (knows.is a about.1).0 in
      let first : a.first ≡ base.first = ap (λ (b : About F). b.first) same in let start : a.start ≡ base.start = ap (λ (b : About F). b.start) same in
      let count : k.count ≡ base.first + made = owns.making made maker.2 in
      let dealt : (n : ℕ) → base.first ≤ n → n < k.count → Has v.ended n = λ n low high. ended a n about.1 (omega arith) (omega arith) in
      let out : Each IsOut s.views = λ i u e. not_true u.inside (λ turn. let n = some_of u.number ((k.dealt.owning i u e).worker turn) in let b = (k.dealt.owning i u e).bound n.0 (inl n.1) in
      let twin : i ≡ id = k.dealt.claims i id u v n.0 e here (inl n.1) (inr (inr (dealt n.0 b.0 b.1))) in
      let eq : u ≡ v = some-injective u v (sym e ∙ (ap (λ j. get_elem? s.views j) twin ∙ here)) in absurd (cc (turn, ap (λ (w : View E F). w.inside) eq, free.1))) in
      let y = k.home out in
      let le : base.start ≤ length v.seen = (knows.is a about.1).1 in
      let far : length h ≤ length v.seen = dite (dec_le (length h) (length v.seen)) (λ p. p)
      (λ lt. let t = there_is h (length v.seen) (omega arith) in let ad = k.dealt.added (length v.seen) t.0 le t.1 in let below = owns.past ad.0 (dealt ad.0 ad.2 ad.3) (length v.seen) t.0 t.1 ad.1 in absurd (omega arith)) in
      let whole : v.seen ≡ h = prefix_whole v.seen h sees.front far in (
        y.0,
        some-injective x (Some y.0) (sym at ∙ last.4 0 (Some y.0) y.1),
        y.2 ∙ ap (λ (l : List (Mark E)). entries_of l) (sym whole),
        (λ b is. y.3 ∙ ap (λ (c : About F). c.fixed) (sym (knows.is b is).0)),
        λ b j e is from get. let start' = ap (λ (c : About F). c.start) (knows.is b is).0 in let t = entry_at v.seen j e get in
            let t' : get_elem? h j ≡ some t.0 = subst (λ (l : List (Mark E)). get_elem? l j ≡ some t.0) whole t.1 in let ad = k.dealt.added j t.0 (omega arith) t' in
            (ad.0, dealt ad.0 ad.2 ad.3, subst (may ad.0) t.2 ad.4, subst (λ (z : E). StandsIn (own ad.0 v.seen) j z) t.2 (subst (λ (p : ℕ). StandsIn (own ad.0 v.seen) p t.0.0) (omega arith) (own_has ad.0 0 v.seen j t.0 t.1 ad.1))),
      )
    where
      some_of : (o : Option ℕ) → o ≢ None → (n : ℕ) × (o ≡ Some n)
      some_of None no_ = absurd (no_ refl)
      some_of (Some n) no_ = (n, refl)
